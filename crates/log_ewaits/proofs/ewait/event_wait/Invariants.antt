use Rattle.std.proofs.Common.{◌≡◌, ◌-◌, length}
use Rattle.event_log.specs.Log.{log_of}
use Rattle.log_ewaits.specs.Ewait.{in64, passing, search_from, ewait_of}
use Rattle.log_ewaits.proofs.ewait.event_wait.Given as goal

-- the search from here, after the clocks passed by, is the search from the place
abbrev pub invariant-loop-row : goal.invariant-loop-row
invariant-loop-row l =
    let log = log_of l.log.clocks.now l.log.known.now l.log.values.now in
    in64 (passing l.passed (search_from log l.event l.value l.row l.used)) ≡ ewait_of log l.fn.at l.event l.value

abbrev pub decreases-loop-row : goal.decreases-loop-row
decreases-loop-row l = length l.log.clocks.now - l.row
