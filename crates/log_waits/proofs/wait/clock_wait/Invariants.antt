use Rattle.std.proofs.Common.{◌≡◌, ◌≤◌, max, length}
use Rattle.log_waits.specs.Wait.{wait_from, wait_of}
use Rattle.log_waits.proofs.wait.clock_wait.Given as goal

-- the wait from here is the wait from the place; a place past the end stays
abbrev pub invariant-loop-row : goal.invariant-loop-row
invariant-loop-row l = (wait_from l.clocks l.row l.used l.still ≡ wait_of l.clocks l.at l.n) × (l.row ≤ max l.at.row (length l.clocks))
