use Rattle.std.proofs.Common.{◌≡◌, ◌+◌, ◌%◌, ◌^◌}
use Rattle.log_waits.specs.Left.{left_from, left_of}
use Rattle.log_waits.proofs.left.clocks_left.Given as goal

-- the sum so far and what is left from here are what is left from the place
abbrev pub invariant-loop-row : goal.invariant-loop-row
invariant-loop-row l = (l.sum + left_from l.clocks l.row l.used) % 2 ^ 64 ≡ left_of l.clocks l.fn.at % 2 ^ 64
