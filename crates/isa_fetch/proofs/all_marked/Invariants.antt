use Rattle.std.proofs.Common.{◌≡◌, ◌+◌, ◌-◌, ◌<◌, ◌≤◌, length}
use Rattle.isa_fetch.specs.Fetch.{all_marked}
use Rattle.isa_fetch.proofs.all_marked.Given as goal

-- what is left decides, and the bytes before were there
abbrev pub invariant-loop-i : goal.invariant-loop-i
invariant-loop-i l =
    (all_marked (l.n - l.i) l.marks (l.at + l.i) ≡ all_marked l.n l.marks l.at) × (0 < l.i → l.at + l.i ≤ length l.marks)
