use Rattle.std.proofs.Common.{◌≡◌, ◌%◌, not, ◌&&◌, length}
use Rattle.std.specs.Slice.Iter.{chunks_exact_rest, chunks_exact_size}
use Rattle.script.specs.Input.{ranges_paired}
use Rattle.script.proofs.ranges.ranges_paired.Given as goal

-- none so far is crossed and the rest are paired where all are; the rest comes in pairs too
abbrev pub invariant-loop-range : goal.invariant-loop-range
invariant-loop-range l =
    let rest = chunks_exact_rest l.range-iterator in
    ((not l.crossed && ranges_paired rest) ≡ ranges_paired l.ranges) × (chunks_exact_size l.range-iterator ≡ 2) × (length rest % 2 ≡ 0)
