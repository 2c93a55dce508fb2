use Rattle.std.proofs.Common.{◌≡◌, not, ◌&&◌, ◌∷◌}
use Rattle.std.specs.Slice.Iter.{chunks_exact_rest, chunks_exact_size}
use Rattle.script_lookup.specs.Rising.{ranges_rise}
use Rattle.script_lookup.proofs.rising.ranges_rise.Given as goal

-- none so far met the one before it and the rest rise where all do; what stands before the rest is not looked at
abbrev pub invariant-loop-meeting : goal.invariant-loop-meeting
invariant-loop-meeting l =
    ((not l.met && ranges_rise (0 ∷ chunks_exact_rest l.meeting-iterator)) ≡ ranges_rise l.ranges) × (chunks_exact_size l.meeting-iterator ≡ 2)
