use Rattle.std.proofs.Common.{ℕ, ◌<◌, List, length, not, ◌&&◌, ◌∷◌, sym, ap, ◌∙◌, arith}
use Rattle.std.specs.Slice.Iter.{chunks_exact_rest, chunks_exact_size}
use Rattle.script_lookup.specs.Rising.{ranges_rise}
use Rattle.script_lookup.proofs.RisingLaws.{rise_start, rise_next, rise_end, rises}
use Rattle.script_lookup.proofs.rising.ranges_rise.Goals as goal

pub loop-meeting-init : goal.loop-meeting-init
loop-meeting-init c =
    let come = c.chunks_exact-meeting-items.ensures in
    let same = c.into_iter-meeting-iterator.ensures.into_iter_gives in (
      ap (λ (r : List ℕ). ranges_rise (0 ∷ r)) (ap chunks_exact_rest same ∙ come.rest)
          ∙ rise_start c.args.ranges.now c.in-Some.rest.now c.in-Some.field-0-0.now c.in-Some.ensures.cases.0,
      ap chunks_exact_size same ∙ come.size,
    )

pub loop-meeting-preserved : goal.loop-meeting-preserved
loop-meeting-preserved c =
    let i = c.loop-meeting.invariant in
    let s = c.in-Some-meeting.ensures.steps in (
      rise_next c.loop-meeting.met c.in-Some-meeting.meeting.now _ (s.1.1 ∙ i.1)
          ∙ ap (λ (r : List ℕ). not c.loop-meeting.met && ranges_rise (0 ∷ r)) (sym s.1.0) ∙ i.0,
      s.0 ∙ i.1,
    )

pub returns : goal.returns
returns c =
    let i = c.loop-meeting.invariant in
    let few : length (chunks_exact_rest c.loop-meeting.meeting-iterator) < 2 = omega (arith, c.in-None.ensures.steps.1.0, i.1) in
    rises c.args.ranges.now (rise_end c.loop-meeting.met _ few ∙ i.0)
