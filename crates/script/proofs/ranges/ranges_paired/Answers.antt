use Rattle.std.proofs.Common.{not, ◌&&◌, List, ℕ, length, sym, ap, ◌∙◌, length-append, arith}
use Rattle.script.specs.Input.{ranges_paired}
use Rattle.script.proofs.RangeLaws.{paired_next}
use Rattle.script.proofs.ranges.ranges_paired.Goals as goal

pub loop-range-preserved : goal.loop-range-preserved
loop-range-preserved c =
    let i = c.loop-range.invariant in
    let s = c.in-Some.ensures.steps in (
      paired_next c.loop-range.crossed c.in-Some.range.now _ (s.1.1 ∙ i.1)
          ∙ ap (λ (r : List ℕ). not c.loop-range.crossed && ranges_paired r) (sym s.1.0) ∙ i.0,
      s.0 ∙ i.1,
      omega (arith, ap length s.1.0, length-append {A = ℕ}),
    )
