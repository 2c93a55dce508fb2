use mathlib.Core.Path.{◌≡◌, refl, ◌∙◌}
use native.Mathlib.Omega.{arith}
use Rattle.audit_witness.proofs.Making.{making_begins, making_over, making_next, making_fetched, extend_fits, inside}
use Rattle.audit_witness.proofs.showing.follow.Goals.{else-loop-at-test, then-loop-at-test+in_default}
use Rattle.audit_witness.proofs.showing.follow.Goals as goal

pub loop-at-init : goal.loop-at-init
loop-at-init c = (making_begins _ _ _ c.requires c.begin-made.ensures, record { clocks = refl; known = refl; values = refl })

pub extend-made-requires : goal.extend-made-requires
extend-made-requires c = extend_fits c.loop-at.invariant.0 c.loop-at-test.true c.fetch.ensures c.in-Ok.is c.action_of.ensures

pub loop-at-smaller : goal.loop-at-smaller
loop-at-smaller c = omega (arith, inside c.loop-at.invariant.0 c.loop-at-test.true c.fetch.ensures c.in-Ok.is)

pub loop-at-preserved : goal.loop-at-preserved
loop-at-preserved c =
    let kept = c.extend-made.ensures.lent in
    let same = c.loop-at.invariant.1 in (
      making_next c.loop-at.invariant.0 c.loop-at-test.true c.fetch.ensures c.in-Ok.is c.action_of.ensures c.extend-made.ensures.extends,
      record { clocks = kept.clocks ∙ same.clocks; known = kept.known ∙ same.known; values = kept.values ∙ same.values },
    )

pub returns-clause-follows : goal.returns-clause-follows
returns-clause-follows c =
    let arrives : c.loop-at.at ≡ c.args.place.0 = elim c.loop-at-test.branch [
      | else-loop-at-test w ↦ w.loop-at-test.false
      | then-loop-at-test+in_default w ↦ absurd (making_fetched c.loop-at.invariant.0 w.loop-at-test.true w.fetch.ensures w.in_default.is)
    ] in
    making_over c.loop-at.invariant.0 arrives c.put_row.ensures.put
