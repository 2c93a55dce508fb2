use Rattle.machine_step.proofs.StepLaws.{steps}
use Rattle.machine_step.specs.Step.{step_of}
use mathlib.Core.Path.{sym, ◌∙◌}
use Rattle.machine_step.proofs.steps.step.Goals as goal

pub returns-then-not-known_family : goal.returns-then-not-known_family
unfolding step_of
returns-then-not-known_family c = steps _ _ _ _ (c.unmoved.ensures ∙ simp (sym c.known_family.ensures ∙ c.if-not-known_family.true))

pub returns-then-not-in_log : goal.returns-then-not-in_log
unfolding step_of
returns-then-not-in_log c =
    let known = sym c.known_family.ensures ∙ c.if-not-known_family.false in
    steps _ _ _ _ (c.unmoved-then-not-in_log.ensures ∙ simp (known, sym c.in_log.ensures ∙ c.if-not-in_log.true))

pub returns : goal.returns
unfolding step_of
returns c =
    let known = sym c.known_family.ensures ∙ c.if-not-known_family.false in
    steps _ _ _ _ (c.advance.ensures ∙ simp (known, sym c.in_log.ensures ∙ c.if-not-in_log.false))
