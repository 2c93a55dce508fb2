use mathlib.Core.Path.{refl, sym, ap, ◌∙◌}
use Rattle.isa.specs.declared.addresses.CodeAddress.{CodeAddress}
use Rattle.isa_fetch.specs.Fetch.{reason_of}
use Rattle.event_log.specs.Log.{lent_log}
use Rattle.machine_step.proofs.StepLaws.{advance_still, advance_slot_step}
use Rattle.machine_step.proofs.TakenSlotSteps.{slot_step_unfetched, slot_step_performed}
use Rattle.machine_step.proofs.steps.advance.Goals as goal

pub returns-then-not-can_run : goal.returns-then-not-can_run
returns-then-not-can_run c =
    let slot = c.slot_of-slot in
    c.unmoved.ensures ∙ advance_still _ _ _ _ slot.result slot.ensures (sym c.can_run.ensures ∙ c.if-not-can_run.true)

pub returns-in_default : goal.returns-in_default
returns-in_default c =
    let s = c.args.state in
    let slot = c.slot_of-slot in
    let step =
    slot_step_unfetched s.family s.code s.marks s.enable slot.result s.flags (lent_log c.args.log) c.args.at
    c.in_default.field-0 (sym c.fetch-found.ensures.answered ∙ c.in_default.is)
    c.past_opcode-next.result.0 (ap (λ (p : CodeAddress). p.0) c.past_opcode-next.ensures)
    c.reason_of-why.result (c.reason_of-why.ensures ∙ ap reason_of c.in_default.is) in
    c.after_slot_step.ensures
    ∙ advance_slot_step _ _ _ _ slot.result slot.ensures (sym c.can_run.ensures ∙ c.if-not-can_run.false) _ refl _ (c.unfetched-stray.ensures ∙ step)

pub returns : goal.returns
returns c =
    let s = c.args.state in
    let slot = c.slot_of-slot in
    let step =
    slot_step_performed s.family s.code s.marks s.enable slot.result s.flags (lent_log c.args.log) c.args.at
    c.in-Ok.instruction c.in-Ok.length (sym c.fetch-found.ensures.answered ∙ c.in-Ok.is)
    c.action_of-action.result c.action_of-action.ensures c.elapse-elapsed.result c.elapse-elapsed.ensures.answered in
    c.after_slot_step-2.ensures
    ∙ advance_slot_step _ _ _ _ slot.result slot.ensures (sym c.can_run.ensures ∙ c.if-not-can_run.false) _ refl _ (c.perform-step.ensures ∙ step)
