use Rattle.machine_step.proofs.TakenSlotSteps.{slot_step_unfetched, slot_step_performed}
use Rattle.isa_fetch.specs.Fetch.{reason_of}
use Rattle.run.specs.SlotRun.{lent_scene}
use Rattle.isa.specs.declared.addresses.CodeAddress.{CodeAddress}
use mathlib.Core.Path.{sym, ap, ◌∙◌}
use Rattle.run_replay.proofs.replays.take_slot_step.Goals as goal

pub returns-in_default : goal.returns-in_default
returns-in_default c =
    let x = lent_scene c.args.scene in
    let p = c.args.progress in
    c.unfetched.ensures
    ∙ slot_step_unfetched x.family x.code x.marks x.enable p.slot p.flags x.log p.place
    c.in_default.field-0 (sym c.fetch-found.ensures.answered ∙ c.in_default.is)
    c.past_opcode-next.result.0 (ap (λ (p : CodeAddress). p.0) c.past_opcode-next.ensures)
    c.reason_of-why.result (c.reason_of-why.ensures ∙ ap reason_of c.in_default.is)

pub returns : goal.returns
returns c =
    let x = lent_scene c.args.scene in
    let p = c.args.progress in
    c.perform.ensures
    ∙ slot_step_performed x.family x.code x.marks x.enable p.slot p.flags x.log p.place
    c.in-Ok.instruction c.in-Ok.length (sym c.fetch-found.ensures.answered ∙ c.in-Ok.is)
    c.action_of-action.result c.action_of-action.ensures c.elapse-elapsed.result c.elapse-elapsed.ensures.answered
