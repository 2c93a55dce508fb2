-- One step of one slot (01, "Steps and time" and "Other refusals").
use Rattle.std.specs.Prelude.{cond, ◌&&◌}
use Rattle.families.specs.Family.{known_family}
use Rattle.isa_fetch.specs.Fetch.{fetch_of}
use Rattle.event_log.specs.Log.{Log}
use Rattle.event_log.specs.Validity.{valid_log, valid_place}
use Rattle.event_log.specs.declared.place.Place.{Place}
use Rattle.machine_state.specs.Slot.{has_slot, is_running, slot_of, with_slot}
use Rattle.machine_slot.specs.SlotStep.{slot_step_of}
use Rattle.machine_state.specs.declared.slots.SlotName.{SlotName}
use Rattle.machine_state.specs.declared.state.State.{State}
use Rattle.machine_step.specs.declared.steps.Stepped.{Stepped}
use Rattle.refusals.specs.declared.refusals.Unsteppable.{Unsteppable}
use Rattle.machine_slot.specs.declared.slot_steps.Effect.{Effect}
use Rattle.machine_slot.specs.declared.slot_steps.SlotStep.{SlotStep}

-- a step that left state and place as they were: refused, or of a slot that does not run
abbrev pub unmoved : State → Place → Effect → Stepped
unmoved s p effect = record { state = s; place = p; effect = effect; waited = 0; searched = 0 }

-- the state after a step of the named slot
abbrev pub after_slot_step : State → SlotName → SlotStep → Stepped
after_slot_step s name t =
    record { state = with_slot s name t.slot t.flags; place = t.place; effect = t.effect; waited = t.waited; searched = t.searched }

-- one instruction is fetched at IP and done; a slot that is idle, waiting, blocked or hung, or that the family lacks, is left alone
unfoldable pub advance_of : State → SlotName → Log → Place → Stepped
advance_of s name log p =
    let slot = slot_of s name in
    cond (has_slot s.family name && is_running slot.mode)
    (after_slot_step s name (slot_step_of s.family s.enable slot s.flags log p (fetch_of s.family s.code s.marks slot.ip.0)))
    (unmoved s p Effect.Nothing)

-- 9 an unknown family, then 15 columns that are no log or a place outside it
unfoldable pub step_of : State → SlotName → Log → Place → Stepped
step_of s name log p =
    cond (known_family s.family)
    (cond (valid_log log && valid_place log.clocks p)
    (advance_of s name log p)
    (unmoved s p (Effect.Refused Unsteppable.Log)))
    (unmoved s p (Effect.Refused Unsteppable.Family))
