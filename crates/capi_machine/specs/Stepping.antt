-- One step of a slot, as numbers.
use Rattle.std.specs.Prelude.{ℕ, ◌≡◌, cond, eqb}
use Rattle.refusals.specs.Number.{unreadable_number, unsteppable_number}
use Rattle.event_log.specs.Log.{Log}
use Rattle.machine_state.specs.declared.slots.SlotName.{SlotName}
use Rattle.machine_slot.specs.declared.slot_steps.Effect.{Effect}
use Rattle.machine_step.specs.Step.{step_of}
use Rattle.machine_step.specs.Promises.{StepsOnce}
use Rattle.machine_step.specs.declared.steps.Stepped.{Stepped}
use Rattle.capi_state.specs.Images.{image_state, state_image}
use Rattle.capi_state.specs.declared.images.StateImage.{StateImage}
use Rattle.capi_machine.specs.declared.stepping.EffectNumbers.{EffectNumbers}
use Rattle.capi_machine.specs.declared.stepping.StepReply.{StepReply}

-- 0 is slot A, every other number slot B
abbrev pub slot_numbered : ℕ → SlotName
slot_numbered slot = cond (eqb slot 0) SlotName.A SlotName.B

-- 0 nothing, 1 stopped, 2 unknown opcode, 3 done, 4 wrote
abbrev pub effect_numbers : Effect → EffectNumbers
effect_numbers (Effect.Refused why) = record { refusal = unsteppable_number why; kind = 0; why = 0; address = 0; word = 0 }
effect_numbers Effect.Nothing = record { refusal = 0; kind = 0; why = 0; address = 0; word = 0 }
effect_numbers (Effect.Stopped why) = record { refusal = 0; kind = 1; why = unreadable_number why; address = 0; word = 0 }
effect_numbers Effect.Unknown = record { refusal = 0; kind = 2; why = 0; address = 0; word = 0 }
effect_numbers Effect.Done = record { refusal = 0; kind = 3; why = 0; address = 0; word = 0 }
effect_numbers (Effect.Wrote address word) = record { refusal = 0; kind = 4; why = 0; address = address.0; word = word }

unfoldable pub step_reply : Stepped → StepReply
step_reply stepped = let told : EffectNumbers = effect_numbers stepped.effect in record {
  refusal = told.refusal;
  effect = told.kind;
  why = told.why;
  address = told.address;
  word = told.word;
  row = stepped.place.row;
  used = stepped.place.used;
  waited = stepped.waited;
  searched = stepped.searched;
  state = state_image stepped.state;
}

-- the reply tells the machine's answer, of which all holds that a step promises; its state stands for the machine's when it
-- is handed in again
module _ (image : StateImage) (slot : ℕ) (log : Log) (row used : ℕ) where
  abbrev pub step_answer : Stepped
  step_answer = step_of (image_state image) (slot_numbered slot) log (record { row = row; used = used })

  pub record HwsqStep (reply : StepReply) : Type 0 where
    pub answered : reply ≡ step_reply step_answer
    pub steps : StepsOnce (image_state image) (slot_numbered slot) log (record { row = row; used = used }) step_answer
    pub handed_on : image_state reply.state ≡ step_answer.state
