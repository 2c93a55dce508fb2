-- No step is a refusal. Assumes nothing.
use Rattle.std.specs.Prelude.{Ok, Err}
use Prim.Native.Nat.{ℕ}
use mathlib.Core.Path.{◌≡◌, refl}
use mathlib.Core.Bool.{Bool, true, false}
use Rattle.isa.specs.Answers.{Decoded}
use Rattle.refusals.specs.declared.refusals.Unreadable.{Unreadable}
use Rattle.event_log.specs.Log.{Log}
use Rattle.event_log.specs.declared.place.Place.{Place}
use Rattle.machine_actions.specs.Action.{action_of}
use Rattle.machine_slot.specs.SlotStep.{effect_of, perform_of, unfetched, slot_step_of}
use Rattle.machine_step.specs.Promises.{effect_number}
use Rattle.machine_actions.specs.declared.actions.Action.{Action}
use Rattle.machine_flags.specs.declared.flags.Flags.{Flags}
use Rattle.machine_state.specs.declared.slots.Slot.{Slot}

action_taken : (action : Action) (enable : Bool) (addr word : ℕ) → effect_number (effect_of action enable addr word) ≡ 0
action_taken (Action.Wait n) enable addr word = refl
action_taken (Action.Ewait event value) enable addr word = refl
action_taken (Action.Flag change flag) enable addr word = refl
action_taken (Action.Load part operand) enable addr word = refl
action_taken (Action.Poke part operand) true addr word = refl
action_taken (Action.Poke part operand) false addr word = refl
action_taken Action.Exit enable addr word = refl

unfetched_taken : (family : ℕ) (slot : Slot) (flags : Flags) (p : Place) (why : Unreadable) → effect_number (unfetched family slot flags p why).effect ≡ 0
unfetched_taken family slot flags p Unreadable.Family = refl
unfetched_taken family slot flags p Unreadable.Empty = refl
unfetched_taken family slot flags p Unreadable.Unknown = refl
unfetched_taken family slot flags p Unreadable.Short = refl
unfetched_taken family slot flags p Unreadable.NotUploaded = refl

pub slot_step_taken : (family : ℕ) (enable : Bool) (slot : Slot) (flags : Flags) (log : Log) (p : Place) (fetched : Decoded)
    → effect_number (slot_step_of family enable slot flags log p fetched).effect ≡ 0
unfolding perform_of
slot_step_taken family enable slot flags log p (Ok (instruction, n)) =
    action_taken (action_of instruction) enable slot.addr.0 slot.«data»
slot_step_taken family enable slot flags log p (Err why) = unfetched_taken family slot flags p why
