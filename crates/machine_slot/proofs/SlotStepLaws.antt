-- What a step does to the place and the clocks. Assumes nothing.
use Rattle.std.specs.Prelude.{Ok, Err}
use Prim.Native.Nat.{ℕ}
use mathlib.Core.Path.{◌≡◌, refl}
use mathlib.Core.Bool.{Bool, true}
use mathlib.Core.List.{List}
use native.Mathlib.Omega.{arith}
use Rattle.isa.specs.Answers.{Decoded}
use Rattle.refusals.specs.declared.refusals.Unreadable.{Unreadable}
use Rattle.event_log.specs.Log.{Log}
use Rattle.event_log.specs.Validity.{valid_log, valid_place}
use Rattle.event_log.specs.declared.place.Place.{Place}
use Rattle.machine_actions.specs.Action.{action_of}
use Rattle.machine_time.proofs.TimeLaws.{Spends, elapsed_clocks, elapsed_place}
use Rattle.machine_slot.specs.SlotStep.{perform_of, unfetched, slot_step_of}
use Rattle.machine_flags.specs.declared.flags.Flags.{Flags}
use Rattle.machine_state.specs.declared.slots.Slot.{Slot}

unfetched_clocks : (clocks : List ℕ) (family : ℕ) (slot : Slot) (flags : Flags) (p : Place) (why : Unreadable)
    → (let t = unfetched family slot flags p why in Spends clocks p t.waited t.searched t.place)
unfetched_clocks clocks family slot flags p Unreadable.Family = omega arith
unfetched_clocks clocks family slot flags p Unreadable.Empty = omega arith
unfetched_clocks clocks family slot flags p Unreadable.Unknown = omega arith
unfetched_clocks clocks family slot flags p Unreadable.Short = omega arith
unfetched_clocks clocks family slot flags p Unreadable.NotUploaded = omega arith

unfetched_place : (family : ℕ) (slot : Slot) (flags : Flags) (p : Place) (why : Unreadable) → (unfetched family slot flags p why).place ≡ p
unfetched_place family slot flags p Unreadable.Family = refl
unfetched_place family slot flags p Unreadable.Empty = refl
unfetched_place family slot flags p Unreadable.Unknown = refl
unfetched_place family slot flags p Unreadable.Short = refl
unfetched_place family slot flags p Unreadable.NotUploaded = refl

module _ (log : Log) (valid : valid_log log ≡ true) where
  pub slot_step_clocks : (family : ℕ) (enable : Bool) (slot : Slot) (flags : Flags) (p : Place) (fetched : Decoded)
      → (let t = slot_step_of family enable slot flags log p fetched in Spends log.clocks p t.waited t.searched t.place)
  unfolding perform_of
  slot_step_clocks family enable slot flags p (Ok (instruction, n)) = elapsed_clocks log valid (action_of instruction) p
  slot_step_clocks family enable slot flags p (Err why) = unfetched_clocks log.clocks family slot flags p why

  pub slot_step_place : (family : ℕ) (enable : Bool) (slot : Slot) (flags : Flags) (p : Place) (fetched : Decoded) → valid_place log.clocks p ≡ true
      → valid_place log.clocks (slot_step_of family enable slot flags log p fetched).place ≡ true
  unfolding perform_of
  slot_step_place family enable slot flags p (Ok (instruction, n)) v = elapsed_place log valid (action_of instruction) p v
  slot_step_place family enable slot flags p (Err why) v = rw (unfetched_place family slot flags p why) v
