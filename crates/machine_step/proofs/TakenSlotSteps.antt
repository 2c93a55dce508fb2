-- The two ways in which code takes a step after a fetch. Assumes nothing.
use Rattle.std.specs.Prelude.{Ok, Err}
use Prim.Native.Nat.{ℕ, ◌+◌}
use mathlib.Core.Path.{◌≡◌, sym, ap, ap₂, ◌∙◌}
use mathlib.Core.Bool.{Bool}
use mathlib.Core.List.{List}
use Rattle.isa.specs.declared.instructions.Instruction.{Instruction}
use Rattle.refusals.specs.declared.refusals.Unreadable.{Unreadable}
use Rattle.isa_fetch.specs.Fetch.{fetch_of, past_opcode}
use Rattle.event_log.specs.Log.{Log}
use Rattle.event_log.specs.declared.place.Place.{Place}
use Rattle.machine_actions.specs.Action.{action_of}
use Rattle.machine_time.specs.Time.{elapsed_of}
use Rattle.machine_slot.specs.SlotStep.{perform_at, perform_of, unfetched_at, slot_step_of}
use Rattle.machine_actions.specs.declared.actions.Action.{Action}
use Rattle.machine_flags.specs.declared.flags.Flags.{Flags}
use Rattle.machine_state.specs.declared.slots.Slot.{Slot}
use Rattle.machine_time.specs.declared.elapsed.Elapsed.{Elapsed}
use Rattle.machine_step.proofs.StepLaws.{unfetched_past}

module _ (family : ℕ) (code marks : List ℕ) (enable : Bool) (slot : Slot) (flags : Flags) (log : Log) (p : Place) where
  -- nothing was fetched
  pub slot_step_unfetched : (why : Unreadable) → fetch_of family code marks slot.ip.0 ≡ Err why → (next : ℕ) → next ≡ past_opcode slot.ip.0
      → (said : Unreadable) → said ≡ why
      → unfetched_at family slot flags p next said ≡ slot_step_of family enable slot flags log p (fetch_of family code marks slot.ip.0)
  slot_step_unfetched why f next n said s =
      ap₂ (λ (m : ℕ) (w : Unreadable). unfetched_at family slot flags p m w) n s
      ∙ unfetched_past family code marks slot flags p why f
      ∙ ap (slot_step_of family enable slot flags log p) (sym f)

  -- an instruction was fetched and is done
  pub slot_step_performed : (i : Instruction) (n : ℕ) → fetch_of family code marks slot.ip.0 ≡ Ok (i, n) → (action : Action)
      → action ≡ action_of i
      → (elapsed : Elapsed) → elapsed ≡ elapsed_of action log p
      → perform_at enable slot flags action (slot.ip.0 + n) elapsed ≡ slot_step_of family enable slot flags log p (fetch_of family code marks slot.ip.0)
  unfolding perform_of
  slot_step_performed i n f action a elapsed e =
      ap (perform_at enable slot flags action (slot.ip.0 + n)) e
      ∙ ap (λ (x : Action). perform_at enable slot flags x (slot.ip.0 + n) (elapsed_of x log p)) a
      ∙ ap (slot_step_of family enable slot flags log p) (sym f)
