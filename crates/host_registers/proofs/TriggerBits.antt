-- TRIGGER, bit by bit. Assumes nothing.
use Prim.Native.Nat.{ℕ, ◌+◌, ◌*◌, ◌/◌, ◌%◌, ◌≤◌}
use mathlib.Core.Path.{◌≡◌, refl, ap}
use mathlib.Core.Logic.{◌⊎◌, inl, inr}
use mathlib.Core.Bool.{Bool, true, false, cond, and-false}
use native.Mathlib.Omega.{arith}
use borrow.Author.Tests.{eq-eqb, ne_eqb}
use Rattle.words.specs.Bits.{bit_of}
use Rattle.machine_state.specs.Slot.{has_slot, slot_of, with_slot}
use Rattle.machine_state.specs.declared.slots.Slot.{Slot}
use Rattle.machine_state.specs.declared.slots.SlotName.{SlotName}
use Rattle.machine_state.specs.declared.state.State.{State}
use Rattle.host_registers.specs.Entry.{entry_point}
use Rattle.host_registers.proofs.RegisterLaws.{one_slot, two_slots}
use Rattle.host_registers.specs.Trigger.{is_start, slot_named, started_at, aborted, after_trigger, TriggersSlot, Triggers}

module _ (s : State) (word : ℕ) where
  -- the slot that a trigger makes of one
  abbrev triggered : Slot → Slot
  triggered slot = cond (is_start word) (started_at slot (entry_point s.family s.entries s.entries_high (word / 4 % 4))) (aborted slot)

  slot_moved : (slot : Slot) → TriggersSlot s word slot (triggered slot)
  slot_moved slot =
      let chosen : word / 4 % 4 ≡ bit_of word 2 + 2 * bit_of word 3 = omega arith in
      record {
        start = λ h. simp (started h) (refl, ap (entry_point s.family s.entries s.entries_high) chosen);
        abort = λ h. simp (stopped h) (refl, refl);
      }
    where
      started : bit_of word 0 ≡ 1 → is_start word ≡ true
      started h = eq-eqb (word % 2) 1 (omega arith)

      stopped : bit_of word 0 ≡ 0 → is_start word ≡ false
      stopped h = ne_eqb (word % 2) 1 (λ e. omega arith)

  -- the state with that slot under its name
  in_name : (name : SlotName) → slot_named s.family word ≡ name → after_trigger s word ≡ with_slot s name (triggered (slot_of s name)) s.flags
  unfolding after_trigger
  in_name name e = rw e (chosen (is_start word) _ _)
    where
      chosen : (b : Bool) (x y : Slot) → cond b (with_slot s name x s.flags) (with_slot s name y s.flags) ≡ with_slot s name (cond b x y) s.flags
      chosen true x y = refl
      chosen false x y = refl

  names_a : (s.family ≡ 4) ⊎ (bit_of word 1 ≡ 1) → slot_named s.family word ≡ SlotName.A
  names_a (inl four) = simp (one_slot s.family four)
  names_a (inr h) =
      let bit : word / 2 % 2 ≡ 1 = h in
      simp (bit, and-false (has_slot s.family SlotName.B))

  names_b : 1 ≤ s.family → s.family ≤ 3 → bit_of word 1 ≡ 0 → slot_named s.family word ≡ SlotName.B
  names_b l k h = let bit : word / 2 % 2 ≡ 0 = h in simp (two_slots s.family l k, bit)

  pub triggers : Triggers s word (after_trigger s word)
  triggers = record {
    slot_a = λ h. rw (in_name SlotName.A (names_a h)) (slot_moved s.a, refl);
    slot_b = λ l k h. rw (in_name SlotName.B (names_b l k h)) (slot_moved s.b, refl);
  }
