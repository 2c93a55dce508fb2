-- Which slots a family has, and a state with another slot. Assumes nothing.
use Prim.Native.Nat.{ℕ, suc, ◌≤◌}
use mathlib.Core.Path.{◌≡◌, refl}
use mathlib.Core.Bool.{Bool, true, false}
use native.Mathlib.Omega.{arith}
use lib.Dec.{leb}
use borrow.Author.Tests.{leb-true, le-leb}
use Rattle.families.specs.Family.{known_family, slot_count}
use Rattle.families.proofs.Tests.{by_family_elim, by_no_family}
use Rattle.machine_state.specs.Slot.{has_slot, slot_of, with_slot}
use Rattle.machine_flags.specs.declared.flags.Flags.{Flags}
use Rattle.machine_state.specs.declared.slots.Slot.{Slot}
use Rattle.machine_state.specs.declared.slots.SlotName.{SlotName}
use Rattle.machine_state.specs.declared.state.State.{State}

-- every family has slot A
pub has_a : (family : ℕ) → known_family family ≡ true → has_slot family SlotName.A ≡ true
has_a family known =
    le-leb 1 (slot_count family)
    (by_family_elim (λ (n : ℕ). 1 ≤ n) family 2 2 2 1 (omega arith) (omega arith) (omega arith) (omega arith)
    (λ unknown. let z : ◌≡◌ {A = ℕ} 0 1 = cc in absurd (omega arith)))

-- and a number that names no family has no slots
known_slots : (family n : ℕ) → leb (suc n) (slot_count family) ≡ true → known_family family ≡ true
known_slots family n h = by (known_family family) refl
  where
    by : (known : Bool) → known_family family ≡ known → known ≡ true
    by true e = refl
    by false e = absurd (let z : ⊥ = omega (arith, leb-true (suc n) (slot_count family) h, by_no_family family 2 2 2 1 e) in z)

pub known_slot : (family : ℕ) (name : SlotName) → has_slot family name ≡ true → known_family family ≡ true
known_slot family SlotName.A h = known_slots family 0 h
known_slot family SlotName.B h = known_slots family 1 h

pub slot_back : (name : SlotName) (s : State) (slot : Slot) (flags : Flags) → slot_of (with_slot s name slot flags) name ≡ slot
slot_back SlotName.A s slot flags = refl
slot_back SlotName.B s slot flags = refl
