-- Which families have a slot B, and that code registers have room. Assumes nothing.
use Prim.Native.Nat.{ℕ, zero, suc, ◌-◌, ◌%◌, ◌≤◌}
use mathlib.Core.Path.{◌≡◌, refl}
use mathlib.Core.Bool.{true, false, ◌&&◌}
use native.Mathlib.Omega.{arith}
use lib.Dec.{ltb, eqb}
use borrow.Author.Tests.{ltb-true, eqb-true}
use Rattle.families.specs.Family.{by_family, code_size, within}
use Rattle.families.proofs.Tests.{cond_elim, both_left, both_right}
use Rattle.isa.specs.declared.addresses.MmioAddress.{MmioAddress}
use Rattle.machine_state.specs.Slot.{has_slot}
use Rattle.machine_state.specs.declared.slots.SlotName.{SlotName}
use Rattle.host_registers.specs.Register.{is_high, high_window, code_in, code_at, register_at, InRoom}

-- ---- which families have a slot B

pub one_slot : (family : ℕ) → family ≡ 4 → has_slot family SlotName.B ≡ false
unfolding by_family
one_slot family e = rw e refl

pub two_slots : (family : ℕ) → 1 ≤ family → family ≤ 3 → has_slot family SlotName.B ≡ true
unfolding by_family
two_slots zero l h = absurd (let z : ⊥ = omega arith in z)
two_slots (suc zero) l h = refl
two_slots (suc (suc zero)) l h = refl
two_slots (suc (suc (suc zero))) l h = refl
two_slots (suc (suc (suc (suc n)))) l h = absurd (let z : ⊥ = omega arith in z)

-- ---- code registers have room

size_fits : (family : ℕ) → code_size family ≤ 512
unfolding by_family
size_fits family =
    cond_elim Fits (eqb family 1) (λ _. omega arith)
    (λ _. cond_elim Fits (eqb family 2) (λ _. omega arith)
    (λ _. cond_elim Fits (eqb family 3) (λ _. omega arith)
    (λ _. cond_elim Fits (eqb family 4) (λ _. omega arith) (λ _. omega arith))))
  where
    Fits : ℕ → Type 0
    Fits n = n ≤ 512

window_fits : (family : ℕ) → high_window family ≤ 512
window_fits family = cond_elim (λ (n : ℕ). n ≤ 512) (is_high family) (λ _. size_fits family) (λ _. omega arith)

in_room : (size offset : ℕ) → size ≤ 512 → InRoom (code_in size offset)
in_room size offset fits =
    cond_elim InRoom (ltb offset size && eqb (offset % 4) 0)
    (λ h. let l = ltb-true offset size (both_left (ltb offset size) (eqb (offset % 4) 0) h) in
    let m = eqb-true (offset % 4) 0 (both_right (ltb offset size) (eqb (offset % 4) 0) h) in
    omega arith)
    (λ _. tt)

code_in_room : (family at : ℕ) → InRoom (code_at family at)
unfolding code_at
code_in_room family at =
    cond_elim InRoom (within 0x001400 at 0x0014ff) (λ _. in_room (code_size family) (at - 0x001400) (size_fits family))
    (λ _. cond_elim InRoom (within 0x080000 at 0x0801ff) (λ _. in_room (high_window family) (at - 0x080000) (window_fits family)) (λ _. tt))

-- the bytes of a code register have room in a state
pub register_in_room : (family : ℕ) (address : MmioAddress) → InRoom (register_at family address)
unfolding register_at
register_in_room family address =
    let at = address.0 in
    cond_elim InRoom (eqb at 0x001098) (λ _. tt)
    (λ _. cond_elim InRoom (eqb at 0x001304) (λ _. tt)
    (λ _. cond_elim InRoom (eqb at 0x001308) (λ _. tt)
    (λ _. cond_elim InRoom (eqb at 0x00130c) (λ _. tt)
    (λ _. cond_elim InRoom (eqb at 0x001310) (λ _. tt)
    (λ _. cond_elim InRoom (eqb at 0x001314) (λ _. tt)
    (λ _. cond_elim InRoom (eqb at 0x001318) (λ _. cond_elim InRoom (is_high family) (λ _. tt) (λ _. tt))
    (λ _. cond_elim InRoom (eqb at 0x001578) (λ _. tt)
    (λ _. code_in_room family at))))))))
