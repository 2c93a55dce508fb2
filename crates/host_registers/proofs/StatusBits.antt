-- STATUS, bit by bit. Assumes nothing.
use Prim.Native.Nat.{ℕ, ◌+◌, ◌*◌, ◌/◌, ◌%◌, ◌^◌, ◌<◌}
use mathlib.Core.Path.{◌≡◌, refl, ap}
use mathlib.Core.Logic.{◌↔◌, ◌⊎◌, inl, inr}
use mathlib.Core.Bool.{Bool, true, false, cond, not}
use native.Mathlib.Omega.{arith}
use lib.Dec.{eqb}
use borrow.Author.Tests.{eqb-true, eq-eqb}
use Rattle.families.specs.Family.{unknown_hangs}
use Rattle.families.proofs.Tests.{both_left, both_right}
use Rattle.words.specs.Bits.{bit_of}
use Rattle.machine_state.specs.Slot.{has_slot, is_idle}
use Rattle.machine_state.specs.declared.slots.Mode.{Mode}
use Rattle.machine_state.specs.declared.slots.Slot.{Slot}
use Rattle.machine_state.specs.declared.slots.SlotName.{SlotName}
use Rattle.machine_state.specs.declared.state.State.{State}
use Rattle.host_registers.proofs.RegisterLaws.{one_slot, two_slots}
use Rattle.host_registers.specs.Register.{is_high}
use Rattle.host_registers.specs.Status.{bit_if, is_hung, shows_hang, shows_bit8, slot_status, status_word, ShowsSlot, ShowsStatus}

-- ---- three bits above a byte, each lit or not

abbrev lit : Bool → ℕ
lit b = cond b 1 0

lit_small : (b : Bool) → lit b < 2
lit_small true = omega arith
lit_small false = omega arith

weighed : (b : Bool) (weight : ℕ) → bit_if b weight ≡ lit b * weight
weighed true weight = omega arith
weighed false weight = omega arith

unlit : {A : Type 0} → false ≡ true → A
unlit e = absurd (let z : ◌≡◌ {A = ℕ} 0 1 = cc in let w : ⊥ = omega arith in w)

-- a bit is 1 exactly where it is lit
lit_one : (b : Bool) {bit : ℕ} → bit ≡ lit b → (bit ≡ 1) ↔ (b ≡ true)
lit_one true e = (λ _. refl, λ _. e)
lit_one false e = (λ h. absurd (let z : ⊥ = omega arith in z), λ t. unlit t)

-- the bits of a byte with three above it
record Above (low_bits p q r half : ℕ) : Type 0 where
  byte : half % 2 ^ 8 ≡ low_bits
  bit_8 : bit_of half 8 ≡ p
  bit_9 : bit_of half 9 ≡ q
  bit_10 : bit_of half 10 ≡ r
  below : half < 2 ^ 11

high_bits : (low_bits p q r : ℕ) {a b c : ℕ} → a ≡ p * 256 → b ≡ q * 512 → c ≡ r * 1024 → low_bits < 256 → p < 2 → q < 2 → r < 2
    → Above low_bits p q r (low_bits + a + b + c)
high_bits low_bits p q r d e f l x y z = record { byte = omega arith; bit_8 = omega arith; bit_9 = omega arith; bit_10 = omega arith; below = omega arith }

-- ---- a slot's half

not_idle : (mode : Mode) → (mode ≡ Mode.Idle → ⊥) → not (is_idle mode) ≡ true
not_idle Mode.Idle f = absurd (f refl)
not_idle Mode.Running f = refl
not_idle Mode.Waiting f = refl
not_idle Mode.Blocked f = refl
not_idle Mode.Hung f = refl

is_hung_lem : (mode : Mode) → is_hung mode ≡ true → mode ≡ Mode.Hung
is_hung_lem Mode.Idle e = unlit e
is_hung_lem Mode.Running e = unlit e
is_hung_lem Mode.Waiting e = unlit e
is_hung_lem Mode.Blocked e = unlit e
is_hung_lem Mode.Hung e = refl

two_or_three : (family : ℕ) → unknown_hangs family ≡ true → (family ≡ 2) ⊎ (family ≡ 3)
two_or_three family t = by (eqb family 2) refl
  where
    by : (b : Bool) → eqb family 2 ≡ b → (family ≡ 2) ⊎ (family ≡ 3)
    by true e = inl (eqb-true family 2 e)
    by false e = inr (eqb-true family 3 (rw e at t))

hangs_there : (family : ℕ) → (family ≡ 2) ⊎ (family ≡ 3) → unknown_hangs family ≡ true
hangs_there family (inl e) = rw e refl
hangs_there family (inr e) = rw e refl

module _ (family : ℕ) (slot : Slot) where
  abbrev low_bits : ℕ
  low_bits = slot.ip.0 % 256

  abbrev executes : Bool
  executes = not (is_idle slot.mode)

  abbrev hangs : Bool
  hangs = shows_hang family slot.mode

  abbrev ninth : Bool
  ninth = shows_bit8 family slot.ip.0

  bits : Above low_bits (lit executes) (lit hangs) (lit ninth) (slot_status family slot)
  unfolding slot_status
  bits =
      high_bits low_bits (lit executes) (lit hangs) (lit ninth) (weighed executes 256) (weighed hangs 512) (weighed ninth 1024) (omega arith)
      (lit_small executes) (lit_small hangs) (lit_small ninth)

  slot_shown : ShowsSlot family slot (slot_status family slot)
  slot_shown = record {
    low_ip = bits.byte;
    executing = (
      λ h m. omega (arith, h, bits.bit_8, ap (λ (mode : Mode). lit (not (is_idle mode))) m),
      λ f. (lit_one executes bits.bit_8).1 (not_idle slot.mode f),
    );
    hung = (
      λ h. let t = (lit_one hangs bits.bit_9).0 h in (
        two_or_three family (both_left (unknown_hangs family) (is_hung slot.mode) t),
        is_hung_lem slot.mode (both_right (unknown_hangs family) (is_hung slot.mode) t),
      ),
      λ f. (lit_one hangs bits.bit_9).1 (simp (hangs_there family f.0, f.1)),
    );
    ip_bit_8 = (
      λ h. let t = (lit_one ninth bits.bit_10).0 h in (
        eqb-true family 4 (both_left (is_high family) _ t),
        eqb-true (slot.ip.0 / 256 % 2) 1 (both_right (is_high family) _ t),
      ),
      λ f. (lit_one ninth bits.bit_10).1 (simp (eq-eqb family 4 f.0, eq-eqb (slot.ip.0 / 256 % 2) 1 f.1)),
    );
    no_more = bits.below;
  }

-- ---- both halves

module _ (s : State) where
  abbrev a : ℕ
  a = slot_status s.family s.a

  abbrev b : ℕ
  b = slot_status s.family s.b

  with_b : has_slot s.family SlotName.B ≡ true → status_word s ≡ a + 65536 * b
  unfolding status_word
  with_b h = simp h

  without_b : has_slot s.family SlotName.B ≡ false → status_word s ≡ a
  unfolding status_word
  without_b h = simp h

  small : (slot : Slot) → slot_status s.family slot < 2 ^ 11
  small slot = (slot_shown s.family slot).no_more

  low_half : status_word s % 2 ^ 16 ≡ a
  low_half = by (has_slot s.family SlotName.B) refl
    where
      by : (two : Bool) → has_slot s.family SlotName.B ≡ two → status_word s % 2 ^ 16 ≡ a
      by true h = omega (arith, with_b h, small s.a)
      by false h = omega (arith, without_b h, small s.a)

  pub status_shown : ShowsStatus s (status_word s)
  status_shown = record {
    slot_a = rw low_half (slot_shown s.family s.a);
    slot_b = λ l k.
        let high : status_word s / 2 ^ 16 ≡ b = omega (arith, with_b (two_slots s.family l k), small s.a, small s.b) in
        rw high (slot_shown s.family s.b);
    one_slot = λ e. omega (arith, without_b (one_slot s.family e), small s.a);
  }
