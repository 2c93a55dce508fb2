-- A bit of a word set or cleared, and what becomes of each bit. Assumes nothing.
use Prim.Native.Nat.{ℕ, suc, ◌+◌, ◌-◌, ◌*◌, ◌/◌, ◌%◌, ◌^◌, ◌<◌, min, max}
use mathlib.Core.Path.{◌≡◌, sym, ap, subst, ◌∙◌}
use native.Mathlib.Decide.{dec_lt}
use native.Mathlib.Nat.{one-mul, div-eq_of_lt}
use native.Mathlib.Omega.{arith}
use lib.Bits.{bit_and, bit_or, bit_xor, and_step, or_step, xor_add_and, and_shr, or_shr, xor_shr, shifted_even}
use lib.Dec.{lit<}
use lib.Pow.{pow-lt, pow-add, shl-shr, shl_exact}
use Rattle.words.specs.Bits.{bit_of, set_bit, clear_bit}

-- the mask of a bit, as it is shifted in 32
pub one_shl : (n : ℕ) → n < 32 → 1 * 2 ^ n % 4294967296 ≡ 2 ^ n
one_shl n h = shl_exact {a = 1} 1 n 32 (lit< tt) (omega arith) ∙ one-mul (2 ^ n)

-- ---- the mask of a bit has that bit alone

mask_own : (n : ℕ) → bit_of (2 ^ n) n ≡ 1
mask_own n = ap (λ (x : ℕ). bit_of x n) (sym (one-mul (2 ^ n))) ∙ ap (λ (x : ℕ). x % 2) (shl-shr 1 n)

mask_lower : (k n : ℕ) → bit_of (2 ^ (suc k + n)) n ≡ 0
mask_lower k n =
    ap (λ (x : ℕ). bit_of x n) (pow-add 2 (suc k) n)
    ∙ ap (λ (x : ℕ). x % 2) (shl-shr (2 ^ suc k) n ∙ sym (one-mul (2 ^ suc k)))
    ∙ shifted_even 1 k

mask_other : (bit n : ℕ) → (n ≡ bit → ⊥) → bit_of (2 ^ bit) n ≡ 0
mask_other bit n apart =
    elim (dec_lt bit n) as (λ _. bit_of (2 ^ bit) n ≡ 0) [
      | yes l ↦ ap (λ (x : ℕ). x % 2) (div-eq_of_lt (pow-lt l))
      | no l ↦
          let e : suc (bit - n - 1) + n ≡ bit = omega (arith, apart) in
          subst (λ (f : ℕ). bit_of (2 ^ f) n ≡ 0) e (mask_lower (bit - n - 1) n)
    ]

-- ---- bits of words that a mask was put to

or_low : (a b : ℕ) → bit_or a b % 2 ≡ max (a % 2) (b % 2)
or_low a b = omega (arith, or_step a b)

and_low : (a b : ℕ) → bit_and a b % 2 ≡ min (a % 2) (b % 2)
and_low a b = omega (arith, and_step a b)

xor_low : (a b : ℕ) → bit_xor a b % 2 ≡ (a % 2 + b % 2) % 2
xor_low a b = omega (arith, xor_add_and a b)

module _ (bit word n : ℕ) where
  set_bit_lem : bit_of (set_bit bit word) n ≡ max (bit_of word n) (bit_of (2 ^ bit) n)
  set_bit_lem = ap (λ (x : ℕ). x % 2) (or_shr word (2 ^ bit) n) ∙ or_low (word / 2 ^ n) (2 ^ bit / 2 ^ n)

  clear_bit_lem : bit_of (clear_bit bit word) n ≡ (bit_of word n + min (bit_of word n) (bit_of (2 ^ bit) n)) % 2
  clear_bit_lem =
      ap (λ (x : ℕ). x % 2) (xor_shr word (bit_and word (2 ^ bit)) n)
      ∙ xor_low (word / 2 ^ n) (bit_and word (2 ^ bit) / 2 ^ n)
      ∙ ap (λ (x : ℕ). (bit_of word n + x % 2) % 2) (and_shr word (2 ^ bit) n)
      ∙ ap (λ (x : ℕ). (bit_of word n + x) % 2) (and_low (word / 2 ^ n) (2 ^ bit / 2 ^ n))

  pub set_other : (n ≡ bit → ⊥) → bit_of (set_bit bit word) n ≡ bit_of word n
  set_other apart = set_bit_lem ∙ rw (mask_other bit n apart) (omega arith)

  pub clear_other : (n ≡ bit → ⊥) → bit_of (clear_bit bit word) n ≡ bit_of word n
  clear_other apart = clear_bit_lem ∙ rw (mask_other bit n apart) (omega arith)

pub set_own : (bit word : ℕ) → bit_of (set_bit bit word) bit ≡ 1
set_own bit word = set_bit_lem bit word bit ∙ rw (mask_own bit) (omega arith)

pub clear_own : (bit word : ℕ) → bit_of (clear_bit bit word) bit ≡ 0
clear_own bit word = clear_bit_lem bit word bit ∙ rw (mask_own bit) (omega arith)
