-- FLAGS_0 and FLAGS_1, bit by bit. Assumes nothing.
use Prim.Native.Nat.{ℕ, ◌+◌, ◌-◌, ◌/◌, ◌%◌, ◌^◌, ◌<◌}
use mathlib.Core.Path.{◌≡◌, refl, sym, ap, ◌∙◌}
use native.Mathlib.Omega.{arith}
use lib.Pow.{shr-shr, field, mod-mod-pow}
use Rattle.machine_flags.specs.Flags.{flags_word0, flags_word1, flags_from_words, ShowsFlags, TellsWord0, TellsWord1, MadeOf}
use Rattle.words.specs.Bits.{bit_of}
use Rattle.machine_flags.specs.declared.flags.Flags.{Flags}

-- a word's low half has its bits
low_bit : (word n : ℕ) → n < 16 → bit_of (word % 2 ^ 16) n ≡ bit_of word n
low_bit word n h =
    let k = 15 - n in
    let e : 16 ≡ (k + 1) + n = omega arith in
    ap (λ (w : ℕ). bit_of (word % 2 ^ w) n) e ∙ ap (λ (x : ℕ). x % 2) (field word (k + 1) n) ∙ mod-mod-pow (word / 2 ^ n) k 1

-- and its high half those from bit 16 on
high_bit : (word n : ℕ) → bit_of (word / 2 ^ 16) n ≡ bit_of word (16 + n)
high_bit word n = ap (λ (x : ℕ). x % 2) (shr-shr word 16 n)

-- bits of a half are those of the half that it is
module _ (word half n : ℕ) (h : n < 16) where
  in_low : word % 2 ^ 16 ≡ half % 2 ^ 16 → bit_of word n ≡ bit_of half n
  in_low e = sym (low_bit word n h) ∙ ap (λ (x : ℕ). bit_of x n) e ∙ low_bit half n h

  in_high : word / 2 ^ 16 ≡ half % 2 ^ 16 → bit_of word (16 + n) ≡ bit_of half n
  in_high e = sym (high_bit word n) ∙ ap (λ (x : ℕ). bit_of x n) e ∙ low_bit half n h

shows_0 : (flags : Flags) (word : ℕ) → word % 2 ^ 16 ≡ flags.values % 2 ^ 16 → word / 2 ^ 16 ≡ flags.enables % 2 ^ 16 → ShowsFlags 0 flags word
shows_0 flags word v e = record {
  values = λ n h. in_low word flags.values n h v ∙ ap (bit_of flags.values) (omega arith);
  enables = λ n h. in_high word flags.enables n h e ∙ ap (bit_of flags.enables) (omega arith);
}

shows_1 : (flags : Flags) (word : ℕ) → word % 2 ^ 16 ≡ flags.values / 2 ^ 16 % 2 ^ 16 → word / 2 ^ 16 ≡ flags.enables / 2 ^ 16 % 2 ^ 16
    → ShowsFlags 16 flags word
shows_1 flags word v e = record {
  values = λ n h. in_low word (flags.values / 2 ^ 16) n h v ∙ high_bit flags.values n;
  enables = λ n h. in_high word (flags.enables / 2 ^ 16) n h e ∙ high_bit flags.enables n;
}

pub tells_0 : (flags : Flags) (word : ℕ) → word ≡ flags_word0 flags → TellsWord0 flags word
tells_0 flags word e = record { answered = e; shows = shows_0 flags word (omega arith) (omega arith) }

pub tells_1 : (flags : Flags) (word : ℕ) → flags.values < 2 ^ 32 → flags.enables < 2 ^ 32 → word ≡ flags_word1 flags → TellsWord1 flags word
tells_1 flags word v w e = record { answered = e; shows = shows_1 flags word (omega arith) (omega arith) }

pub made_of : (word0 word1 : ℕ) → word0 < 2 ^ 32 → word1 < 2 ^ 32 → MadeOf word0 word1 (flags_from_words word0 word1)
made_of word0 word1 v w = record { answered = refl; shows0 = shows_0 _ word0 (omega arith) (omega arith); shows1 = shows_1 _ word1 (omega arith) (omega arith) }
