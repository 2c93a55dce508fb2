-- What a change of a flag does, bit by bit. Assumes nothing.
use Prim.Native.Nat.{ℕ, ◌≤◌, ◌<◌}
use mathlib.Core.Path.{◌≡◌, refl, ◌∙◌}
use native.Mathlib.Decide.{dec_lt}
use native.Mathlib.Omega.{arith}
use borrow.Author.Tests.{lt-ltb, le-ltb}
use Rattle.machine_flags.specs.Flags.{enables_after, values_after, changed_flags}
use Rattle.machine_flags.specs.Flags.{enable_after, value_after, SameBits, ChangesFlags}
use Rattle.words.specs.Bits.{bit_of}
use Rattle.words.proofs.BitLaws.{set_own, set_other, clear_own, clear_other}
use Rattle.machine_flags.specs.declared.flags.Change.{Change}
use Rattle.machine_flags.specs.declared.flags.Flags.{Flags}

-- ---- the flags

module _ (flag n : ℕ) (apart : n ≡ flag → ⊥) where
  enable_other : (change : Change) (enables : ℕ) → bit_of (enables_after change flag enables) n ≡ bit_of enables n
  unfolding enables_after
  enable_other Change.Unset enables = clear_other flag enables n apart
  enable_other Change.Set1 enables = set_other flag enables n apart
  enable_other Change.Set0 enables = set_other flag enables n apart

  value_other : (change : Change) (values : ℕ) → bit_of (values_after change flag values) n ≡ bit_of values n
  unfolding values_after
  value_other Change.Unset values = cc (clear_other flag values n apart)
  value_other Change.Set1 values = set_other flag values n apart
  value_other Change.Set0 values = clear_other flag values n apart

module _ (flag : ℕ) where
  enable_own : (change : Change) (enables : ℕ) → bit_of (enables_after change flag enables) flag ≡ enable_after change
  unfolding enables_after
  enable_own Change.Unset enables = clear_own flag enables
  enable_own Change.Set1 enables = set_own flag enables
  enable_own Change.Set0 enables = set_own flag enables

  value_own : (change : Change) (values : ℕ) → bit_of (values_after change flag values) flag ≡ value_after change (bit_of values flag)
  unfolding values_after
  value_own Change.Unset values = cc (clear_own flag values)
  value_own Change.Set1 values = set_own flag values
  value_own Change.Set0 values = clear_own flag values

changed_in : (change : Change) (flag : ℕ) (flags : Flags) → flag < 32
    → changed_flags change flag flags ≡ record { values = values_after change flag flags.values; enables = enables_after change flag flags.enables }
changed_in change flag flags h = rw (lt-ltb flag 32 h)

changed_none : (change : Change) (flag : ℕ) (flags : Flags) → 32 ≤ flag → changed_flags change flag flags ≡ flags
changed_none change flag flags h = rw (le-ltb flag 32 h)

-- all that a change promises
pub changes : (change : Change) (flag : ℕ) (old new : Flags) → new ≡ changed_flags change flag old → ChangesFlags change flag old new
changes change flag old new e = record {
  answered = e;
  enable = λ h. rw (e ∙ changed_in change flag old h) (enable_own flag change old.enables);
  value = λ h. rw (e ∙ changed_in change flag old h) (value_own flag change old.values);
  others = λ n apart. same n apart;
  above = λ h. e ∙ changed_none change flag old h;
}
  where
    same : (n : ℕ) → (n ≡ flag → ⊥) → SameBits n old new
    same n apart =
        elim (dec_lt flag 32) as (λ _. SameBits n old new) [
          | yes l ↦ rw (e ∙ changed_in change flag old l) (enable_other flag n apart change old.enables, value_other flag n apart change old.values)
          | no l ↦ rw (e ∙ changed_none change flag old (omega arith)) (refl, refl)
        ]
