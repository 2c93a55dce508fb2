-- Each fact of a family is its column of the table. Assumes nothing.
use Prim.Native.Nat.{ℕ}
use mathlib.Core.Path.{◌≡◌, refl, ◌∙◌}
use mathlib.Core.Bool.{Bool, true, false}
use native.Mathlib.Omega.{arith}
use lib.Dec.{eqb}
use borrow.Author.Tests.{eqb-true, eqb-false}
use Rattle.families.specs.Family.{by_family, code_size, slot_count, unknown_hangs, pauses_memory, highest_entry, FamilyRow, row_of, Tells}
use Rattle.families.proofs.Tests.{outside}

-- what holds of families 1 to 4, and of a number that names none, holds of every number
each : (P : ℕ → Type 0) → P 1 → P 2 → P 3 → P 4
    → ((f : ℕ) → eqb f 1 ≡ false → eqb f 2 ≡ false → eqb f 3 ≡ false → eqb f 4 ≡ false → P f) → (f : ℕ) → P f
each P one two three four none f = is 1 one (λ a. is 2 two (λ b. is 3 three (λ c. is 4 four (λ d. none f a b c d))))
  where
    is : (n : ℕ) → P n → (eqb f n ≡ false → P f) → P f
    is n here other = by (eqb f n) refl
      where
        by : (t : Bool) → eqb f n ≡ t → P f
        by true e = rw (eqb-true f n e) here
        by false e = other e

pub code_ram : (f : ℕ) → code_size f ≡ (row_of f).code_ram
unfolding by_family row_of
code_ram = each (λ f. code_size f ≡ (row_of f).code_ram) refl refl refl refl (λ f a b c d. simp (a, b, c, d))

pub slots : (f : ℕ) → slot_count f ≡ (row_of f).slots
unfolding by_family row_of
slots = each (λ f. slot_count f ≡ (row_of f).slots) refl refl refl refl (λ f a b c d. simp (a, b, c, d))

pub hangs : (f : ℕ) → unknown_hangs f ≡ (row_of f).hangs
unfolding row_of
hangs = each (λ f. unknown_hangs f ≡ (row_of f).hangs) refl refl refl refl (λ f a b c d. simp (a, b, c, d))

pub pauses : (f : ℕ) → pauses_memory f ≡ (row_of f).pauses
unfolding row_of
pauses =
    each (λ f. pauses_memory f ≡ (row_of f).pauses) refl refl refl refl
    (λ f a b c d. outside 2 f 4 (λ l m. omega (arith, eqb-false f 2 b, eqb-false f 3 c, eqb-false f 4 d)) ∙ simp (a, b, c, d))

pub highest : (f : ℕ) → highest_entry f ≡ (row_of f).highest
unfolding by_family row_of
highest = each (λ f. highest_entry f ≡ (row_of f).highest) refl refl refl refl (λ f a b c d. simp (a, b, c, d))

-- all that is told of a family
pub tells : {A : Type 0} {fact : ℕ → A} {column : FamilyRow → A} {f : ℕ} {r : A} → fact f ≡ column (row_of f) → r ≡ fact f → Tells fact column f r
tells law e = record { answered = e; tabled = e ∙ law }
