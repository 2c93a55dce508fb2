-- What the tests of the definitions give, from facts on numbers and back. Assumes nothing.
use Prim.Native.Nat.{ℕ, ◌≤◌}
use mathlib.Core.Path.{◌≡◌, refl, sym, ◌∙◌}
use mathlib.Core.Bool.{Bool, true, false, cond, ◌&&◌, and-eq-true_iff, true≢false}
use native.Mathlib.Omega.{arith}
use lib.Dec.{leb, eqb}
use borrow.Author.Tests.{le-leb, leb-true, ne_eqb, eqb-false}
use Rattle.families.specs.Family.{within, known_family, by_family}

pub both_left : (a b : Bool) → (a && b) ≡ true → a ≡ true
both_left a b e = ((and-eq-true_iff a b).0 e).0

pub both_right : (a b : Bool) → (a && b) ≡ true → b ≡ true
both_right a b e = ((and-eq-true_iff a b).0 e).1

pub not_both : (a b : Bool) → (a ≡ true → b ≡ true → ⊥) → (a && b) ≡ false
not_both true true h = absurd (h refl refl)
not_both true false h = refl
not_both false b h = refl

pub inside : (low n high : ℕ) → low ≤ n → n ≤ high → within low n high ≡ true
inside low n high p q = simp (le-leb low n p, le-leb n high q)

pub outside : (low n high : ℕ) → (low ≤ n → n ≤ high → ⊥) → within low n high ≡ false
outside low n high h = not_both (leb low n) (leb n high) (λ p q. h (leb-true low n p) (leb-true n high q))

pub bounds : (low n high : ℕ) → within low n high ≡ true → (low ≤ n) × (n ≤ high)
bounds low n high e = (leb-true low n (both_left (leb low n) (leb n high) e), leb-true n high (both_right (leb low n) (leb n high) e))

-- a choice has a property where each arm has it under its test
pub cond_elim : {A : Type 0} (P : A → Type 0) (c : Bool) {a b : A} → (c ≡ true → P a) → (c ≡ false → P b) → P (cond c a b)
cond_elim P true f g = f refl
cond_elim P false f g = g refl

-- what holds of each family's value, and of 0 where there is no such family, holds of every number's
pub by_family_elim : (P : ℕ → Type 0) (family one two three four : ℕ) → P one → P two → P three → P four → (known_family family ≡ false → P 0)
    → P (by_family family one two three four)
unfolding by_family
by_family_elim P family one two three four a b c d z =
    cond_elim P (eqb family 1) (λ _. a)
    (λ n₁. cond_elim P (eqb family 2) (λ _. b)
    (λ n₂. cond_elim P (eqb family 3) (λ _. c)
    (λ n₃. cond_elim P (eqb family 4) (λ _. d)
    (λ n₄. z (outside 1 family 4 (λ l h. omega (arith, eqb-false family 1 n₁, eqb-false family 2 n₂, eqb-false family 3 n₃, eqb-false family 4 n₄)))))))

-- a number that names no family has the value 0
pub by_no_family : (family one two three four : ℕ) → known_family family ≡ false → by_family family one two three four ≡ 0
unfolding by_family
by_no_family family one two three four u = simp (differs 1 refl, differs 2 refl, differs 3 refl, differs 4 refl)
  where
    differs : (n : ℕ) → known_family n ≡ true → eqb family n ≡ false
    differs n known = ne_eqb family n (λ e. true≢false (sym known ∙ rw (← e) u))
