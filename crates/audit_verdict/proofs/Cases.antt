-- Ways to take tests apart that the other files share. Assumes nothing.
use Prim.Native.Nat.{ℕ, zero, suc, ◌<◌}
use mathlib.Core.Path.{◌≡◌, refl}
use mathlib.Core.Logic.{◌⊎◌, inl, inr}
use mathlib.Core.Bool.{Bool, true, false, ◌&&◌}
use native.Mathlib.Omega.{arith}
use Rattle.families.proofs.Tests.{both_left, both_right}

-- from two constructors that were shown equal
pub never : {A : Type 0} → ◌≡◌ {A = ℕ} 0 1 → A
never e = absurd (omega arith)

-- a test passes or fails
pub either : (b : Bool) → (b ≡ true) ⊎ (b ≡ false)
either true = inl refl
either false = inr refl

-- a test of every number below n, which antt computes where n is a numeral
abbrev each_below : ℕ → (ℕ → Bool) → Bool
each_below zero f = true
each_below (suc n) f = f 0 && each_below n (λ i. f (suc i))

pub below_at : (n : ℕ) (f : ℕ → Bool) → each_below n f ≡ true → (i : ℕ) → i < n → f i ≡ true
below_at zero f t i h = absurd (omega arith)
below_at (suc n) f t zero h = both_left (f 0) _ t
below_at (suc n) f t (suc i) h = below_at n (λ j. f (suc j)) (both_right (f 0) _ t) i (omega arith)
