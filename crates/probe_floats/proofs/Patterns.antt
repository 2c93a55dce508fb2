-- Laws of patterns and floats: the records of specs/Pattern from their answers. Assumes nothing.
use mathlib.Core.Path.{◌≡◌, refl, sym, subst}
use mathlib.Core.Bool.{Bool, true, false, not, cond}
use Prim.Native.Nat.{ℕ, ◌*◌, ◌<◌}
use borrow.Author.Tests.{eq-eqb}
use lib.Dec.{T}
use lib.Ieee.{Float, nan, inf, fin, binary32, top, up, down, div, lt, ne, fits, is_nan, of_bits, to_bits}
use lib.Ieee.Bits.{nan_bits_is, of_bits-to_bits, to_bits-of_bits}
use Rattle.probe_floats.specs.Pattern.{float_of, nan_pattern, pattern_of, is_finite, FromPattern, ToPattern}
use Rattle.probe_floats.proofs.Comparison.{never}

-- ---- NaN

pub only_nan : (x : Float) → is_nan x ≡ true → x ≡ nan
unfolding is_nan
only_nan nan h = refl
only_nan (inf s) h = never (sym h)
only_nan (fin s m e) h = never (sym h)

-- NaN alone differs from itself
pub differs : (x : Float) → ne x x ≡ is_nan x
unfolding ne is_nan
differs nan = refl
differs (inf true) = refl
differs (inf false) = refl
differs (fin true m e) = rw (eq-eqb (m * up e * down e) (m * up e * down e) refl)
differs (fin false m e) = rw (eq-eqb (m * up e * down e) (m * up e * down e) refl)

pub zero_by_zero : div binary32 (of_bits binary32 0) (of_bits binary32 0) ≡ nan
unfolding div of_bits
zero_by_zero = refl

-- ---- patterns

-- a pattern that is no NaN's is written again as it was
again : (bits : ℕ) → bits < 2 * top binary32 → (t : Bool) → is_nan (float_of bits) ≡ t
    → cond t nan_pattern (to_bits binary32 (float_of bits)) ≡ cond t nan_pattern bits
again bits small true h = refl
again bits small false h = to_bits-of_bits binary32 bits small (subst (λ (t : Bool). T (not t)) (sym h) tt)

pub from_pattern : (bits : ℕ) (r : Float) → bits < 2 * top binary32 → r ≡ float_of bits → FromPattern bits r
from_pattern bits r small answer = record {
  answered = answer;
  back = rw (answer, nan_bits_is binary32 bits) (again bits small (is_nan (float_of bits)) refl);
}

-- whichever way the test goes, reading what was written for x gives x
same : (x : Float) → fits binary32 x ≡ true → (t : Bool) → is_nan x ≡ t → float_of (cond t nan_pattern (to_bits binary32 x)) ≡ x
unfolding of_bits
same x held true h = sym (only_nan x h)
same x held false h = of_bits-to_bits binary32 x (subst T (sym held) tt)

pub to_pattern : (x : Float) (r : ℕ) → fits binary32 x ≡ true → r ≡ pattern_of x → ToPattern x r
to_pattern x r held answer = record {
  answered = answer;
  back = rw answer (same x held (is_nan x) refl);
}

-- ---- finite is strictly between the infinities

pub above_lowest : (x : Float) → lt (inf true) x ≡ true → lt x (inf false) ≡ is_finite x
unfolding lt
above_lowest nan h = refl
above_lowest (inf true) h = never (sym h)
above_lowest (inf false) h = refl
above_lowest (fin s m e) h = refl

pub not_above_lowest : (x : Float) → lt (inf true) x ≡ false → false ≡ is_finite x
unfolding lt
not_above_lowest nan h = refl
not_above_lowest (inf s) h = refl
not_above_lowest (fin s m e) h = sym h
