-- Little-endian numbers and their bytes, there and back. Assumes nothing.
use Prim.Native.Nat.{ℕ, zero, suc, ◌+◌, ◌*◌, ◌/◌, ◌%◌, ◌^◌, ◌<◌, ◌≤◌}
use mathlib.Core.Path.{◌≡◌, refl}
use mathlib.Core.List.{List, [], ◌∷◌, ◌++◌}
use lib.Dec.{lit<}
use lib.ListN.{length, get_or, take}
use native.Mathlib.Nat.{pow-suc, div-lt_iff_lt-mul}
use native.Mathlib.Omega.{arith}
use Rattle.isa.specs.Reader.{le_number, operand}
use Rattle.isa.specs.Writer.{le_bytes}

pub two_bytes : (bytes : List ℕ) → get_or bytes 1 0 + 256 * get_or bytes 2 0 ≡ operand 2 bytes
two_bytes [] = refl
two_bytes (x ∷ []) = refl
two_bytes (x ∷ y ∷ []) = refl
two_bytes (x ∷ y ∷ z ∷ bytes) = omega arith

pub four : (bytes : List ℕ) → get_or bytes 1 0 + 256 * get_or bytes 2 0 + 65536 * get_or bytes 3 0 + 16777216 * get_or bytes 4 0 ≡ operand 4 bytes
four [] = refl
four (x ∷ []) = refl
four (x ∷ y ∷ []) = omega arith
four (x ∷ y ∷ z ∷ []) = omega arith
four (x ∷ y ∷ z ∷ u ∷ []) = omega arith
four (x ∷ y ∷ z ∷ u ∷ v ∷ bytes) = omega arith

-- the bytes of the number that bytes make are those bytes
pub respell : (n : ℕ) (xs : List ℕ) → n ≤ length xs → ((k : ℕ) → get_or xs k 0 < 256) → le_bytes n (le_number (take n xs)) ≡ take n xs
respell zero xs h b = refl
respell (suc n) [] h b = absurd (omega arith)
respell (suc n) (x ∷ xs) h b =
    let L = le_number (take n xs) in
    let low : (x + 256 * L) % 256 ≡ x = omega (arith, b 0) in
    let high : (x + 256 * L) / 256 ≡ L = omega (arith, b 0) in
    rw (low, high, respell n xs (omega arith) (λ k. b (suc k)))

-- the number that a number's bytes make is the number
pub reread : (n x : ℕ) (after : List ℕ) → x < 256 ^ n → le_number (take n (le_bytes n x ++ after)) ≡ x
reread zero x after h = omega arith
reread (suc n) x after h =
    let q : x / 256 < 256 ^ n = (div-lt_iff_lt-mul (lit< tt)).1 (rw pow-suc at h) in
    rw (reread n (x / 256) after q) (omega arith)
