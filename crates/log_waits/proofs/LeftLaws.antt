-- What a log has left, row by row, and how much a valid log can have. Assumes nothing.
use Rattle.std.proofs.Common.{◌≡◌, ℕ, zero, suc, ◌+◌, ◌-◌, ◌*◌, ◌%◌, ◌^◌, ◌<◌, ◌≤◌, true, List, length, get_or, add_assoc, arith}
use native.Mathlib.Decide.{dec_lt}
use native.Mathlib.Nat.{mod-add-mod}
use Rattle.event_log.specs.Log.{Log}
use Rattle.event_log.specs.Validity.{valid_log}
use Rattle.event_log.specs.declared.place.Place.{Place}
use Rattle.event_log.proofs.ValidLaws.{rows_most, row_most}
use Rattle.log_waits.specs.Left.{left_in, left_from, left_of}

-- the rows left are the present one and those after it
pub rows_left : (clocks : List ℕ) (row : ℕ) → row < length clocks → length clocks - row ≡ suc (length clocks - (row + 1))
rows_left clocks row h = omega arith

module _ (clocks : List ℕ) (row used : ℕ) where
  pub left_end : length clocks ≤ row → left_from clocks row used ≡ 0
  unfolding left_in
  left_end h = let z : length clocks - row ≡ 0 = omega arith in rw z

  pub left_on : row < length clocks → left_from clocks row used ≡ (get_or clocks row 0 - used) + left_from clocks (row + 1) 0
  unfolding left_in
  left_on h = rw (rows_left clocks row h)

  -- ---- the same with a sum before it that is kept in 64 bits

  pub left_sum_end : (sum : ℕ) → sum < 2 ^ 64 → length clocks ≤ row → (sum + left_from clocks row used) % 2 ^ 64 ≡ sum
  left_sum_end sum s h = rw (left_end h) (omega arith)

  pub left_sum_on : (sum : ℕ) → row < length clocks
      → (sum + left_from clocks row used) % 2 ^ 64 ≡ ((sum + (get_or clocks row 0 - used)) % 2 ^ 64 + left_from clocks (row + 1) 0) % 2 ^ 64
  left_sum_on sum h = rw (left_on h, mod-add-mod, add_assoc)

-- ---- a later place has no more left

module _ (clocks : List ℕ) where
  pub left_in_row : (row used used' : ℕ) → used ≤ used' → left_from clocks row used' ≤ left_from clocks row used
  left_in_row row used used' h =
      elim (dec_lt row (length clocks)) as (λ _. left_from clocks row used' ≤ left_from clocks row used) [
        | yes l ↦ omega (arith, left_on clocks row used l, left_on clocks row used' l)
        | no l ↦ omega (arith, left_end clocks row used' (omega arith))
      ]

  rows_on : (gap row row' used : ℕ) → row' ≡ row + gap → left_from clocks row' used ≤ left_from clocks row 0
  rows_on zero row row' used e = let here : row' ≡ row = omega arith in rw here (left_in_row row 0 used (omega arith))
  rows_on (suc gap) row row' used e =
      let later = rows_on gap (row + 1) row' used (omega arith) in
      elim (dec_lt row (length clocks)) as (λ _. left_from clocks row' used ≤ left_from clocks row 0) [
        | yes l ↦ omega (arith, left_on clocks row 0 l)
        | no l ↦ omega (arith, left_end clocks row' used (omega arith))
      ]

  -- at a row's start as much is left as at any place in it or after it
  pub left_from_lem : (row : ℕ) (p : Place) → row ≤ p.row → left_of clocks p ≤ left_from clocks row 0
  left_from_lem row p h = rows_on (p.row - row) row p.row p.used (omega arith)

  pub left_later : (p p' : Place) → p.row < p'.row → left_of clocks p' ≤ left_of clocks p
  left_later p p' h =
      elim (dec_lt p.row (length clocks)) as (λ _. left_of clocks p' ≤ left_of clocks p) [
        | yes l ↦ omega (arith, left_on clocks p.row p.used l, left_from_lem (p.row + 1) p' (omega arith))
        | no l ↦ omega (arith, left_end clocks p'.row p'.used (omega arith))
      ]

-- ---- of a valid log

module _ (log : Log) (valid : valid_log log ≡ true) where
  left_in_most : (n row used : ℕ) → left_in n log.clocks row used ≤ n * 2 ^ 48
  unfolding left_in
  left_in_most zero row used = omega arith
  left_in_most (suc n) row used = omega (arith, row_most log valid row, left_in_most n (row + 1) 0)

  -- 1,024 rows of 2^48 clocks
  pub left_most : (p : Place) → left_of log.clocks p ≤ 1024 * 2 ^ 48
  left_most p = omega (arith, left_in_most (length log.clocks - p.row) p.row p.used, rows_most log valid)

  pub left_fits : (p : Place) → left_of log.clocks p < 2 ^ 64
  left_fits p = omega (arith, left_most p)
