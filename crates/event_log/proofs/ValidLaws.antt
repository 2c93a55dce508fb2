-- What a valid log is, row by row, and which places lie in it. Assumes nothing.
use Prim.Native.Nat.{ℕ, zero, suc, ◌^◌, ◌<◌, ◌≤◌}
use mathlib.Core.Path.{◌≡◌, refl}
use mathlib.Core.Bool.{true, ◌&&◌, and-eq-true_iff}
use mathlib.Core.List.{List, [], ◌∷◌}
use native.Mathlib.Decide.{dec_lt}
use native.Mathlib.Omega.{arith}
use lib.Dec.{leb, eqb}
use lib.ListN.{length, get_or, get_or-eq_default}
use borrow.Author.Tests.{leb-true, eqb-true, ltb-true, lt-ltb, le-ltb, eq-eqb}
use Rattle.event_log.specs.Log.{Log}
use Rattle.event_log.specs.Validity.{rows_in_range, valid_log, valid_place}
use Rattle.event_log.specs.declared.place.Place.{Place}

-- a row has 1 to 2^48 clocks
abbrev InRange : ℕ → Type 0
InRange c = (1 ≤ c) × (c ≤ 2 ^ 48)

row_in_range : (clocks : List ℕ) → rows_in_range clocks ≡ true → (row : ℕ) → row < length clocks → InRange (get_or clocks row 0)
row_in_range [] e row h = absurd (omega arith)
row_in_range (c ∷ clocks) e zero h =
    let here = (and-eq-true_iff (leb 1 c) (leb c (2 ^ 48))).0 ((and-eq-true_iff (leb 1 c && leb c (2 ^ 48)) (rows_in_range clocks)).0 e).0 in
    (leb-true 1 c here.0, leb-true c (2 ^ 48) here.1)
row_in_range (c ∷ clocks) e (suc row) h = row_in_range clocks ((and-eq-true_iff (leb 1 c && leb c (2 ^ 48)) (rows_in_range clocks)).0 e).1 row (omega arith)

record Rows (log : Log) : Type 0 where
  few : length log.clocks ≤ 1024
  known_rows : length log.known ≡ length log.clocks
  value_rows : length log.values ≡ length log.clocks
  in_range : (row : ℕ) → row < length log.clocks → (1 ≤ get_or log.clocks row 0) × (get_or log.clocks row 0 ≤ 2 ^ 48)

valid_rows : (log : Log) → valid_log log ≡ true → Rows log
unfolding valid_log
valid_rows log e =
    let one = (and-eq-true_iff (leb (length log.clocks) 1024) _).0 e in
    let two = (and-eq-true_iff (eqb (length log.known) (length log.clocks)) _).0 one.1 in
    let three = (and-eq-true_iff (eqb (length log.values) (length log.clocks)) (rows_in_range log.clocks)).0 two.1 in
    record {
      few = leb-true (length log.clocks) 1024 one.0;
      known_rows = eqb-true (length log.known) (length log.clocks) two.0;
      value_rows = eqb-true (length log.values) (length log.clocks) three.0;
      in_range = row_in_range log.clocks three.1;
    }

module _ (log : Log) (valid : valid_log log ≡ true) where
  pub rows_most : length log.clocks ≤ 1024
  rows_most = (valid_rows log valid).few

  -- its columns are of one length
  pub valid_columns : (length log.known ≡ length log.clocks) × (length log.values ≡ length log.clocks)
  valid_columns = ((valid_rows log valid).known_rows, (valid_rows log valid).value_rows)

  pub row_most : (row : ℕ) → get_or log.clocks row 0 ≤ 2 ^ 48
  row_most row =
      elim (dec_lt row (length log.clocks)) as (λ _. get_or log.clocks row 0 ≤ 2 ^ 48) [
        | yes h ↦ ((valid_rows log valid).in_range row h).1
        | no h ↦ rw (get_or-eq_default log.clocks 0 {n = row} (omega arith)) (omega arith)
      ]

-- ---- the places that lie in a log

module _ (clocks : List ℕ) where
  pub valid_in_row : (row used : ℕ) → row < length clocks → used < get_or clocks row 0 → valid_place clocks (record { row = row; used = used }) ≡ true
  unfolding valid_place
  valid_in_row row used h l = rw (lt-ltb row (length clocks) h, lt-ltb used (get_or clocks row 0) l)

  pub valid_at_end : valid_place clocks (record { row = length clocks; used = 0 }) ≡ true
  unfolding valid_place
  valid_at_end = rw (le-ltb (length clocks) (length clocks) (omega arith), eq-eqb (length clocks) (length clocks) refl)

  module _ (p : Place) (v : valid_place clocks p ≡ true) where
    pub none_used_at_end : length clocks ≤ p.row → (p.row ≡ length clocks) × (p.used ≡ 0)
    unfolding valid_place
    none_used_at_end h =
        let t = (and-eq-true_iff (eqb p.row (length clocks)) (eqb p.used 0)).0 (rw (le-ltb p.row (length clocks) h) at v) in
        (eqb-true p.row (length clocks) t.0, eqb-true p.used 0 t.1)

    -- a place in a row has clocks of it left
    pub used_below : p.row < length clocks → p.used < get_or clocks p.row 0
    unfolding valid_place
    used_below h = ltb-true p.used (get_or clocks p.row 0) (rw (lt-ltb p.row (length clocks) h) at v)

    pub row_within : p.row ≤ length clocks
    row_within =
        elim (dec_lt p.row (length clocks)) as (λ _. p.row ≤ length clocks) [
          | yes h ↦ omega arith
          | no h ↦ omega (arith, (none_used_at_end (omega arith)).0)
        ]

-- a row's start lies in a valid log, and so does the end
pub valid_row_start : (log : Log) → valid_log log ≡ true → (row : ℕ) → row ≤ length log.clocks
    → valid_place log.clocks (record { row = row; used = 0 }) ≡ true
valid_row_start log valid row h =
    elim (dec_lt row (length log.clocks)) as (λ _. valid_place log.clocks (record { row = row; used = 0 }) ≡ true) [
      | yes l ↦ valid_in_row log.clocks row 0 l (omega (arith, ((valid_rows log valid).in_range row l).0))
      | no l ↦ let e : row ≡ length log.clocks = omega arith in rw e (valid_at_end log.clocks)
    ]
