-- An ewait's search, row by row; what it promises. Assumes nothing.
use Rattle.std.proofs.Common.{◌≡◌, ℕ, zero, suc, ◌+◌, ◌-◌, ◌%◌, ◌^◌, ◌<◌, ◌≤◌, Bool, true, false, ◌&&◌, eqb, ltb, List, length, get_or}
use Rattle.std.proofs.Common.{sym, refl, ap, ◌∙◌, subst, add-zero, add_assoc, mod-eq_of_lt, zero-add, arith, ltb-true, eqb-true}
use mathlib.Core.Bool.{and-eq-true_iff}
use native.Mathlib.Nat.{mod-add-mod}
use Rattle.log_waits.specs.Left.{left_from, left_of}
use Rattle.event_log.specs.Log.{Log}
use Rattle.event_log.specs.Validity.{valid_log, valid_place}
use Rattle.log_ewaits.specs.Ewait.{has_reading, passing, search_in, search_from, in64, ewait_of}
use Rattle.words.specs.Bits.{bit_of}
use Rattle.log_ewaits.specs.Ewait.{passed_by, ReadsAsked, OnReading, FirstFrom, left_after, SameReadings, with_values, Ewaits}
use Rattle.log_ewaits.specs.declared.ewait.Released.{Released}
use Rattle.event_log.specs.declared.place.Place.{Place}
use Rattle.event_log.proofs.ValidLaws.{valid_row_start}
use Rattle.log_waits.proofs.LeftLaws.{rows_left, left_end, left_on, left_fits}
use Rattle.log_ewaits.proofs.FirstRow.{ewait_first}

-- ---- clocks passed by, added up and kept in 64 bits

passing_none : (r : Released) → passing 0 r ≡ r
passing_none (Released.At p n) = rw zero-add
passing_none (Released.End n) = rw zero-add

passing_more : (a b : ℕ) (r : Released) → passing a (passing b r) ≡ passing (a + b) r
passing_more a b (Released.At p n) = rw add_assoc
passing_more a b (Released.End n) = rw add_assoc

-- what was passed by before may be kept in 64 bits too
in64_passing : (a : ℕ) (r : Released) → in64 (passing (a % 2 ^ 64) r) ≡ in64 (passing a r)
in64_passing a (Released.At p n) = ap (Released.At p) (mod-add-mod a (2 ^ 64) n)
in64_passing a (Released.End n) = ap Released.End (mod-add-mod a (2 ^ 64) n)

in64_fits : (r : Released) → passed_by r < 2 ^ 64 → in64 r ≡ r
in64_fits (Released.At p n) h = ap (Released.At p) (mod-eq_of_lt h)
in64_fits (Released.End n) h = ap Released.End (mod-eq_of_lt h)

-- released at or before a row
abbrev pub FoundBy : ℕ → Released → Type 0
FoundBy at (Released.At p n) = p.row ≤ at
FoundBy at (Released.End n) = ⊥

passing_found : (at clocks : ℕ) (r : Released) → FoundBy at r → FoundBy at (passing clocks r)
passing_found at clocks (Released.At p n) f = f
passing_found at clocks (Released.End n) f = f

-- where a search ends that began in a row with so much of it used: there, or at the start of a later row
pub record EndsAt (rows row used : ℕ) (p : Place) : Type 0 where
  pub from : row ≤ p.row
  pub inside : p.row < rows
  pub used_most : p.used ≤ used
  pub row_start : row < p.row → p.used ≡ 0

abbrev pub EndsFrom : ℕ → ℕ → ℕ → Released → Type 0
EndsFrom rows row used (Released.At p n) = EndsAt rows row used p
EndsFrom rows row used (Released.End n) = Unit {0}

passing_ends : (rows row used clocks : ℕ) (r : Released) → EndsFrom rows (row + 1) 0 r → EndsFrom rows row used (passing clocks r)
passing_ends rows row used clocks (Released.At p n) e =
    let none : p.used ≡ 0 = omega (arith, e.used_most) in
    record { from = omega (arith, e.from); inside = e.inside; used_most = omega arith; row_start = λ _. none }
passing_ends rows row used clocks (Released.End n) e = tt

-- ---- the search, row by row

module _ (log : Log) (event value : ℕ) where
  -- the row has the reading
  abbrev pub reads_at : ℕ → Bool
  reads_at row = has_reading (get_or log.known row 0) (get_or log.values row 0) event value

  module _ (row used : ℕ) where
    search_end : length log.clocks ≤ row → search_from log event value row used ≡ Released.End 0
    unfolding search_in
    search_end h = let z : length log.clocks - row ≡ 0 = omega arith in rw z

    pub search_here : row < length log.clocks → reads_at row ≡ true
        → search_from log event value row used ≡ Released.At (record { row = row; used = used }) 0
    unfolding search_in
    search_here h t = rw (rows_left log.clocks row h, t)

    pub search_next : row < length log.clocks → reads_at row ≡ false
        → search_from log event value row used ≡ passing (get_or log.clocks row 0 - used) (search_from log event value (row + 1) 0)
    unfolding search_in
    search_next h t = rw (rows_left log.clocks row h, t)

    -- ---- the same after some clocks were passed by

    module _ (passed : ℕ) where
      passing_end : length log.clocks ≤ row → passing passed (search_from log event value row used) ≡ Released.End passed
      passing_end h = rw (search_end h, add-zero)

      passing_here : row < length log.clocks → reads_at row ≡ true
          → passing passed (search_from log event value row used) ≡ Released.At (record { row = row; used = used }) passed
      passing_here h t = rw (search_here h t, add-zero)

      passing_next : row < length log.clocks → reads_at row ≡ false
          → passing passed (search_from log event value row used)
          ≡ passing (passed + (get_or log.clocks row 0 - used)) (search_from log event value (row + 1) 0)
      passing_next h t = rw (search_next h t) (passing_more passed (get_or log.clocks row 0 - used) (search_from log event value (row + 1) 0))

      -- and those kept in 64 bits
      pub in64_end : passed < 2 ^ 64 → length log.clocks ≤ row → in64 (passing passed (search_from log event value row used)) ≡ Released.End passed
      in64_end l h = rw (passing_end h) (in64_fits (Released.End passed) l)

      pub in64_here : passed < 2 ^ 64 → row < length log.clocks → reads_at row ≡ true
          → in64 (passing passed (search_from log event value row used)) ≡ Released.At (record { row = row; used = used }) passed
      in64_here l h t = rw (passing_here h t) (in64_fits (Released.At (record { row = row; used = used }) passed) l)

      pub in64_next : row < length log.clocks → reads_at row ≡ false
          → in64 (passing passed (search_from log event value row used))
          ≡ in64 (passing ((passed + (get_or log.clocks row 0 - used)) % 2 ^ 64) (search_from log event value (row + 1) 0))
      in64_next h t =
          ap in64 (passing_next h t) ∙ sym (in64_passing (passed + (get_or log.clocks row 0 - used)) (search_from log event value (row + 1) 0))

  pub in64_start : (p : Place) → in64 (passing 0 (search_from log event value p.row p.used)) ≡ ewait_of log p event value
  in64_start p = ap in64 (passing_none (search_from log event value p.row p.used))

  -- what the three laws keep holds of every search
  pub search_elim : (P : ℕ → ℕ → Released → Type 0)
      → ((row used : ℕ) → length log.clocks ≤ row → P row used (Released.End 0))
      → ((row used : ℕ) → row < length log.clocks → reads_at row ≡ true → P row used (Released.At (record { row = row; used = used }) 0))
      → ((row used : ℕ) (r : Released) → row < length log.clocks → reads_at row ≡ false → P (row + 1) 0 r
      → P row used (passing (get_or log.clocks row 0 - used) r))
      → (row used : ℕ) → P row used (search_from log event value row used)
  search_elim P at_end here onward row used = by (length log.clocks - row) row used refl
    where
      by : (f row used : ℕ) → f ≡ length log.clocks - row → P row used (search_from log event value row used)
      by zero row used e = let h : length log.clocks ≤ row = omega arith in rw (search_end row used h) (at_end row used h)
      by (suc f) row used e = at (reads_at row) refl (by f (row + 1) 0 (omega arith))
        where
          h : row < length log.clocks
          h = omega arith

          at : (b : Bool) → reads_at row ≡ b → P (row + 1) 0 (search_from log event value (row + 1) 0) → P row used (search_from log event value row used)
          at true t later = rw (search_here row used h t) (here row used h t)
          at false t later = rw (search_next row used h t) (onward row used (search_from log event value (row + 1) 0) h t later)

  -- a search goes no further than a row that has the reading
  pub search_finds : (at : ℕ) → at < length log.clocks → reads_at at ≡ true → (row used : ℕ) → row ≤ at
      → FoundBy at (search_from log event value row used)
  search_finds at inside there =
      search_elim (λ row used r. row ≤ at → FoundBy at r)
      (λ row used h l. absurd (omega arith))
      (λ row used h t l. l)
      (λ row used r h t k l.
      let apart : row ≡ at → ⊥ = λ e. let z : ◌≡◌ {A = ℕ} 0 1 = cc in omega arith in
      passing_found at (get_or log.clocks row 0 - used) r (k (omega arith)))

  pub search_ends : (row used : ℕ) → EndsFrom (length log.clocks) row used (search_from log event value row used)
  search_ends =
      search_elim (EndsFrom (length log.clocks))
      (λ row used h. tt)
      (λ row used h t. record { from = omega arith; inside = h; used_most = omega arith; row_start = λ l. absurd (omega arith) })
      (λ row used r h t k. passing_ends (length log.clocks) row used (get_or log.clocks row 0 - used) r k)

  -- ---- what is promised

  reading : (row : ℕ) → reads_at row ≡ true → ReadsAsked log event value row
  unfolding has_reading
  reading row t =
      let one = (and-eq-true_iff (ltb event 32) _).0 t in
      let two = (and-eq-true_iff (eqb (bit_of (get_or log.known row 0) event) 1) (eqb (bit_of (get_or log.values row 0) event) value)).0 one.1 in (
        ltb-true event 32 one.0,
        eqb-true (bit_of (get_or log.known row 0) event) 1 two.0,
        eqb-true (bit_of (get_or log.values row 0) event) value two.1,
      )

  on_reading_passing : (c : ℕ) (r : Released) → OnReading log event value r → OnReading log event value (passing c r)
  on_reading_passing c (Released.At p n) o = o
  on_reading_passing c (Released.End n) o = tt

  on_reading_in64 : (r : Released) → OnReading log event value r → OnReading log event value (in64 r)
  on_reading_in64 (Released.At p n) o = o
  on_reading_in64 (Released.End n) o = tt

  -- an event with no reading releases no wait
  pub ewait_on_reading : (p : Place) → OnReading log event value (ewait_of log p event value)
  ewait_on_reading p =
      on_reading_in64 (search_from log event value p.row p.used)
      (search_elim (λ row used r. OnReading log event value r)
      (λ row used h. tt)
      (λ row used h t. reading row t)
      (λ row used r h t k. on_reading_passing (get_or log.clocks row 0 - used) r k)
      p.row p.used)

  passed_passing : (c : ℕ) (r : Released) → passed_by (passing c r) ≡ c + passed_by r
  passed_passing c (Released.At p n) = refl
  passed_passing c (Released.End n) = refl

  left_after_passing : (c : ℕ) (r : Released) → left_after log.clocks (passing c r) ≡ left_after log.clocks r
  left_after_passing c (Released.At p n) = refl
  left_after_passing c (Released.End n) = refl

  -- what a search passed by and what is left are what was left before
  search_spent : (row used : ℕ)
      → left_from log.clocks row used ≡ passed_by (search_from log event value row used) + left_after log.clocks (search_from log event value row used)
  search_spent =
      search_elim (λ row used r. left_from log.clocks row used ≡ passed_by r + left_after log.clocks r)
      (λ row used h. left_end log.clocks row used h)
      (λ row used h t. sym (zero-add (left_from log.clocks row used)))
      (λ row used r h t k.
      let rest = get_or log.clocks row 0 - used in
      omega (arith, left_on log.clocks row used h, passed_passing rest r, left_after_passing rest r))

  -- where what was left fits 64 bits, an ewait is its search
  ewait_search : (p : Place) → left_of log.clocks p < 2 ^ 64 → ewait_of log p event value ≡ search_from log event value p.row p.used
  ewait_search p l = in64_fits (search_from log event value p.row p.used) (omega (arith, search_spent p.row p.used))

  pub ewait_spent : (p : Place) → left_of log.clocks p < 2 ^ 64
      → left_of log.clocks p ≡ passed_by (ewait_of log p event value) + left_after log.clocks (ewait_of log p event value)
  ewait_spent p l = rw (ewait_search p l) (search_spent p.row p.used)

-- ---- value bits without a known bit

same_test : (k v w : ℕ) (event value : ℕ) → (bit_of k event ≡ 1 → bit_of v event ≡ bit_of w event) → has_reading k v event value ≡ has_reading k w event value
unfolding has_reading
same_test k v w event value s = by (eqb (bit_of k event) 1) refl
  where
    by : (b : Bool) → eqb (bit_of k event) 1 ≡ b
        → (ltb event 32 && (eqb (bit_of k event) 1 && eqb (bit_of v event) value)) ≡ (ltb event 32 && (eqb (bit_of k event) 1 && eqb (bit_of w event) value))
    by true e = rw (s (eqb-true (bit_of k event) 1 e))
    by false e = rw e

same_search : (n : ℕ) (log : Log) (others : List ℕ) (event value row used : ℕ) → SameReadings log others event
    → search_in n log event value row used ≡ search_in n (with_values log others) event value row used
unfolding search_in
same_search zero log others event value row used s = refl
same_search (suc n) log others event value row used s =
    rw (
      same_test (get_or log.known row 0) (get_or log.values row 0) (get_or others row 0) event value (s row),
      same_search n log others event value (row + 1) 0 s,
    )

ewait_unread : (log : Log) (p : Place) (event value : ℕ) (others : List ℕ) → SameReadings log others event
    → ewait_of log p event value ≡ ewait_of (with_values log others) p event value
ewait_unread log p event value others s = ap in64 (same_search (length log.clocks - p.row) log others event value p.row p.used s)

-- all that an ewait promises
pub ewaits : (log : Log) (p : Place) (event value : ℕ) (answer : Released) → answer ≡ ewait_of log p event value
    → Ewaits log p event value answer
ewaits log p event value answer e = record {
  answered = e;
  on_reading = subst (OnReading log event value) (sym e) (ewait_on_reading log event value p);
  first = subst (FirstFrom log event value p.row p.used) (sym e) (ewait_first log event value p);
  unread = λ others s. e ∙ ewait_unread log p event value others s;
  spent = λ l. subst (λ (r : Released). left_of log.clocks p ≡ passed_by r + left_after log.clocks r) (sym e) (ewait_spent log event value p l);
}

-- ---- on a valid log

-- an ewait that is released ends at a place of the log
abbrev pub ReleasedWithin : List ℕ → Released → Type 0
ReleasedWithin clocks (Released.At p n) = valid_place clocks p ≡ true
ReleasedWithin clocks (Released.End n) = Unit {0}

module _ (log : Log) (valid : valid_log log ≡ true) (event value : ℕ) where
  -- 64 bits hold all that is passed by
  pub valid_search : (p : Place) → ewait_of log p event value ≡ search_from log event value p.row p.used
  valid_search p = ewait_search log event value p (left_fits log valid p)

  within_passing : (c : ℕ) (r : Released) → ReleasedWithin log.clocks r → ReleasedWithin log.clocks (passing c r)
  within_passing c (Released.At p n) h = h
  within_passing c (Released.End n) h = tt

  pub ewait_valid : (p : Place) → valid_place log.clocks p ≡ true → ReleasedWithin log.clocks (ewait_of log p event value)
  ewait_valid p v =
      rw (valid_search p)
      (search_elim log event value
      (λ row used r. valid_place log.clocks (record { row = row; used = used }) ≡ true → ReleasedWithin log.clocks r)
      (λ row used h k. tt)
      (λ row used h t k. k)
      (λ row used r h t k m. within_passing (get_or log.clocks row 0 - used) r (k (valid_row_start log valid (row + 1) (omega arith))))
      p.row p.used v)
