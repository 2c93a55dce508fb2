-- With readings filled in, a wait that began no later ends no later. Assumes nothing.
use Prim.Native.Nat.{ℕ, ◌+◌, ◌≤◌, ◌<◌}
use mathlib.Core.Path.{◌≡◌, refl, sym, subst, ◌∙◌}
use mathlib.Core.Bool.{true}
use mathlib.Core.List.{List}
use native.Mathlib.Decide.{dec_lt}
use native.Mathlib.Omega.{arith}
use lib.ListN.{length, get_or}
use borrow.Author.Tests.{lt-ltb, eq-eqb}
use Rattle.event_log.specs.Log.{Log}
use Rattle.event_log.specs.Validity.{valid_log, valid_place}
use Rattle.event_log.specs.declared.place.Place.{Place}
use Rattle.event_log.proofs.ValidLaws.{used_below, valid_row_start}
use Rattle.log_waits.specs.Left.{left_of}
use Rattle.log_waits.specs.Wait.{wait_of}
use Rattle.log_waits.proofs.LeftLaws.{left_on, left_in_row, left_from_lem, left_later, left_fits}
use Rattle.log_waits.proofs.WaitLaws.{wait_cut, wait_spent, wait_valid}
use Rattle.log_ewaits.specs.Ewait.{has_reading, search_from, passed_by, OnReading, left_after}
use Rattle.words.specs.Bits.{bit_of}
use Rattle.log_ewaits.specs.declared.ewait.Released.{Released}
use Rattle.log_ewaits.proofs.EwaitLaws.{FoundBy, EndsAt, EndsFrom, ReleasedWithin, reads_at, search_finds, search_ends}
use Rattle.log_ewaits.proofs.EwaitLaws.{ewait_on_reading, ewait_spent, ewait_valid, valid_search}
use Rattle.run.specs.SlotRun.{Scene}
use Rattle.run.specs.MoreLog.{FilledIn}
use Rattle.run.proofs.TwoLogs.{ReleasedToo, LogsBeside}

module _ (clocks : List ℕ) where
  -- two places of one log, of which the second has no less left
  pub record NoLess (p p' : Place) : Type 0 where
    pub within : valid_place clocks p ≡ true
    pub within' : valid_place clocks p' ≡ true
    pub left : left_of clocks p ≤ left_of clocks p'

  -- a place in a row lies in no earlier row than one that has as much left
  row_order : (p p' : Place) → NoLess p p' → p.row < length clocks → p'.row ≤ p.row
  row_order p p' near h =
      elim (dec_lt p.row p'.row) as (λ _. p'.row ≤ p.row) [
        | yes l ↦
            let past = left_from_lem clocks (p.row + 1) p' (omega arith) in
            absurd (omega (arith, near.left, used_below clocks p near.within h, left_on clocks p.row p.used h))
        | no l ↦ omega arith
      ]

  -- a wait from there is not cut either, and leaves no less
  module _ (p p' : Place) (near : NoLess p p') (n : ℕ) (done : (wait_of clocks p n).cut ≡ 0) where
    wait_done : (wait_of clocks p' n).cut ≡ 0
    wait_done = omega (arith, done, near.left, wait_cut clocks p n, wait_cut clocks p' n)

    wait_left : left_of clocks (wait_of clocks p n).place ≤ left_of clocks (wait_of clocks p' n).place
    wait_left = omega (arith, done, wait_done, near.left, wait_spent clocks p n, wait_spent clocks p' n)

  -- of searches from there the second ends at a place with no less left, if it ends in no later row
  search_left : (p p' : Place) → NoLess p p' → (q q' : Place) → EndsAt (length clocks) p.row p.used q → EndsAt (length clocks) p'.row p'.used q'
      → left_of clocks q ≤ left_of clocks p → q'.row ≤ q.row → left_of clocks q ≤ left_of clocks q'
  search_left p p' near q q' ends ends' spent l =
      elim (dec_lt q'.row q.row) as (λ _. left_of clocks q ≤ left_of clocks q') [
        | yes h ↦ left_later clocks q' q h
        | no h ↦
            let e : q.row ≡ q'.row = omega arith in
            elim (dec_lt p'.row q'.row) as (λ _. left_of clocks q ≤ left_of clocks q') [
              | yes m ↦ rw e (left_in_row clocks q'.row q'.used q.used (omega (arith, ends'.row_start m)))
              | no m ↦
                  let same_row : p'.row ≡ q'.row = omega (arith, row_order p p' near (omega (arith, ends.from, ends.inside)), ends.from) in
                  let kept : left_of clocks p' ≤ left_of clocks q' = rw same_row (left_in_row clocks q'.row q'.used p'.used ends'.used_most) in
                  omega (arith, near.left)
            ]
      ]

module _ (x : Scene) (log' : Log) (valid : valid_log x.log ≡ true) (valid' : valid_log log' ≡ true) (filled : FilledIn x.log log') where
  -- the rows have the same clocks, so that the same places lie in them
  inside_too : (p : Place) → valid_place x.log.clocks p ≡ true → valid_place log'.clocks p ≡ true
  inside_too p v = subst (λ (c : List ℕ). valid_place c p ≡ true) (sym filled.clocks) v

  -- a row that releases under the first log has the reading under the second
  reads_too : (q : Place) (n event value : ℕ) → OnReading x.log event value (Released.At q n) → reads_at log' event value q.row ≡ true
  unfolding has_reading
  reads_too q n event value o =
      rw (
        lt-ltb event 32 o.0,
        eq-eqb (bit_of (get_or log'.known q.row 0) event) 1 (filled.known q.row event o.1),
        eq-eqb (bit_of (get_or log'.values q.row 0) event) value (sym (filled.values event q.row o.1) ∙ o.2),
      )
      refl

  abbrev clocks : List ℕ
  clocks = x.log.clocks

  module _ (p p' : Place) (near : NoLess clocks p p') (event value : ℕ) where
    -- what is known of an ewait's search under the first log, and of the one under the second
    record Searched (r : Released) : Type 0 where
      ends : EndsFrom (length clocks) p.row p.used r
      reads : OnReading x.log event value r
      place_valid : ReleasedWithin clocks r
      spent : left_of clocks p ≡ passed_by r + left_after clocks r

    record SearchedToo (r : Released) : Type 0 where
      ends : EndsFrom (length clocks) p'.row p'.used r
      place_valid : ReleasedWithin clocks r
      finds : (at : ℕ) → at < length clocks → reads_at log' event value at ≡ true → p'.row ≤ at → FoundBy at r

    searched : Searched (search_from x.log event value p.row p.used)
    searched =
        let is = valid_search x.log valid event value p in
        record {
          ends = search_ends x.log event value p.row p.used;
          reads = rw is at (ewait_on_reading x.log event value p);
          place_valid = rw is at (ewait_valid x.log valid event value p near.within);
          spent = rw is at (ewait_spent x.log event value p (left_fits x.log valid p));
        }

    searched_too : SearchedToo (search_from log' event value p'.row p'.used)
    searched_too =
        let r = search_from log' event value p'.row p'.used in
        let found = rw (valid_search log' valid' event value p') at (ewait_valid log' valid' event value p' (inside_too p' near.within')) in
        record {
          ends = subst (λ (c : List ℕ). EndsFrom (length c) p'.row p'.used r) filled.clocks (search_ends log' event value p'.row p'.used);
          place_valid = subst (λ (c : List ℕ). ReleasedWithin c r) filled.clocks found;
          finds = λ at h t l. search_finds log' event value at (rw filled.clocks h) t p'.row p'.used l;
        }

    -- the second is released too, at a place with no less left
    released_too : (r r' : Released) → Searched r → SearchedToo r' → ReleasedToo x log' (NoLess clocks) r r'
    released_too (Released.End n) r' one two = tt
    released_too (Released.At q n) r' one two =
        let order = row_order clocks p p' near (omega (arith, one.ends.from, one.ends.inside)) in
        by r' two (two.finds q.row one.ends.inside (reads_too q n event value one.reads) (omega (arith, one.ends.from)))
      where
        by : (r' : Released) → SearchedToo r' → FoundBy q.row r' → ReleasedToo x log' (NoLess clocks) (Released.At q n) r'
        by (Released.At q' n') two found = record {
          within = one.place_valid;
          within' = two.place_valid;
          left = search_left clocks p p' near q q' one.ends two.ends (omega (arith, one.spent)) found;
        }
        by (Released.End n') two found = absurd found

  pub filled_logs : LogsBeside x log' (NoLess clocks)
  filled_logs =
      let inside = valid_row_start x.log valid 0 (omega arith) in
      record {
        start = record { within = inside; within' = inside; left = omega arith };
        waits = λ p p' near n done.
            rw filled.clocks (
              wait_done clocks p p' near n done,
              record {
                within = wait_valid x.log valid p n near.within;
                within' = wait_valid x.log valid p' n near.within';
                left = wait_left clocks p p' near n done;
              },
            );
        ewaits = λ p p' near event value.
            rw (valid_search x.log valid event value p, valid_search log' valid' event value p')
            (released_too p p' near event value (search_from x.log event value p.row p.used) (search_from log' event value p'.row p'.used)
            (searched p p' near event value) (searched_too p p' near event value));
      }
