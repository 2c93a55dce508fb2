-- Under a log with rows added, a wait that ended before ends just there, with the same clocks. Assumes nothing.
use Prim.Native.Nat.{ℕ, zero, suc, ◌+◌, ◌-◌, ◌≤◌, ◌<◌}
use mathlib.Core.Path.{◌≡◌, refl, ap, ap₂, ◌∙◌}
use mathlib.Core.Bool.{true}
use mathlib.Core.List.{List}
use native.Mathlib.Decide.{dec_lt}
use native.Mathlib.Omega.{arith}
use lib.ListN.{length, get_or, length-append, get_or-append}
use Rattle.event_log.specs.Log.{Log}
use Rattle.event_log.specs.Validity.{valid_log, valid_place}
use Rattle.event_log.specs.declared.place.Place.{Place}
use Rattle.event_log.proofs.ValidLaws.{none_used_at_end, used_below, row_within, valid_columns, valid_row_start}
use Rattle.log_waits.specs.Left.{left_from, left_of}
use Rattle.log_waits.specs.Wait.{wait_from, wait_of}
use Rattle.log_waits.proofs.LeftLaws.{left_end, left_on}
use Rattle.log_waits.proofs.WaitLaws.{wait_end, wait_in_lem, wait_on, wait_elim, wait_valid}
use Rattle.log_ewaits.specs.Ewait.{has_reading, passing, search_from, ewait_of}
use Rattle.log_ewaits.specs.declared.ewait.Released.{Released}
use Rattle.log_ewaits.proofs.EwaitLaws.{ReleasedWithin, reads_at, search_here, search_next, search_elim, ewait_valid, valid_search}
use Rattle.run.specs.SlotRun.{Scene}
use Rattle.run.specs.MoreLog.{with_rows}
use Rattle.run.proofs.TwoLogs.{ReleasedToo, LogsBeside}

module _ (log more : Log) (valid : valid_log log ≡ true) (valid' : valid_log (with_rows log more) ≡ true) where
  abbrev clocks' : List ℕ
  clocks' = (with_rows log more).clocks

  -- the rows that there were are as they were
  same_clocks : (row : ℕ) → row < length log.clocks → get_or clocks' row 0 ≡ get_or log.clocks row 0
  same_clocks row h = get_or-append log.clocks more.clocks 0 row h

  same_known : (row : ℕ) → row < length log.clocks → get_or (with_rows log more).known row 0 ≡ get_or log.known row 0
  same_known row h = get_or-append log.known more.known 0 row (omega (arith, (valid_columns log valid).0))

  same_values : (row : ℕ) → row < length log.clocks → get_or (with_rows log more).values row 0 ≡ get_or log.values row 0
  same_values row h = get_or-append log.values more.values 0 row (omega (arith, (valid_columns log valid).1))

  same_reading : (event value row : ℕ) → row < length log.clocks → reads_at (with_rows log more) event value row ≡ reads_at log event value row
  same_reading event value row h = ap₂ (λ (known values : ℕ). has_reading known values event value) (same_known row h) (same_values row h)

  -- and there are no fewer
  longer : length log.clocks ≤ length clocks'
  longer = omega (arith, length-append log.clocks more.clocks)

  -- ---- a wait

  -- at the old end, where a wait of no clocks is still done
  wait_at_end : (row used : ℕ) → valid_place log.clocks (record { row = row; used = used }) ≡ true → length log.clocks ≤ row
      → wait_from clocks' row used 0 ≡ record { place = record { row = row; used = 0 }; cut = 0 }
  wait_at_end row used v h =
      let e = none_used_at_end log.clocks (record { row = row; used = used }) v h in
      elim (dec_lt row (length clocks')) as (λ _. wait_from clocks' row used 0 ≡ record { place = record { row = row; used = 0 }; cut = 0 }) [
        | yes l ↦
            let some = used_below clocks' (record { row = row; used = 0 }) (valid_row_start (with_rows log more) valid' row (omega arith)) l in
            rw e.1 (wait_in_lem clocks' row 0 0 l (omega (arith, some)))
        | no l ↦ wait_end clocks' row used 0 (omega arith)
      ]

  same_wait : (p : Place) (n : ℕ) → valid_place log.clocks p ≡ true → (wait_of log.clocks p n).cut ≡ 0 → wait_of clocks' p n ≡ wait_of log.clocks p n
  same_wait p n =
      wait_elim log.clocks
      (λ row used n w. valid_place log.clocks (record { row = row; used = used }) ≡ true → w.cut ≡ 0 → wait_from clocks' row used n ≡ w)
      (λ row used n h v c. rw c (wait_at_end row used v h))
      (λ row used n h l v c. wait_in_lem clocks' row used n (omega (arith, longer)) (rw (same_clocks row h) l))
      (λ row used n w h l k v c.
      wait_on clocks' row used n (omega (arith, longer)) (rw (same_clocks row h) l)
      ∙ rw (same_clocks row h) (k (valid_row_start log valid (row + 1) (omega arith)) c))
      p.row p.used n

  -- ---- an ewait

  -- released at the same place, if at all
  abbrev SameRelease : Released → Released → Type 0
  SameRelease r' (Released.At q n) = r' ≡ Released.At q n
  SameRelease r' (Released.End n) = Unit {0}

  same_passing : (c : ℕ) (r r' : Released) → SameRelease r' r → SameRelease (passing c r') (passing c r)
  same_passing c (Released.At q n) r' e = ap (passing c) e
  same_passing c (Released.End n) r' e = tt

  same_search : (event value row used : ℕ) → SameRelease (search_from (with_rows log more) event value row used) (search_from log event value row used)
  same_search event value =
      search_elim log event value (λ row used r. SameRelease (search_from (with_rows log more) event value row used) r)
      (λ row used h. tt)
      (λ row used h t. search_here (with_rows log more) event value row used (omega (arith, longer)) (same_reading event value row h ∙ t))
      (λ row used r h t k.
      rw (search_next (with_rows log more) event value row used (omega (arith, longer)) (same_reading event value row h ∙ t), same_clocks row h)
      (same_passing (get_or log.clocks row 0 - used) r (search_from (with_rows log more) event value (row + 1) 0) k))

  -- ---- what is left: the added rows more, at each place

  left_added : (gap row used : ℕ) → row + gap ≡ length log.clocks → valid_place log.clocks (record { row = row; used = used }) ≡ true
      → left_from clocks' row used ≡ left_from log.clocks row used + left_from clocks' (length log.clocks) 0
  left_added zero row used e v =
      let end = none_used_at_end log.clocks (record { row = row; used = used }) v (omega arith) in
      rw (end.0, end.1) (omega (arith, left_end log.clocks (length log.clocks) 0 (omega arith)))
  left_added (suc gap) row used e v =
      let h : row < length log.clocks = omega arith in
      let later = left_added gap (row + 1) 0 (omega arith) (valid_row_start log valid (row + 1) (omega arith)) in
      omega (arith, left_on log.clocks row used h, left_on clocks' row used (omega (arith, longer)), same_clocks row h)

  pub added_left : (p : Place) → valid_place log.clocks p ≡ true → left_of clocks' p ≡ left_of log.clocks p + left_from clocks' (length log.clocks) 0
  added_left p v = left_added (length log.clocks - p.row) p.row p.used (omega (arith, row_within log.clocks p v)) v

-- ---- of a scene

-- the same place, in both logs
abbrev pub SamePlace : Log → Place → Place → Type 0
SamePlace log p p' = (p' ≡ p) × (valid_place log.clocks p ≡ true)

module _ (x : Scene) (more : Log) (valid : valid_log x.log ≡ true) (valid' : valid_log (with_rows x.log more) ≡ true) where
  released_same : (r r' : Released) → SameRelease x.log more valid valid' r' r → ReleasedWithin x.log.clocks r
      → ReleasedToo x (with_rows x.log more) (SamePlace x.log) r r'
  released_same (Released.At q n) r' e v = rw e (refl, v)
  released_same (Released.End n) r' e v = tt

  pub added_logs : LogsBeside x (with_rows x.log more) (SamePlace x.log)
  added_logs = record {
    start = (refl, valid_row_start x.log valid 0 (omega arith));
    waits = λ p p' (e, v) n c.
        let w = same_wait x.log more valid valid' p n v c in
        rw (e, w) (c, (refl, wait_valid x.log valid p n v));
    ewaits = λ p p' (e, v) event value.
        rw (e, valid_search (with_rows x.log more) valid' event value p)
        (released_same (ewait_of x.log p event value) (search_from (with_rows x.log more) event value p.row p.used)
        (rw (valid_search x.log valid event value p) (same_search x.log more valid valid' event value p.row p.used))
        (ewait_valid x.log valid event value p v));
  }
