-- A wait, row by row; what it spends and where it ends. Assumes nothing.
use Rattle.std.proofs.Common.{◌≡◌, ℕ, zero, suc, ◌+◌, ◌-◌, ◌<◌, ◌≤◌, true, ltb, List, length, get_or, refl, arith, ltb-false, ltb-true, le-ltb, lt-ltb}
use native.Mathlib.Decide.{dec_lt}
use Rattle.families.proofs.Tests.{cond_elim}
use Rattle.log_waits.specs.Left.{left_in, left_from, left_of}
use Rattle.event_log.specs.Log.{Log}
use Rattle.event_log.specs.Validity.{valid_log, valid_place}
use Rattle.log_waits.specs.Wait.{wait_in, wait_from, wait_of, Waits}
use Rattle.event_log.specs.declared.place.Place.{Place}
use Rattle.log_waits.specs.declared.wait.Waited.{Waited}
use Rattle.event_log.proofs.ValidLaws.{valid_in_row, valid_at_end, row_within}
use Rattle.log_waits.proofs.LeftLaws.{rows_left, left_end, left_on}

-- the log's end cuts off of a wait what is more than was left
cut_in : (rows : ℕ) (clocks : List ℕ) (row used n : ℕ) → (wait_in rows clocks row used n).cut ≡ n - left_in rows clocks row used
unfolding wait_in left_in
cut_in zero clocks row used n = omega arith
cut_in (suc rows) clocks row used n =
    let rest = get_or clocks row 0 - used in
    cond_elim (λ (w : Waited). w.cut ≡ n - (rest + left_in rows clocks (row + 1) 0)) (ltb n rest) (λ t. omega (arith, ltb-true n rest t))
    (λ t. omega (arith, ltb-false n rest t, cut_in rows clocks (row + 1) 0 (n - rest)))

pub wait_cut : (clocks : List ℕ) (p : Place) (n : ℕ) → (wait_of clocks p n).cut ≡ n - left_of clocks p
wait_cut clocks p n = cut_in (length clocks - p.row) clocks p.row p.used n

module _ (clocks : List ℕ) (row used n : ℕ) where
  pub wait_end : length clocks ≤ row → wait_from clocks row used n ≡ record { place = record { row = row; used = 0 }; cut = n }
  unfolding wait_in
  wait_end h = let z : length clocks - row ≡ 0 = omega arith in rw z

  pub wait_in_lem : row < length clocks → n < get_or clocks row 0 - used
      → wait_from clocks row used n ≡ record { place = record { row = row; used = used + n }; cut = 0 }
  unfolding wait_in
  wait_in_lem h l = rw (rows_left clocks row h, lt-ltb n (get_or clocks row 0 - used) l)

  pub wait_on : row < length clocks → get_or clocks row 0 - used ≤ n
      → wait_from clocks row used n ≡ wait_from clocks (row + 1) 0 (n - (get_or clocks row 0 - used))
  unfolding wait_in
  wait_on h l = rw (rows_left clocks row h, le-ltb n (get_or clocks row 0 - used) l)

-- what the three laws keep holds of every wait
pub wait_elim : (clocks : List ℕ) (P : ℕ → ℕ → ℕ → Waited → Type 0)
    → ((row used n : ℕ) → length clocks ≤ row → P row used n (record { place = record { row = row; used = 0 }; cut = n }))
    → ((row used n : ℕ) → row < length clocks → n < get_or clocks row 0 - used
    → P row used n (record { place = record { row = row; used = used + n }; cut = 0 }))
    → ((row used n : ℕ) (w : Waited) → row < length clocks → get_or clocks row 0 - used ≤ n
    → P (row + 1) 0 (n - (get_or clocks row 0 - used)) w → P row used n w)
    → (row used n : ℕ) → P row used n (wait_from clocks row used n)
wait_elim clocks P at_end inside onward row used n = by (length clocks - row) row used n refl
  where
    by : (f row used n : ℕ) → f ≡ length clocks - row → P row used n (wait_from clocks row used n)
    by zero row used n e = let h : length clocks ≤ row = omega arith in rw (wait_end clocks row used n h) (at_end row used n h)
    by (suc f) row used n e =
        let h : row < length clocks = omega arith in
        let rest = get_or clocks row 0 - used in
        let later = by f (row + 1) 0 (n - rest) (omega arith) in
        elim (dec_lt n rest) as (λ _. P row used n (wait_from clocks row used n)) [
          | yes l ↦ rw (wait_in_lem clocks row used n h l) (inside row used n h l)
          | no l ↦
              let k : rest ≤ n = omega arith in
              rw (wait_on clocks row used n h k) (onward row used n (wait_from clocks (row + 1) 0 (n - rest)) h k later)
        ]

-- what it spent and what is left are what was left before
pub wait_spent : (clocks : List ℕ) (p : Place) (n : ℕ) → left_of clocks p ≡ (n - (wait_of clocks p n).cut) + left_of clocks (wait_of clocks p n).place
wait_spent clocks p n =
    (wait_elim clocks (λ row used n w. (w.cut ≤ n) × (left_from clocks row used ≡ (n - w.cut) + left_of clocks w.place))
    (λ row used n h. (omega arith, omega (arith, left_end clocks row used h, left_end clocks row 0 h)))
    (λ row used n h l. (omega arith, omega (arith, left_on clocks row used h, left_on clocks row (used + n) h)))
    (λ row used n w h l k. (omega arith, omega (arith, left_on clocks row used h)))
    p.row p.used n).1

-- a wait that the log's end cuts stands at that end
pub cut_at_end : (clocks : List ℕ) (p : Place) (n : ℕ) → p.row ≤ length clocks → 0 < (wait_of clocks p n).cut
    → ((wait_of clocks p n).place.row ≡ length clocks) × ((wait_of clocks p n).place.used ≡ 0)
cut_at_end clocks p n =
    wait_elim clocks (λ row used n w. row ≤ length clocks → 0 < w.cut → (w.place.row ≡ length clocks) × (w.place.used ≡ 0))
    (λ row used n h l c. (omega arith, refl))
    (λ row used n h l m c. absurd (omega arith))
    (λ row used n w h l k m c. k (omega arith) c)
    p.row p.used n

-- a wait ends at a place of the log, a finished one and one that was cut
pub wait_valid : (log : Log) → valid_log log ≡ true → (p : Place) (n : ℕ) → valid_place log.clocks p ≡ true
    → valid_place log.clocks (wait_of log.clocks p n).place ≡ true
wait_valid log valid p n v =
    wait_elim log.clocks (λ row used n w. row ≤ length log.clocks → valid_place log.clocks w.place ≡ true)
    (λ row used n h l. let e : row ≡ length log.clocks = omega arith in rw e (valid_at_end log.clocks))
    (λ row used n h l m. valid_in_row log.clocks row (used + n) h (omega arith))
    (λ row used n w h l k m. k (omega arith))
    p.row p.used n (row_within log.clocks p v)

-- all that a wait promises
pub waits : (clocks : List ℕ) (p : Place) (n : ℕ) (answer : Waited) → answer ≡ wait_of clocks p n → Waits clocks p n answer
waits clocks p n answer e = record {
  answered = e;
  lacks = rw e (wait_cut clocks p n);
  within = rw e (omega (arith, wait_cut clocks p n));
  spent = rw e (wait_spent clocks p n);
}

-- what a loop over the rows needs
pub ruleset wait_laws = (wait_in_lem, wait_on, wait_end, waits)
