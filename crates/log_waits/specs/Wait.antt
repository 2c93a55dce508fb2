-- A wait of a number of clocks (01, "Steps and time").
use Rattle.std.specs.Prelude.{◌≡◌, ℕ, zero, suc, ◌+◌, ◌-◌, ◌≤◌, cond, List, length, nat_lt, slice_index}
use Rattle.log_waits.specs.Left.{left_of}
use Rattle.event_log.specs.declared.place.Place.{Place}
use Rattle.log_waits.specs.declared.wait.Waited.{Waited}

-- a wait over the rows left, the present one first: it ends in the row if that has clocks to spare, and else goes on with
-- the next row, none used, for what is still to wait; the log's end cuts off the rest
unfoldable pub wait_in : ℕ → List ℕ → ℕ → ℕ → ℕ → Waited
wait_in zero clocks row used still = record { place = record { row = row; used = 0 }; cut = still }
wait_in (suc n) clocks row used still =
    let rest = slice_index clocks row - used in
    let later = wait_in n clocks (row + 1) 0 (still - rest) in
    cond (nat_lt still rest) (record { place = record { row = row; used = used + still }; cut = 0 }) later

abbrev pub wait_from : List ℕ → ℕ → ℕ → ℕ → Waited
wait_from clocks row used n = wait_in (length clocks - row) clocks row used n

abbrev pub wait_of : List ℕ → Place → ℕ → Waited
wait_of clocks p n = wait_from clocks p.row p.used n

-- what a wait promises of its answer
pub record Waits (clocks : List ℕ) (p : Place) (n : ℕ) (answer : Waited) : Type 0 where
  pub answered : answer ≡ wait_of clocks p n
  -- its cut is what the log lacks: a wait that its last clock completes is done, and a wait of 0 needs no row
  pub lacks : answer.cut ≡ n - left_of clocks p
  -- it is cut by no more than its length
  pub within : answer.cut ≤ n
  -- what it spent and what is left are what was left before
  pub spent : left_of clocks p ≡ (n - answer.cut) + left_of clocks answer.place
