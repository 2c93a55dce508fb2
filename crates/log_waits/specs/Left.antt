-- What a log has left from a place on (01, "Steps and time": the third clock sum).
use Rattle.std.specs.Prelude.{ℕ, zero, suc, ◌+◌, ◌-◌, List, length, slice_index}
use Rattle.event_log.specs.declared.place.Place.{Place}

-- the unused part of the present row and all later rows, of which there are n with the present one
unfoldable pub left_in : ℕ → List ℕ → ℕ → ℕ → ℕ
left_in zero clocks row used = 0
left_in (suc n) clocks row used = (slice_index clocks row - used) + left_in n clocks (row + 1) 0

abbrev pub left_from : List ℕ → ℕ → ℕ → ℕ
left_from clocks row used = left_in (length clocks - row) clocks row used

abbrev pub left_of : List ℕ → Place → ℕ
left_of clocks p = left_from clocks p.row p.used
