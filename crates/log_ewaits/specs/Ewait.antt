-- A wait for an event (01, "Steps and time").
use Rattle.std.specs.Prelude.{◌≡◌, ℕ, zero, suc, ◌+◌, ◌-◌, ◌%◌, ◌^◌, ◌<◌, ◌≤◌, Bool, cond, ◌&&◌, List, length, ◌==◌, nat_lt, slice_index}
use Rattle.words.specs.Bits.{bit_of}
use Rattle.log_waits.specs.Left.{left_of}
use Rattle.event_log.specs.Log.{Log, log_of}
use Rattle.event_log.specs.declared.place.Place.{Place}
use Rattle.log_ewaits.specs.declared.ewait.Released.{Released}

-- the row has a reading of the event, and it is the value; events are below 32, and no reading is above 1
unfoldable pub has_reading : ℕ → ℕ → ℕ → ℕ → Bool
has_reading known values event value = nat_lt event 32 && (bit_of known event == 1 && bit_of values event == value)

-- the same end, with more clocks passed by
abbrev pub passing : ℕ → Released → Released
passing clocks (Released.At p n) = Released.At p (clocks + n)
passing clocks (Released.End n) = Released.End (clocks + n)

-- the search over the rows left, the present one first: the first row with the reading releases the wait, at its start if it
-- is a later row; a row without it is passed by
unfoldable pub search_in : ℕ → Log → ℕ → ℕ → ℕ → ℕ → Released
search_in zero log event value row used = Released.End 0
search_in (suc n) log event value row used =
    let later = passing (slice_index log.clocks row - used) (search_in n log event value (row + 1) 0) in
    cond (has_reading (slice_index log.known row) (slice_index log.values row) event value) (Released.At (record { row = row; used = used }) 0) later

abbrev pub search_from : Log → ℕ → ℕ → ℕ → ℕ → Released
search_from log event value row used = search_in (length log.clocks - row) log event value row used

-- clocks passed by are kept in 64 bits, which no valid log fills
abbrev pub in64 : Released → Released
in64 (Released.At p n) = Released.At p (n % 2 ^ 64)
in64 (Released.End n) = Released.End (n % 2 ^ 64)

abbrev pub ewait_of : Log → Place → ℕ → ℕ → Released
ewait_of log p event value = in64 (search_from log event value p.row p.used)

-- ---- what an ewait promises

abbrev pub passed_by : Released → ℕ
passed_by (Released.At p n) = n
passed_by (Released.End n) = n

-- the row has the reading that is asked for: known bit 1, value bit as asked, of an event below 32
abbrev pub ReadsAsked : Log → ℕ → ℕ → ℕ → Type 0
ReadsAsked log event value row = (event < 32) × (bit_of (slice_index log.known row) event ≡ 1) × (bit_of (slice_index log.values row) event ≡ value)

-- an event with no reading releases no wait: the row that releases has the one that is asked for
abbrev pub OnReading : Log → ℕ → ℕ → Released → Type 0
OnReading log event value (Released.At p n) = ReadsAsked log event value p.row
OnReading log event value (Released.End n) = Unit {0}

-- released at place p with n clocks passed by, from a row with so many used: that row or a later one, and the first with the reading
pub record AtFirst (log : Log) (event value row used : ℕ) (p : Place) (n : ℕ) : Type 0 where
  pub from : row ≤ p.row
  pub inside : p.row < length log.clocks
  pub none_before : (earlier : ℕ) → row ≤ earlier → earlier < p.row → ReadsAsked log event value earlier → ⊥
  -- at the start of a later row; the present row releases where the wait stands, and no clock passes by
  pub later : row < p.row → p.used ≡ 0
  pub present : p.row ≡ row → (p.used ≡ used) × (n ≡ 0)

-- released at the first row from the present one on; at the log's end no such row has the reading
abbrev pub FirstFrom : Log → ℕ → ℕ → ℕ → ℕ → Released → Type 0
FirstFrom log event value row used (Released.At p n) = AtFirst log event value row used p n
FirstFrom log event value row used (Released.End n) = (other : ℕ) → row ≤ other → other < length log.clocks → ReadsAsked log event value other → ⊥

-- what is left from where the search ended
abbrev pub left_after : List ℕ → Released → ℕ
left_after clocks (Released.At p n) = left_of clocks p
left_after clocks (Released.End n) = 0

-- a value column that agrees with the log's wherever the known bit is 1
abbrev pub SameReadings : Log → List ℕ → ℕ → Type 0
SameReadings log others event =
    (row : ℕ) → bit_of (slice_index log.known row) event ≡ 1 → bit_of (slice_index log.values row) event ≡ bit_of (slice_index others row) event

-- the log with that value column
abbrev pub with_values : Log → List ℕ → Log
with_values log others = log_of log.clocks log.known others

pub record Ewaits (log : Log) (p : Place) (event value : ℕ) (answer : Released) : Type 0 where
  pub answered : answer ≡ ewait_of log p event value
  pub on_reading : OnReading log event value answer
  pub first : FirstFrom log event value p.row p.used answer
  -- value bits without a known bit change no answer
  pub unread : (others : List ℕ) → SameReadings log others event → answer ≡ ewait_of (with_values log others) p event value
  -- what it passed by and what is left are what was left before, where that fits 64 bits
  pub spent : left_of log.clocks p < 2 ^ 64 → left_of log.clocks p ≡ passed_by answer + left_after log.clocks answer
