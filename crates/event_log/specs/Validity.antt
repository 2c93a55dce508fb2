-- Which columns are a log and which places lie in it (01, "Steps and time" and refusal 15).
use Rattle.std.specs.Prelude.{ℕ, ◌^◌, Bool, true, cond, ◌&&◌, List, [], ◌∷◌, length, get_or, leb, ltb, eqb}
use Rattle.event_log.specs.Log.{Log}
use Rattle.event_log.specs.declared.place.Place.{Place}

-- a row has 1 to 2^48 clocks
abbrev pub clocks_in_range : ℕ → Bool
clocks_in_range c = leb 1 c && leb c (2 ^ 48)

-- every row has
abbrev pub rows_in_range : List ℕ → Bool
rows_in_range [] = true
rows_in_range (c ∷ cs) = clocks_in_range c && rows_in_range cs

-- the most rows of a log
abbrev pub max_rows : ℕ
max_rows = 1024

-- at most 1,024 rows, columns of equal length, clocks in range
unfoldable pub valid_log : Log → Bool
valid_log log =
    let rows = length log.clocks in
    leb rows max_rows && (eqb (length log.known) rows && (eqb (length log.values) rows && rows_in_range log.clocks))

-- where a run begins: row 0, 0 used
abbrev pub log_start : Place
log_start = record { row = 0; used = 0 }

-- in a row that has clocks left, or at the log's end: the row count, none used
unfoldable pub valid_place : List ℕ → Place → Bool
valid_place clocks p =
    cond (ltb p.row (length clocks)) (ltb p.used (get_or clocks p.row 0)) (eqb p.row (length clocks) && eqb p.used 0)
