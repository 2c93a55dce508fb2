-- Rows of a log as its columns, and as they stand in columns that were lent for them.
use Rattle.std.specs.Prelude.{ℕ, List, ◌++◌, map, length, take, drop}
use Rattle.std.proofs.lemmas.List.Edits.{sets}
use Rattle.event_log.specs.Log.{Log, log_of}
use Rattle.event_log.specs.declared.row.Row.{Row}

-- a log's columns
abbrev pub row_clocks : List Row → List ℕ
row_clocks rows = map (λ (r : Row). r.clocks) rows

abbrev pub row_known : List Row → List ℕ
row_known rows = map (λ (r : Row). r.known) rows

abbrev pub row_values : List Row → List ℕ
row_values rows = map (λ (r : Row). r.values) rows

-- the log of these rows
abbrev pub log_of_rows : List Row → Log
log_of_rows rows = log_of (row_clocks rows) (row_known rows) (row_values rows)

-- a column at the beginning of what was lent, the rest as lent
abbrev pub column_into : List ℕ → List ℕ → List ℕ
column_into lent column = column ++ drop (length column) lent

-- rows at the beginning of the columns that were lent
abbrev pub rows_into : Log → List Row → Log
rows_into lent rows = log_of (column_into lent.clocks (row_clocks rows)) (column_into lent.known (row_known rows)) (column_into lent.values (row_values rows))

-- the log in the first so many entries of columns
abbrev pub first_rows : ℕ → Log → Log
first_rows n columns = log_of (take n columns.clocks) (take n columns.known) (take n columns.values)

-- columns with rows put from a place on
abbrev pub with_rows_at : Log → ℕ → List Row → Log
with_rows_at old at rows = log_of (sets old.clocks at (row_clocks rows)) (sets old.known at (row_known rows)) (sets old.values at (row_values rows))
