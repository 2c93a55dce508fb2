-- Rows put at the beginning of lent columns: they can be read back, leave the columns' lengths, and more can be put after them. Assumes nothing.
use Prim.Native.Nat.{ℕ, ◌+◌, ◌≤◌}
use mathlib.Core.Path.{◌≡◌, refl, sym, ap, ◌∙◌}
use mathlib.Core.List.{List, ◌++◌, map, map-append}
use native.Mathlib.Omega.{arith}
use lib.ListN.{length, take, drop, length-append, length-drop, length-map}
use lib.Seq.{sets, sets-eq, take_at, drop-append-add, drop-drop}
use Rattle.event_log.specs.Log.{Log}
use Rattle.event_log.specs.Rows.{log_of_rows, column_into, rows_into, with_rows_at, first_rows}
use Rattle.event_log.specs.declared.row.Row.{Row}

-- ---- one column

pub column_length : (lent column : List ℕ) → length column ≤ length lent → length (column_into lent column) ≡ length lent
column_length lent column h = simp length-append (omega (arith, length-drop (length column) lent))

pub column_first : (lent column : List ℕ) → take (length column) (column_into lent column) ≡ column
column_first lent column = take_at column (drop (length column) lent) (length column) refl

pub column_more : (lent column more : List ℕ) → length column + length more ≤ length lent
    → sets (column_into lent column) (length column) more ≡ column_into lent (column ++ more)
column_more lent column more h =
    let n = length column in
    let m = length more in
    let sum : length (column ++ more) ≡ n + m = length-append column more in
    let room : n + m ≤ length (column_into lent column) = omega (arith, column_length lent column (omega arith)) in
    let back : drop (n + m) (column_into lent column) ≡ drop (length (column ++ more)) lent =
    drop-append-add column (drop n lent) m ∙ drop-drop m n lent ∙ ap (λ (k : ℕ). drop k lent) (sym sum) in
    sets-eq more (column_into lent column) n room ∙ rw (column_first lent column, back) refl

-- ---- the column of one field of rows

module _ (f : Row → ℕ) (lent : List ℕ) (rows : List Row) where
  field_length : length rows ≤ length lent → length (column_into lent (map f rows)) ≡ length lent
  field_length h = column_length lent (map f rows) (omega (arith, length-map rows f))

  field_first : take (length rows) (column_into lent (map f rows)) ≡ map f rows
  field_first = ap (λ (n : ℕ). take n (column_into lent (map f rows))) (sym (length-map rows f)) ∙ column_first lent (map f rows)

  field_more : (more : List Row) → length rows + length more ≤ length lent
      → sets (column_into lent (map f rows)) (length rows) (map f more) ≡ column_into lent (map f (rows ++ more))
  field_more more h =
      let n = length-map rows f in
      ap (λ (i : ℕ). sets (column_into lent (map f rows)) i (map f more)) (sym n)
      ∙ column_more lent (map f rows) (map f more) (omega (arith, n, length-map more f))
      ∙ ap (column_into lent) (sym (map-append f rows more))

-- ---- all three

-- so many entries in each column
pub record Room (n : ℕ) (lent : Log) : Type 0 where
  pub clocks : n ≤ length lent.clocks
  pub known : n ≤ length lent.known
  pub values : n ≤ length lent.values

pub record SameLengths (lent log : Log) : Type 0 where
  pub clocks : length log.clocks ≡ length lent.clocks
  pub known : length log.known ≡ length lent.known
  pub values : length log.values ≡ length lent.values

module _ (lent : Log) (rows : List Row) where
  pub rows_first : first_rows (length rows) (rows_into lent rows) ≡ log_of_rows rows
  rows_first = rw (
    field_first (λ (r : Row). r.clocks) lent.clocks rows,
    field_first (λ (r : Row). r.known) lent.known rows,
    field_first (λ (r : Row). r.values) lent.values rows,
  ) refl

  pub rows_lengths : Room (length rows) lent → SameLengths lent (rows_into lent rows)
  rows_lengths h = record {
    clocks = field_length (λ (r : Row). r.clocks) lent.clocks rows h.clocks;
    known = field_length (λ (r : Row). r.known) lent.known rows h.known;
    values = field_length (λ (r : Row). r.values) lent.values rows h.values;
  }

  pub rows_more : (more : List Row) → Room (length rows + length more) lent
      → with_rows_at (rows_into lent rows) (length rows) more ≡ rows_into lent (rows ++ more)
  rows_more more h = rw (
    field_more (λ (r : Row). r.clocks) lent.clocks rows more h.clocks,
    field_more (λ (r : Row). r.known) lent.known rows more h.known,
    field_more (λ (r : Row). r.values) lent.values rows more h.values,
  ) refl
