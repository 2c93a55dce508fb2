-- The kinds of record and their order (01, "A job, and one report whole"; 02, ticket 1).
use Rattle.std.specs.Prelude.{ℕ, Bool, cond, not, List, [], ◌∷◌, ltb, eqb, Option, None, Some}
use Rattle.event_log.specs.Validity.{max_rows}
use Rattle.script.specs.Input.{max_ranges}
use Rattle.job_records.specs.declared.contents.Counts.{Counts}
use Rattle.job_records.specs.declared.kinds.Kind.{Kind}

abbrev pub gate : ℕ
gate = 0x06

abbrev pub capture : ℕ
capture = 0x05

abbrev pub family : ℕ
family = 0x04

abbrev pub allowed_range : ℕ
allowed_range = 0x03

abbrev pub host_write : ℕ
host_write = 0x02

abbrev pub log_row : ℕ
log_row = 0x01

abbrev pub end : ℕ
end = 0x00

-- the most host writes of a job
abbrev pub max_writes : ℕ
max_writes = 512

-- a row of the table of kinds
pub record TableRow : Type 0 where
  pub byte : ℕ
  pub kind : Kind

abbrev pub is : ℕ → ℕ → ℕ → ℕ → ℕ → TableRow
is byte rank body most read = record { byte = byte; kind = record { rank = rank; body = body; most = most; read = read } }

-- a kind without a limit of its own is not counted: 33 stops gates at 32, the length of a job stops captures, and what follows an end is no record
abbrev pub uncounted : ℕ → ℕ → ℕ → TableRow
uncounted byte rank body = is byte rank body 1 0

-- each kind, after these records: its byte, its place in the order, the length of its body, how many of it a job may have, and how many
-- were read; captures and rows have one place, since they may come in any mix
abbrev pub kinds : Counts → List TableRow
kinds counts =
    is family 1 1 1 counts.families
    ∷ is allowed_range 2 8 max_ranges counts.ranges
    ∷ is host_write 3 8 max_writes counts.writes
    ∷ uncounted gate 4 18
    ∷ uncounted capture 5 5
    ∷ is log_row 5 16 max_rows counts.rows
    ∷ uncounted end 6 0
    ∷ []

-- a byte that is not in the table has no place in the order
abbrev pub look_up : ℕ → List TableRow → Kind
look_up byte [] = record { rank = 0; body = 0; most = 0; read = 0 }
look_up byte (entry ∷ table) = cond (eqb byte entry.byte) entry.kind (look_up byte table)

unfoldable pub kind_of : Counts → ℕ → Kind
kind_of counts byte = look_up byte (kinds counts)

-- kinds come in just that order: the first record is of the first rank, and no record's rank is below the last one's
unfoldable pub is_out_of_order : Option ℕ → Kind → Bool
is_out_of_order None kind = not (eqb kind.rank 1)
is_out_of_order (Some last) kind = ltb kind.rank last
