-- The bytes of the kinds of record (01, "A job, and one report whole"; 02, ticket 1).
use Rattle.std.specs.Prelude.{ℕ, ◌≡◌, ◌<◌, Result, MatchResult}
use Rattle.job_records.specs.Records.{gate, capture, family, allowed_range, host_write, log_row, end}
use Rattle.job_records.specs.declared.kinds.NoKind.{NoKind}
use Rattle.job_records.specs.declared.kinds.RecordKind.{RecordKind}

-- the byte that a record of this kind starts with
abbrev pub byte_of : RecordKind → ℕ
byte_of RecordKind.Family = family
byte_of RecordKind.Range = allowed_range
byte_of RecordKind.HostWrite = host_write
byte_of RecordKind.Gate = gate
byte_of RecordKind.Capture = capture
byte_of RecordKind.Row = log_row
byte_of RecordKind.End = end

-- the kind whose byte this is; none starts with a byte above 6
abbrev pub Names : ℕ → Result RecordKind NoKind → Type 0
Names byte answer = MatchResult answer (λ kind. byte_of kind ≡ byte) (λ none. 6 < byte)
