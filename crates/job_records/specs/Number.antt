-- The numbers of a job's refusals (01, "A job, and one report whole"; 02, ticket 1).
use Rattle.std.specs.Prelude.{ℕ, Result, Ok, Err}
use Rattle.job_records.specs.declared.refusal.Refusal.{Refusal}

-- the listing's number of each
abbrev pub refusal_number : Refusal → ℕ
refusal_number Refusal.Gate = 16
refusal_number Refusal.CutShort = 20
refusal_number Refusal.Unknown = 21
refusal_number Refusal.OutOfOrder = 22
refusal_number Refusal.TooMany = 23
refusal_number Refusal.BytesAfter = 24
refusal_number Refusal.Family = 25
refusal_number Refusal.Range = 26
refusal_number Refusal.Register = 27
refusal_number Refusal.Executing = 28
refusal_number Refusal.Clocks = 30
refusal_number Refusal.TooLong = 31
refusal_number Refusal.Idle = 32
refusal_number Refusal.Probe = 33

-- of an outcome: 0 where nothing was refused
abbrev pub refused_number : Result Unit Refusal → ℕ
refused_number (Ok done) = 0
refused_number (Err why) = refusal_number why
