-- What the report promises of its answer (01, "A job, and one report whole").
use Rattle.std.specs.Prelude.{ℕ, ◌≤◌, ◌≡◌, List, [], ◌++◌, length, take, drop}
use Rattle.isa.specs.declared.addresses.CodeAddress.{CodeAddress}
use Rattle.audit_verdict.specs.declared.verdicts.Verdict.{Verdict}
use Rattle.job_records.specs.Reader.{JobRead, job_read_of}
use Rattle.job_report.specs.Lines.{family_line, pass_line}
use Rattle.job_report.specs.JobScript.{verdict_of}
use Rattle.job_report.specs.Report.{probe_lines, run_lines, report_of, step_lines}
use Rattle.job_report.specs.Worked.{Worked}

-- the most bytes that a report may have: so many are lent
abbrev pub max_report : ℕ
max_report = 65536

-- a job without fault, and its script passed
pub record Passed (read : JobRead) (place : CodeAddress) (count writes clocks : ℕ) : Type 0 where
  pub faultless : read.number ≡ 0
  pub passes : verdict_of read.job ≡ Verdict.Pass place count writes clocks

-- what is promised of the answer, and of the lent bytes, old and new: the report and then as lent
pub record Reports (bytes old new : List ℕ) (answer : ℕ) : Type 0 where
  pub answered : answer ≡ length (report_of bytes)
  pub contents : new ≡ report_of bytes ++ drop (length (report_of bytes)) old
  -- no report is longer than what is lent: so many of the lent bytes are the report whole, and those after it are as lent
  pub counted : (answer ≤ max_report) × (take answer new ≡ report_of bytes) × (drop answer new ≡ drop answer old)
  -- of every job without fault, whatever HWSQ_ENABLE and the flags are, the run is the machine's own
  pub follows : (job_read_of bytes).number ≡ 0 → run_lines (job_read_of bytes).job ≡ step_lines (job_read_of bytes).job
  -- and of a passed script the lent bytes tell that run
  pub tells : (place : CodeAddress) (count writes clocks : ℕ) → Passed (job_read_of bytes) place count writes clocks
      → (let j = (job_read_of bytes).job in take answer new ≡ family_line j.state.family ++ (pass_line place.0 count writes clocks ++ step_lines j))
  -- a job without a gate has no line on events
  pub ungated : (job_read_of bytes).job.probes.masks.gated ≡ 0 → probe_lines (job_read_of bytes).job ≡ []
  -- of the definition, and so of every answer: the worked jobs have these reports
  pub worked : Worked
