-- The report on a job, whole (01, "A job, and one report whole"; 02, ticket 1).
use Rattle.std.specs.Prelude.{ℕ, cond, List, ◌++◌, eqb}
use Rattle.refusals.specs.Number.{fault_number}
use Rattle.audit_verdict.specs.declared.verdicts.Verdict.{Verdict}
use Rattle.run.specs.Replay.{ending_of, progress_of}
use Rattle.run.specs.Run.{Write}
use Rattle.run.specs.declared.answers.Progress.{Progress}
use Rattle.machine_execution.specs.Execution.{executing_slot}
use Rattle.machine_state.specs.Slot.{slot_of, with_slot}
use Rattle.machine_state.specs.declared.state.State.{State}
use Rattle.job_records.specs.Job.{known_of}
use Rattle.job_records.specs.Reader.{job_read_of}
use Rattle.job_records.specs.declared.contents.Job.{Job}
use Rattle.job_report.specs.Lines.{refused_line, family_line, fault_line, pass_line, write_lines, row_lines, event_lines, end_line, status_line}
use Rattle.job_report.specs.JobScript.{verdict_of, job_run, step_run, status_of}

-- how a run ended, and the status then: the executing slot and the flags are as the run left them
abbrev pub last_lines : State → Progress → List ℕ
last_lines s last = end_line (ending_of last.slot.mode) last.place ++ status_line (status_of (with_slot s (executing_slot s) last.slot last.flags))

-- a line for each event with a gate, on all captures of the job, those of rows that the run does not reach too
abbrev pub probe_lines : Job → List ℕ
probe_lines j = event_lines j.probes.masks.gated 0 j.probes.extents

-- on a run: its writes, a line for each row, one for each event with a gate, then the end and the status
abbrev pub lines_on : Job → List Write → List ℕ → List ℕ
lines_on j writes last = write_lines writes ++ row_lines 0 (known_of j) ++ probe_lines j ++ last

unfoldable pub run_lines : Job → List ℕ
run_lines j = lines_on j (job_run j).writes (last_lines j.state (progress_of (job_run j)))

-- a refused script has the verdict alone; a passed one is then run
abbrev pub verdict_lines : Job → Verdict → List ℕ
verdict_lines j (Verdict.Pass place count writes clocks) = pass_line place.0 count writes clocks ++ run_lines j
verdict_lines j (Verdict.Fault fault place) = fault_line (fault_number fault) place.0

unfoldable pub job_lines : Job → List ℕ
job_lines j = family_line j.state.family ++ verdict_lines j (verdict_of j)

-- a refused job prints only that
unfoldable pub report_of : List ℕ → List ℕ
report_of bytes = let read = job_read_of bytes in cond (eqb read.number 0) (job_lines read.job) (refused_line read.number read.at)

-- what the machine's own steps give of a run: their writes, how the slot ended and where, and STATUS in the state that the last one returned
unfoldable pub step_lines : Job → List ℕ
step_lines j =
    let r = step_run j in
    let ending = ending_of (slot_of r.state (executing_slot j.state)).mode in
    lines_on j r.writes (end_line ending r.place ++ status_line (status_of r.state))
