-- The script that a job starts, and its run (01, "A job, and one report whole" and "Demand 3's words").
use Rattle.std.specs.Prelude.{ℕ}
use Rattle.std.specs.Result.{result_unwrap_or}
use Rattle.event_log.specs.Log.{log_of}
use Rattle.machine_state.specs.declared.state.State.{State}
use Rattle.host_registers.specs.Access.{read_of}
use Rattle.machine_execution.specs.Execution.{executing_slot}
use Rattle.audit_verdict.specs.Auditor.{audit_of}
use Rattle.audit_verdict.specs.declared.verdicts.Verdict.{Verdict}
use Rattle.run.specs.Run.{Run}
use Rattle.run.specs.SlotRun.{Scene, SlotRun, script_scene}
use Rattle.run.specs.Replay.{full_slot_run, full_run}
use Rattle.job_records.specs.Job.{ranges_of, clocks_of, known_of, values_of, log_in}
use Rattle.job_records.specs.Started.{executing, script_in}
use Rattle.job_records.specs.declared.contents.Job.{Job}

-- what the auditor says of it
unfoldable pub verdict_of : Job → Verdict
verdict_of j = audit_of (script_in j.state) (ranges_of j)

-- what its steps read: the family's code RAM and marks, HWSQ_ENABLE as it is, and the job's rows
abbrev pub job_scene : Job → Scene
job_scene j = script_scene (script_in j.state) j.state.enable (log_in j)

-- its run: of the executing slot as it stands, with the flags as they are
unfoldable pub job_run : Job → SlotRun
job_run j = full_slot_run (job_scene j) (executing j.state) j.state.flags

-- the machine's own run: steps of the executing slot from the job's state, under the job's rows
abbrev pub step_run : Job → Run
step_run j = full_run (executing_slot j.state) (log_of (clocks_of j) (known_of j) (values_of j)) j.state

-- the register STATUS, 0 where it cannot be read
unfoldable pub status_of : State → ℕ
status_of s = result_unwrap_or (read_of s (record { 0 = 0x001308 })) 0
