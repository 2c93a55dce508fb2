-- What private functions cite; no public contract does.
use Rattle.std.specs.Prelude.{ℕ, ◌≡◌, List, [], ◌∷◌, ◌++◌}
use Rattle.event_log.specs.Log.{Log}
use Rattle.refusals.specs.Number.{fault_number}
use Rattle.machine_state.specs.declared.state.State.{State}
use Rattle.audit_verdict.specs.declared.verdicts.Verdict.{Verdict}
use Rattle.run.specs.Replay.{progress_of, entries_of, RunsSlot}
use Rattle.run.specs.SlotRun.{script_scene}
use Rattle.run.specs.declared.answers.Progress.{Progress}
use Rattle.run.specs.Replay.{RunAnswer}
use Rattle.job_records.specs.Reader.{Sound}
use Rattle.job_records.specs.Started.{Started, executing, script_in}
use Rattle.job_records.specs.declared.contents.Job.{Job}
use Rattle.job_report.specs.Lines.{write_line, pass_line, fault_line}
use Rattle.job_report.specs.JobScript.{job_run}

-- a line for each write in the lent entries: address and data of each
abbrev pub pair_lines : List ℕ → List ℕ
pair_lines [] = []
pair_lines (address ∷ []) = []
pair_lines (address ∷ word ∷ entries) = write_line address word ++ pair_lines entries

-- the line on a verdict; after that of a passed script come the lines on its run
abbrev pub verdict_line : Verdict → List ℕ
verdict_line (Verdict.Pass place count writes clocks) = pass_line place.0 count writes clocks
verdict_line (Verdict.Fault fault place) = fault_line (fault_number fault) place.0

-- what is promised of the run of a state's script under a log
abbrev pub RunsScript : State → Log → List ℕ → List ℕ → RunAnswer → Type 0
RunsScript s log old new answer = RunsSlot (script_scene (script_in s) s.enable log) (executing s) s.flags old new answer

-- what was read without fault
pub record ReadyToRun (j : Job) : Type 0 where
  pub sound : Sound j
  pub started : Started j

-- what a job's run left: how far it came, and its writes as entries
pub record RanJob (j : Job) (last : Progress) (entries : List ℕ) : Type 0 where
  pub came : last ≡ progress_of (job_run j)
  pub wrote : entries ≡ entries_of (job_run j).writes
