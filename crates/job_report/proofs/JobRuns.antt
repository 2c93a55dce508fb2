-- The run of a job's script is the run of the machine's steps from the job's own state. Assumes nothing.
use Prim.Native.Nat.{ℕ, ◌+◌, ◌^◌}
use mathlib.Core.Path.{◌≡◌, refl, ap, sym, ◌∙◌}
use mathlib.Core.Bool.{false, and-false}
use mathlib.Core.List.{List, [], ◌∷◌, ◌++◌}
use native.Mathlib.Nat.{zero-div}
use native.Mathlib.Omega.{arith}
use lib.Dec.{ltb, eqb}
use lib.ListN.{length-take}
use lib.Seq.{get_or-take}
use Rattle.families.specs.Family.{code_size}
use borrow.Author.Tests.{eq-eqb}
use Rattle.isa.specs.declared.addresses.CodeAddress.{CodeAddress}
use Rattle.families.proofs.Tests.{both_left}
use Rattle.isa_fetch.proofs.FetchLaws.{same_fetch}
use Rattle.machine_state.specs.Slot.{slot_of, with_slot}
use Rattle.machine_state.specs.declared.slots.Mode.{Mode}
use Rattle.machine_state.specs.declared.slots.Slot.{Slot}
use Rattle.machine_state.proofs.SlotLaws.{slot_back}
use Rattle.machine_execution.specs.Execution.{executing_slot}
use Rattle.machine_execution.proofs.Executing.{executing_executes}
use Rattle.script.proofs.Scripts.{Fits, fits_script}
use Rattle.run.specs.Run.{Run}
use Rattle.run.specs.SlotRun.{SameScene, scene_of, in_state, Holds}
use Rattle.run.specs.Replay.{ending_of}
use Rattle.run.specs.declared.answers.Ending.{Ending}
use Rattle.run.proofs.InState.{full_follows}
use Rattle.job_records.specs.Job.{log_in}
use Rattle.job_records.specs.Reader.{job_read_of, Sound}
use Rattle.job_records.specs.Started.{Started, executing, code_of, marks_of, script_in}
use Rattle.job_records.specs.declared.contents.Job.{Job}
use Rattle.probe_captures.specs.Masks.{has_event}
use Rattle.probe_captures.specs.declared.extents.Extent.{Extent}
use Rattle.job_report.specs.Lines.{family_line, pass_line, event_lines, end_line, status_line}
use Rattle.job_report.specs.JobScript.{job_scene, job_run, step_run, status_of}
use Rattle.job_report.specs.Report.{probe_lines, lines_on, run_lines, job_lines, report_of, step_lines}
use Rattle.job_report.specs.Promises.{Passed}
use Rattle.job_report.proofs.ScriptLaws.{script_fits_lem}

module _ (j : Job) (sound : Sound j) (started : Started j) where
  fit : Fits (script_in j.state)
  fit = fits_script _ (script_fits_lem j started)

  -- the family's part of the state's bytes is fetched as those are
  same_scene : SameScene (scene_of j.state (log_in j)) (job_scene j)
  same_scene =
      let s = j.state in
      let n = code_size s.family in
      record {
        family = refl;
        enable = refl;
        log = refl;
        fetches =
            same_fetch s.family (code_of s) (marks_of s) s.code s.marks
            (omega (arith, fit.code_sized)) (omega (arith, fit.code_sized, length-take n s.code))
            (λ i h. ap (λ (m : ℕ). eqb m 1) (sym (get_or-take n s.marks i 0 h))) (λ i h _. sym (get_or-take n s.code i 0 h));
      }

  job_holds : Holds (job_scene j) (executing j.state) j.state.flags (executing_slot j.state) j.state
  job_holds = record {
    names_family = fit.known;
    slot_there = both_left _ _ (executing_executes j.state started.some);
    same_scene = same_scene;
    same_slot = refl;
    same_flags = refl;
  }

  -- the law: all that the steps change is the executing slot, the flags and what a run notes
  job_stepped : step_run j ≡ in_state j.state (executing_slot j.state) (job_run j)
  unfolding job_run
  job_stepped =
      let s = j.state in
      full_follows (job_scene j) (executing s) s.flags (executing_slot s) s job_holds sound.valid

  -- what is told of a run that ended so
  abbrev told : Ending → Run → List ℕ
  told ending r = lines_on j r.writes (end_line ending r.place ++ status_line (status_of r.state))

  pub follows_steps : run_lines j ≡ step_lines j
  unfolding run_lines step_lines
  follows_steps =
      let s = j.state in
      let r = job_run j in
      let back : r.slot.mode ≡ (slot_of (with_slot s (executing_slot s) r.slot r.flags) (executing_slot s)).mode
      = ap (λ (slot : Slot). slot.mode) (sym (slot_back (executing_slot s) s r.slot r.flags)) in
      ap (λ (mode : Mode). told (ending_of mode) (in_state s (executing_slot s) r)) back
      ∙ ap (λ (r : Run). told (ending_of (slot_of r.state (executing_slot s)).mode) r) (sym job_stepped)

-- ---- a job without a gate

no_event : (event : ℕ) → has_event 0 event ≡ false
no_event event = rw (zero-div (2 ^ event)) (and-false (ltb event 32))

no_lines : (event : ℕ) (extents : List Extent) → event_lines 0 event extents ≡ []
no_lines event [] = refl
no_lines event (x ∷ extents) = rw (no_event event) (no_lines (event + 1) extents)

pub no_gates : (j : Job) → j.probes.masks.gated ≡ 0 → probe_lines j ≡ []
no_gates j none = rw none (no_lines 0 j.probes.extents)

-- the report on a passed script tells its steps
pub tells_steps : (bytes : List ℕ) {place : CodeAddress} {count writes clocks : ℕ} → Passed (job_read_of bytes) place count writes clocks
    → (let j = (job_read_of bytes).job in
    run_lines j ≡ step_lines j → report_of bytes ≡ family_line j.state.family ++ (pass_line place.0 count writes clocks ++ step_lines j))
unfolding report_of job_lines
tells_steps bytes p follows = rw (← follows) (simp (eq-eqb (job_read_of bytes).number 0 p.faultless, p.passes))
