-- Parts of a job's arrays, and the run of its script. Assumes nothing.
use Rattle.std.specs.Prelude.{Ok, Err}
use Prim.Native.Nat.{ℕ, ◌*◌, ◌≤◌}
use mathlib.Core.Path.{◌≡◌, ap, sym, subst, ◌∙◌}
use mathlib.Core.Bool.{true, false, not, ◌&&◌}
use mathlib.Core.List.{List}
use native.Mathlib.Omega.{arith}
use lib.ListN.{length, take, length-take}
use lib.Seq.{length-take-le}
use borrow.Author.Tests.{le-leb}
use Rattle.families.specs.Family.{code_size}
use Rattle.refusals.specs.declared.refusals.Unreplayable.{Unreplayable}
use Rattle.machine_state.specs.Slot.{has_slot, is_idle}
use Rattle.machine_state.specs.Sequencer.{sequencer_of, state_from}
use Rattle.machine_state.specs.declared.sequencer.Sequencer.{Sequencer}
use Rattle.machine_state.specs.declared.slots.SlotName.{SlotName}
use Rattle.machine_state.specs.declared.state.State.{State}
use Rattle.audit_verdict.specs.Auditor.{audit_of}
use Rattle.script.proofs.Scripts.{fits_script}
use Rattle.run.specs.Replay.{entries_of, written_into, progress_of, run_answer_of, lent_after}
use Rattle.run.specs.declared.answers.Progress.{Progress}
use Rattle.run.specs.Replay.{RunAnswer}
use Rattle.run.proofs.Entries.{entries_length, written_entries}
use Rattle.job_records.specs.Job.{ranges_of, log_in}
use Rattle.job_records.specs.Started.{executing, script_in}
use Rattle.job_records.specs.declared.contents.Job.{Job}
use Rattle.job_report.proofs.ScriptLaws.{script_fits_lem, writes_few}
use Rattle.job_report.specs.JobScript.{verdict_of, job_scene, job_run}
use Rattle.job_output.specs.Inside.{RunsScript, ReadyToRun, RanJob}

pub part_length : (n : ℕ) (l : List ℕ) → n ≤ length l → n ≡ length (take n l)
part_length n l h = sym (length-take-le n l h)

-- ---- the slot that executes, whatever the code

module _ (q : Sequencer) (code marks : List ℕ) where
  pub executing_a : (has_slot q.family SlotName.A && not (is_idle q.a.mode)) ≡ true → q.a ≡ executing (state_from q code marks)
  executing_a e = rw e

  pub executing_b : (has_slot q.family SlotName.A && not (is_idle q.a.mode)) ≡ false → q.b ≡ executing (state_from q code marks)
  executing_b e = rw e

-- ---- the arrays of a job that was read without fault

module _ (j : Job) (ready : ReadyToRun j) where
  -- the family's code RAM lies in them
  pub ram_room : (code_size j.state.family ≤ length j.state.code) × (code_size j.state.family ≤ length j.state.marks)
  ram_room =
      let fit = fits_script _ (script_fits_lem j ready.started) in
      let size = code_size j.state.family in
      (omega (arith, fit.code_sized, length-take size j.state.code), omega (arith, fit.marks_sized, length-take size j.state.marks))

  -- and so do the ranges
  pub bounds_room : length j.bounds ≡ 128 → 2 * j.counts.ranges ≤ length j.bounds
  bounds_room e = omega (arith, ready.sound.fit.ranges)

-- ---- a job's script, of its sequencer and of the code and marks that are lent beside it

module _ (j : Job) {q : Sequencer} (e : q ≡ sequencer_of j.state) where
  together : state_from q j.state.code j.state.marks ≡ j.state
  together = ap (λ (x : Sequencer). state_from x j.state.code j.state.marks) e

  pub lent_room : ReadyToRun j → (code_size q.family ≤ length j.state.code) × (code_size q.family ≤ length j.state.marks)
  lent_room ready = rw e (ram_room j ready)

  pub lent_verdict : audit_of (script_in (state_from q j.state.code j.state.marks)) (ranges_of j) ≡ verdict_of j
  unfolding verdict_of
  lent_verdict = ap (λ (s : State). audit_of (script_in s) (ranges_of j)) together

  pub lent_run : {old new : List ℕ} {answer : RunAnswer} → RunsScript (state_from q j.state.code j.state.marks) (log_in j) old new answer
      → RunsScript j.state (log_in j) old new answer
  lent_run {old} {new} {answer} = subst (λ (s : State). RunsScript s (log_in j) old new answer) together

-- ---- the run of a job that was read without fault

ended_same : {a b : Progress} → ◌≡◌ {A = RunAnswer} (Ok a) (Ok b) → a ≡ b
ended_same h = cc

pub never_refused : {A : Type 0} {why : Unreplayable} {last : Progress} → ◌≡◌ {A = RunAnswer} (Err why) (Ok last) → A
never_refused h = absurd (let z : ◌≡◌ {A = ℕ} 0 1 = cc in let w : ⊥ = omega arith in w)

module _ (j : Job) (ready : ReadyToRun j) where
  module _ (old new : List ℕ) (answer : RunAnswer) (runs : RunsScript j.state (log_in j) old new answer) (lent : length old ≡ 340) where
    -- its run is not refused
    pub run_ends : answer ≡ Ok (progress_of (job_run j))
    unfolding run_answer_of job_run
    run_ends = runs.answered ∙ simp (script_fits_lem j ready.started, le-leb 340 (length old) (omega arith), ready.sound.valid)

    written : new ≡ written_into old (job_run j).writes
    unfolding job_run
    written = runs.lent ∙ ap (lent_after (job_scene j) (executing j.state) j.state.flags old) run_ends

    entries_are : take (2 * length (job_run j).writes) new ≡ entries_of (job_run j).writes
    entries_are = ap (take (2 * length (job_run j).writes)) written ∙ written_entries old (job_run j).writes

    module _ (last : Progress) (e : answer ≡ Ok last) where
      last_is : last ≡ progress_of (job_run j)
      last_is = ended_same (sym e ∙ run_ends)

      writes_counted : last.writes ≡ length (job_run j).writes
      writes_counted = ap (λ (p : Progress). p.writes) last_is

      -- two entries a write
      pub entries_lie : 2 * last.writes ≤ length new
      entries_lie = omega (arith, writes_counted, length-take (2 * length (job_run j).writes) new, ap length entries_are, entries_length (job_run j).writes)

      pub entries_few : last.writes ≤ 170
      entries_few = omega (arith, writes_counted, writes_few j ready.started)

      -- the entries used hold the writes
      pub ran : RanJob j last (take (2 * last.writes) new)
      ran = record { came = last_is; wrote = ap (λ (n : ℕ). take (2 * n) new) writes_counted ∙ entries_are }
