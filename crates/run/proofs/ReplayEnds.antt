-- What the run of a slot promises, from its answer and its lent entries: numbers, endings, sums, and that it is the machine's. Assumes nothing.
use Rattle.std.specs.Prelude.{Ok, Err}
use Prim.Native.Nat.{ℕ, ◌*◌}
use mathlib.Core.Path.{◌≡◌, refl, sym, ap, subst, ◌∙◌}
use mathlib.Core.Bool.{Bool, true, false, cond, not}
use mathlib.Core.List.{List, IsPrefix}
use native.Mathlib.Omega.{arith}
use lib.Dec.{leb}
use lib.ListN.{length, take}
use Rattle.families.proofs.Tests.{cond_elim}
use Rattle.event_log.specs.Validity.{valid_log}
use Rattle.machine_flags.specs.declared.flags.Flags.{Flags}
use Rattle.machine_state.specs.declared.slots.Slot.{Slot}
use Rattle.script.specs.Input.{script_fits}
use Rattle.script.proofs.Scripts.{fits_script}
use Rattle.machine_step.specs.declared.steps.Stepped.{Stepped}
use Rattle.refusals.specs.declared.refusals.Unreplayable.{Unreplayable}
use Rattle.run.specs.Run.{Run}
use Rattle.run.specs.SlotRun.{Scene, slot_script, with_log, slot_run_of}
use Rattle.run.specs.Replay.{max_entries, full_steps, full_slot_run, progress_of, entries_of, written_into, told_answer, run_number, answer_number}
use Rattle.run.specs.Replay.{run_answer_of, run_refusal, lent_after, FewWrites, RunEnds, EndsRight, RunsSlot, TellsFew}
use Rattle.run.specs.declared.answers.Progress.{Progress}
use Rattle.run.specs.Replay.{RunAnswer}
use Rattle.run.proofs.SlotRuns.{slot_clocks}
use Rattle.run.proofs.InState.{run_back, follows, full_follows, full_next_follows}
use Rattle.run.proofs.MoreLog.{slot_keeps}
use Rattle.run.proofs.Pairs.{pairs}
use Rattle.run.proofs.Entries.{written_entries, entries_prefix}
use Rattle.run.proofs.Held.{is_held}
use Rattle.run.proofs.Room.{slot_room}
use Rattle.run.proofs.Settled.{stops}

-- the tests in their order
in_order : (script room log : Bool) (last : Progress)
    → run_number
    (cond script (cond room (cond log (Ok last) (Err Unreplayable.Log)) (Err Unreplayable.Room))
    (Err Unreplayable.Input))
    ≡ cond (not script) 9 (cond (not room) 14 (cond (not log) 15 0))
in_order false room log last = refl
in_order true false log last = refl
in_order true true false last = refl
in_order true true true last = refl

-- what is told of an answer has its number
pub told_number : (clocks : List ℕ) (answer : RunAnswer) → answer_number (told_answer clocks answer) ≡ run_number answer
told_number clocks (Ok last) = refl
told_number clocks (Err why) = refl

module _ (x : Scene) (slot : Slot) (flags : Flags) where
  -- each refusal has its number
  run_numbered : (lent : ℕ) → run_number (run_answer_of x slot flags lent) ≡ run_refusal x slot flags lent
  unfolding run_answer_of run_refusal
  run_numbered lent =
      in_order (script_fits (slot_script x slot)) (leb max_entries lent) (valid_log x.log) (progress_of (full_slot_run x slot flags))

  -- a run is refused, or ended under a log
  answer_elim : (P : RunAnswer → Type 0) → ((why : Unreplayable) → P (Err why))
      → (script_fits (slot_script x slot) ≡ true → valid_log x.log ≡ true → P (Ok (progress_of (full_slot_run x slot flags))))
      → (lent : ℕ) → P (run_answer_of x slot flags lent)
  unfolding run_answer_of
  answer_elim P refused ended lent =
      cond_elim P (script_fits (slot_script x slot))
      (λ fits. cond_elim P (leb max_entries lent)
      (λ _. cond_elim P (valid_log x.log) (ended fits) (λ _. refused Unreplayable.Log))
      (λ _. refused Unreplayable.Room))
      (λ _. refused Unreplayable.Input)

  pub ended_valid : (lent : ℕ) (last : Progress) → run_answer_of x slot flags lent ≡ Ok last → valid_log x.log ≡ true
  ended_valid lent last =
      answer_elim (λ (answer : RunAnswer). answer ≡ Ok last → valid_log x.log ≡ true) (λ why e. never e) (λ fits valid e. valid) lent
    where
      never : {why : Unreplayable} → Err why ≡ Ok last → valid_log x.log ≡ true
      never e = absurd (let z : ◌≡◌ {A = ℕ} 0 1 = cc in let w : ⊥ = omega arith in w)

  few_writes : FewWrites x slot flags
  few_writes fits n = slot_room x slot flags (omega (arith, (fits_script (slot_script x slot) fits).entry_low)) n

  module _ (old new : List ℕ) where
    run_ends : script_fits (slot_script x slot) ≡ true → valid_log x.log ≡ true → new ≡ written_into old (full_slot_run x slot flags).writes
        → RunEnds x slot flags old new (progress_of (full_slot_run x slot flags))
    run_ends fits valid wrote = record {
      came = λ name s h. ap progress_of (sym (ap (slot_run_of name) (full_follows x slot flags name s h valid) ∙ run_back s name _));
      wrote = λ name s h. wrote ∙ ap (λ (r : Run). written_into old r.writes) (sym (full_follows x slot flags name s h valid));
      few = few_writes fits (full_steps x.family);
      stops = λ m.
          let stop = stops x slot flags m in
          (stop.0, λ name s h. ap (λ (t : Stepped). t.effect) (full_next_follows x slot flags name s h valid) ∙ stop.1);
      keeps_writes = λ log' valid' says.
          let writes = (full_slot_run x slot flags).writes in
          let filled = ap (take (2 * length writes)) wrote ∙ written_entries old writes in
          subst (λ (entries : List ℕ). IsPrefix entries (entries_of (full_slot_run (with_log x log') slot flags).writes)) (sym filled)
          (entries_prefix writes (full_slot_run (with_log x log') slot flags).writes (slot_keeps x slot flags valid (full_steps x.family) log' valid' says));
      clocked = slot_clocks x valid slot flags (full_steps x.family);
    }

    answer_ends : (lent : ℕ) → new ≡ lent_after x slot flags old (run_answer_of x slot flags lent)
        → EndsRight x slot flags old new (run_answer_of x slot flags lent)
    answer_ends = answer_elim (λ (answer : RunAnswer). new ≡ lent_after x slot flags old answer → EndsRight x slot flags old new answer) (λ why l. tt) run_ends

-- the defined answer, with its lent entries, is what a run promises
pub runs_slot : {x : Scene} {slot : Slot} {flags : Flags} {old new : List ℕ} {answer : RunAnswer}
    → answer ≡ run_answer_of x slot flags (length old) → new ≡ lent_after x slot flags old answer → RunsSlot x slot flags old new answer
runs_slot {x} {slot} {flags} {old} {new} e l = record {
  answered = e;
  numbered = ap run_number e ∙ run_numbered x slot flags (length old);
  lent = l;
  ends = subst (EndsRight x slot flags old new) (sym e) (answer_ends x slot flags old new (length old) (l ∙ ap (lent_after x slot flags old) e));
  follows = follows x slot flags;
  held = is_held x slot flags;
  few = few_writes x slot flags;
  pairs = pairs;
}

-- and so replay tells no more
pub tells_few : (x : Scene) (slot : Slot) (flags : Flags) (old new clocks : List ℕ) (ran : RunAnswer) → EndsRight x slot flags old new ran
    → TellsFew (told_answer clocks ran)
tells_few x slot flags old new clocks (Ok last) ends = ends.few
tells_few x slot flags old new clocks (Err why) ends = tt
