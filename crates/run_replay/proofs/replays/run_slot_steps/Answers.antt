use mathlib.Core.Path.{◌≡◌, refl, sym, ap, ◌∙◌}
use native.Mathlib.Numerals.{add-one}
use native.Mathlib.Omega.{arith}
use Rattle.isa_fetch.proofs.Places.{size_small}
use Rattle.machine_state.specs.Slot.{is_running}
use Rattle.run.specs.SlotRun.{lent_scene, slot_run_for}
use Rattle.run.specs.Replay.{full_steps}
use Rattle.run.specs.declared.answers.Progress.{Progress}
use Rattle.run_replay.proofs.Replaying.{run_to, Turn, run_rests, runs_through, run_stopped, progress_after_lem, store_room, store_is, slot_step_fits}
use Rattle.run_replay.proofs.replays.run_slot_steps.Goals as goal
use Rattle.run_replay.proofs.replays.run_slot_steps.Goals.{After-take_slot_step-step}

-- the turn that a step belongs to
turn : (c : After-take_slot_step-step)
    → (let a = c.args in let l = c.loop-step in Turn (lent_scene a.scene) a.slot a.flags a.writes.now l._step l.progress l.writes c.take_slot_step-step.result)
turn c = record {
  low = c.requires.0;
  valid = c.requires.1;
  enough = c.requires.2;
  more = omega (arith, c.code_size-limit.ensures.answered);
  is = c.loop-step.invariant.0;
  held = c.loop-step.invariant.1;
  runs_on = sym c.is_running.ensures ∙ c.if-not-is_running.false;
  taken = c.take_slot_step-step.ensures;
}

pub overflow_add-limit : goal.overflow_add-limit
overflow_add-limit c = omega (arith, c.code_size-limit.ensures.answered, size_small c.args.scene.ram.family)

pub loop-step-init : goal.loop-step-init
unfolding slot_run_for
loop-step-init c = (c.begin-progress.ensures, refl)

pub returns-then-not-is_running : goal.returns-then-not-is_running
returns-then-not-is_running c =
    let l = c.loop-step in
    let mode = ap (λ (p : Progress). is_running p.slot.mode) (sym l.invariant.0) ∙ sym c.is_running.ensures ∙ c.if-not-is_running.true in
    runs_through _ _ _ _ (run_rests _ _ _ l._step mode (omega (arith, c.code_size-limit.ensures.answered))) l.invariant.0 l.invariant.1

pub returns-then-fetched-eq0 : goal.returns-then-fetched-eq0
returns-then-fetched-eq0 c =
    let l = c.loop-step in
    let here = turn (goal.at.returns-then-fetched-eq0 c).After-take_slot_step-step in
    runs_through _ _ _ _ (run_stopped here (sym c.fetched.ensures ∙ c.if-fetched-eq0.true)) l.invariant.0 l.invariant.1

pub overflow_mul-progress : goal.overflow_mul-progress
overflow_mul-progress c = omega (arith, (slot_step_fits (turn (goal.at.overflow_mul-progress c).After-take_slot_step-step)).1)

pub store-requires : goal.store-requires
store-requires c = store_room (turn (goal.at.store-requires c).After-take_slot_step-step)

pub after_slot_step-progress-requires : goal.after_slot_step-progress-requires
after_slot_step-progress-requires c = slot_step_fits (turn (goal.at.after_slot_step-progress-requires c).After-take_slot_step-step)

pub loop-step-preserved : goal.loop-step-preserved
loop-step-preserved c =
    let here = turn (goal.at.loop-step-preserved c).After-take_slot_step-step in (
      rw add-one (c.after_slot_step-progress.ensures ∙ progress_after_lem here),
      rw add-one (c.store.ensures ∙ store_is here),
    )

pub returns : goal.returns
returns c =
    let l = c.loop-step in
    let all : l._step ≡ full_steps c.args.scene.ram.family = omega (arith, c.code_size-limit.ensures.answered) in
    runs_through _ _ _ _ (ap (run_to (lent_scene c.args.scene) c.args.slot c.args.flags) all) l.invariant.0 l.invariant.1
