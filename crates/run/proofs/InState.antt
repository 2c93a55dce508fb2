-- A state's run of one slot is that slot's run, put into the state. Assumes nothing.
use Prim.Native.Nat.{ℕ, zero, suc}
use mathlib.Core.Path.{◌≡◌, refl, ap, ap₂, ◌∙◌}
use mathlib.Core.Bool.{Bool, true, false}
use native.Mathlib.Omega.{arith}
use Rattle.families.specs.Family.{known_family}
use Rattle.event_log.specs.Log.{Log}
use Rattle.event_log.specs.Validity.{valid_log, valid_place}
use Rattle.event_log.proofs.ValidLaws.{valid_row_start}
use Rattle.machine_flags.specs.declared.flags.Flags.{Flags}
use Rattle.machine_state.specs.Slot.{has_slot, is_running, slot_of}
use Rattle.machine_state.specs.declared.slots.Slot.{Slot}
use Rattle.machine_state.specs.declared.slots.SlotName.{SlotName}
use Rattle.machine_state.specs.declared.state.State.{State}
use Rattle.machine_step.specs.Step.{after_slot_step, advance_of, step_of}
use Rattle.run.specs.Run.{begun, next_step, run_for}
use Rattle.run.specs.SlotRun.{Scene, SlotRun, slot_begun, took_slot_step, next_slot_step, slot_run_for, scene_of, in_state, slot_run_of, Holds}
use Rattle.run.specs.Replay.{full_steps, full_slot_run, full_run, FollowsSteps}
use Rattle.run.proofs.SlotRuns.{next_place, slot_place, same_slot_step_lem, same_run}

module _ (s : State) (log : Log) (family : known_family s.family ≡ true) (valid : valid_log log ≡ true) where
  -- one step, by the slot's name and by whether it runs
  step_by : (name : SlotName) → has_slot s.family name ≡ true → (r : SlotRun) → valid_place log.clocks r.place ≡ true
      → (runs : Bool) → is_running r.slot.mode ≡ runs → next_step name log (in_state s name r) ≡ after_slot_step s name (next_slot_step (scene_of s log) r)
  unfolding step_of advance_of
  step_by SlotName.A has r v true m = simp (family, valid, v, has, m)
  step_by SlotName.A has r v false m = simp (family, valid, v, has, m)
  step_by SlotName.B has r v true m = simp (family, valid, v, has, m)
  step_by SlotName.B has r v false m = simp (family, valid, v, has, m)

  module _ (name : SlotName) (has : has_slot s.family name ≡ true) where
    step_in_state : (r : SlotRun) → valid_place log.clocks r.place ≡ true
        → next_step name log (in_state s name r) ≡ after_slot_step s name (next_slot_step (scene_of s log) r)
    step_in_state r v = step_by name has r v (is_running r.slot.mode) refl

    pub run_in_state : (n : ℕ) (r : SlotRun) → valid_place log.clocks r.place ≡ true
        → run_for name log n (in_state s name r) ≡ in_state s name (slot_run_for (scene_of s log) n r)
    unfolding run_for slot_run_for
    run_in_state zero r v = refl
    run_in_state (suc n) r v =
        rw (step_in_state r v)
        (run_in_state n (took_slot_step r (next_slot_step (scene_of s log) r)) (next_place (scene_of s log) valid r v))

  pub begun_in_state : (name : SlotName) → begun s ≡ in_state s name (slot_begun (slot_of s name) s.flags)
  begun_in_state SlotName.A = refl
  begun_in_state SlotName.B = refl

-- a slot's run comes back out of the state
pub run_back : (s : State) (name : SlotName) (r : SlotRun) → slot_run_of name (in_state s name r) ≡ r
run_back s SlotName.A r = refl
run_back s SlotName.B r = refl

module _ (x : Scene) (slot : Slot) (flags : Flags) where
  -- the law
  pub follows : FollowsSteps x slot flags
  follows name s h valid n =
      let start = slot_begun (slot_of s name) s.flags in
      let same : slot_run_for (scene_of s x.log) n start ≡ slot_run_for x n (slot_begun slot flags)
      = same_run (scene_of s x.log) x h.same_scene n start
      ∙ ap₂ (λ (a : Slot) (b : Flags). slot_run_for x n (slot_begun a b)) h.same_slot h.same_flags in
      ap (run_for name x.log n) (begun_in_state s x.log h.names_family valid name)
      ∙ run_in_state s x.log h.names_family valid name h.slot_there n start (valid_row_start x.log valid 0 (omega arith))
      ∙ ap (in_state s name) same

  module _ (name : SlotName) (s : State) (h : Holds x slot flags name s) (valid : valid_log x.log ≡ true) where
    -- the step that comes next is the step that comes next
    pub next_follows : (n : ℕ)
        → next_step name x.log (run_for name x.log n (begun s)) ≡ after_slot_step s name (next_slot_step x (slot_run_for x n (slot_begun slot flags)))
    next_follows n =
        let r = slot_run_for x n (slot_begun slot flags) in
        ap (next_step name x.log) (follows name s h valid n)
        ∙ step_in_state s x.log h.names_family valid name h.slot_there r (slot_place x valid slot flags n)
        ∙ ap (after_slot_step s name) (same_slot_step_lem (scene_of s x.log) x h.same_scene r)

    -- the whole run
    pub full_follows : full_run name x.log s ≡ in_state s name (full_slot_run x slot flags)
    full_follows =
        follows name s h valid (full_steps s.family)
        ∙ ap (λ (family : ℕ). in_state s name (slot_run_for x (full_steps family) (slot_begun slot flags))) h.same_scene.family

    pub full_next_follows : next_step name x.log (full_run name x.log s) ≡ after_slot_step s name (next_slot_step x (full_slot_run x slot flags))
    full_next_follows =
        next_follows (full_steps s.family)
        ∙ ap (λ (family : ℕ). after_slot_step s name (next_slot_step x (slot_run_for x (full_steps family) (slot_begun slot flags)))) h.same_scene.family
