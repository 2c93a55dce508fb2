-- A slot that runs a script, under any log and any HWSQ_ENABLE: its next step; and that a slot that does not run stays as it is. Assumes nothing.
use Rattle.std.specs.Prelude.{Err}
use Prim.Native.Nat.{ℕ, ◌+◌}
use mathlib.Core.Path.{◌≡◌, ap, ◌∙◌}
use mathlib.Core.Bool.{Bool, true, false}
use native.Mathlib.Omega.{arith}
use Rattle.refusals.specs.declared.refusals.Unreadable.{Unreadable}
use Rattle.event_log.specs.Log.{Log}
use Rattle.machine_state.specs.Slot.{is_running}
use Rattle.machine_time.specs.Time.{elapsed_of}
use Rattle.machine_slot.specs.SlotStep.{mode_after, ip_after, perform_of, unfetched}
use Rattle.machine_actions.specs.declared.actions.Action.{Action}
use Rattle.machine_state.specs.declared.slots.Mode.{Mode}
use Rattle.machine_slot.specs.declared.slot_steps.SlotStep.{SlotStep}
use Rattle.run.specs.SlotRun.{Scene, SlotRun, script_scene, took_slot_step, next_slot_step, slot_run_for}
use Rattle.run.proofs.Settled.{settled_run, rest_settled}
use Rattle.script.specs.Script.{Script, fetch_at}
use Rattle.script.proofs.Scripts.{Reads}

-- what the steps of a start read, whose HWSQ_ENABLE is 1
abbrev pub scene_under : Script → Log → Scene
scene_under x log = script_scene x true log

-- a run after one more step
abbrev pub after_step : Scene → SlotRun → SlotRun
after_step y r = took_slot_step r (next_slot_step y r)

-- a slot that does not run is left alone by any number of steps
pub run_rests : (y : Scene) (r : SlotRun) → is_running r.slot.mode ≡ false → (m : ℕ) → slot_run_for y m r ≡ r
run_rests y r h m = settled_run y m r (rest_settled y r h)

-- a run that goes on at a place
pub record Going (p : ℕ) (r : SlotRun) : Type 0 where
  pub runs : r.slot.mode ≡ Mode.Running
  pub ip : r.slot.ip.0 ≡ p

module _ (x : Script) (enable : Bool) (log : Log) {p : ℕ} {r : SlotRun} (g : Going p r) where
  pub refuses : (why : Unreadable) → fetch_at x p ≡ Err why
      → next_slot_step (script_scene x enable log) r ≡ unfetched x.family r.slot r.flags r.place why
  refuses why e = simp (g.runs, g.ip, e)

  module _ {n : ℕ} {action : Action} (e : Reads x p action n) where
    pub performs : next_slot_step (script_scene x enable log) r ≡ perform_of enable r.slot r.flags action n (elapsed_of action log r.place)
    performs = simp (g.runs, g.ip, e.found, e.acts)

    -- the mode after it
    pub mode_then : (after_step (script_scene x enable log) r).slot.mode ≡ mode_after action enable (elapsed_of action log r.place).finished
    unfolding perform_of
    mode_then = ap (λ (t : SlotStep). t.slot.mode) performs

    -- and where it then goes on
    pub going_then : mode_after action enable (elapsed_of action log r.place).finished ≡ Mode.Running
        → ((at after_step : ℕ) → ip_after action at after_step ≡ after_step)
        → Going (p + n) (after_step (script_scene x enable log) r)
    unfolding perform_of
    going_then runs moves = record {
      runs = mode_then ∙ runs;
      ip = ap (λ (t : SlotStep). t.slot.ip.0) performs ∙ moves r.slot.ip.0 (r.slot.ip.0 + n) ∙ omega (arith, g.ip);
    }
