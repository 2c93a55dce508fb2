-- A passed script under any log, after any number of steps: it goes on as the auditor has it, is held up, or has exited. Assumes nothing.
use Prim.Native.Nat.{ℕ, zero, suc, ◌+◌, ◌≤◌}
use mathlib.Core.Path.{◌≡◌, refl, ap}
use mathlib.Core.Logic.{⊎_elim}
use mathlib.Core.Bool.{true, ◌&&◌}
use mathlib.Core.List.{List, append-nil}
use native.Mathlib.Omega.{arith}
use lib.ListN.{length}
use Rattle.families.specs.Family.{pauses_memory}
use Rattle.event_log.specs.Log.{Log}
use Rattle.event_log.specs.Validity.{valid_log, valid_place}
use Rattle.machine_flags.specs.Flags.{paused_of}
use Rattle.machine_state.specs.Slot.{is_running}
use Rattle.machine_state.specs.declared.slots.Mode.{Mode}
use Rattle.machine_time.specs.Time.{elapsed_of}
use Rattle.machine_slot.specs.SlotStep.{effect_of, perform_of}
use Rattle.machine_actions.specs.declared.actions.Action.{Action}
use Rattle.run.specs.SlotRun.{SlotRun, slot_run_for}
use Rattle.run.proofs.SlotRuns.{next_place}
use Rattle.script.specs.Script.{Script}
use Rattle.script.proofs.Scripts.{Reads}
use Rattle.audit_verdict.specs.Demand3.{AllListed, Orderly}
use Rattle.audit_verdict.specs.declared.verdicts.Knowledge.{Knowledge}
use Rattle.audit_verdict.proofs.Cases.{either}
use Rattle.audit_verdict.proofs.Going.{scene_under, after_step, run_rests, performs}
use Rattle.audit_verdict.proofs.Walk.{Walk, here, further}
use Rattle.audit_verdict.proofs.Agreement.{Agree, Held, goes_on, held_up}

pub orderly_effect : (action : Action) (addr word : ℕ) → Orderly (effect_of action true addr word)
orderly_effect (Action.Wait n) addr word = tt
orderly_effect (Action.Ewait event value) addr word = tt
orderly_effect (Action.Flag change flag) addr word = tt
orderly_effect (Action.Load part operand) addr word = tt
orderly_effect (Action.Poke part operand) addr word = tt
orderly_effect Action.Exit addr word = tt

module _ (x : Script) (ranges : List ℕ) where
  -- a run that stands at exit, with the auditor's numbers
  pub record Exited (q : ℕ) (l : Knowledge) (r : SlotRun) : Type 0 where
    pub idle : r.slot.mode ≡ Mode.Idle
    pub ip : r.slot.ip.0 ≡ q
    pub paused : paused_of x.family r.flags ≡ (pauses_memory x.family && l.paused)
    pub counted : r.count ≡ l.count + 1
    pub wrote : length r.writes ≡ l.writes
    pub waited : r.waits ≡ l.clocks
    pub listed : AllListed ranges r.writes

  module _ (log : Log) where
    -- how a run stands: before an action at a place no lower than this, held up, or at exit
    pub data Stands (q : ℕ) (l : Knowledge) (low : ℕ) (r : SlotRun) : Type 0 where
      goes : {addr word p n : ℕ} {k : Knowledge} {action : Action} → Reads x p action n → Agree x ranges addr word p k r → low ≤ p → Stands q l low r
      waits : Held ranges log r → Stands q l low r
      exits : Exited q l r → Stands q l low r

    module _ {q m : ℕ} {l : Knowledge} (e : Reads x q Action.Exit m) where
      -- exit's own step
      pub exit_step : {addr word : ℕ} {r : SlotRun} → Agree x ranges addr word q l r → Exited q l (after_step (scene_under x log) r)
      unfolding perform_of
      exit_step g = rw (performs x true log g.going e) (record {
        idle = refl;
        ip = g.going.ip;
        paused = g.paused;
        counted = omega (arith, g.count);
        wrote = rw append-nil g.writes;
        waited = omega (arith, g.waits);
        listed = rw append-nil g.listed;
      })

      pub stays_sound : valid_log log ≡ true → {addr word p : ℕ} {k : Knowledge} {r : SlotRun} → Walk x ranges p k q l → Agree x ranges addr word p k r
          → valid_place log.clocks r.place ≡ true → (n low : ℕ) → low ≤ p + n → Stands q l low (slot_run_for (scene_under x log) n r)
      unfolding slot_run_for
      stays_sound valid here g v zero low h = goes e g (omega arith)
      stays_sound valid {r = r} here g v (suc n) low h =
          let s = exit_step g in
          rw (run_rests (scene_under x log) (after_step (scene_under x log) r) (ap is_running s.idle) n) (exits s)
      stays_sound valid (further action t f j w) g v zero low h = goes f g (omega arith)
      stays_sound valid {r = r} (further action t f j w) g v (suc n) low h =
          ⊎_elim (λ d. stays_sound valid w (goes_on log g f j d) (next_place (scene_under x log) valid r v) n low (omega (arith, f.some)))
          (λ d. let s = held_up log g f j v d in rw (run_rests (scene_under x log) (after_step (scene_under x log) r) (ap is_running s.waiting) n) (waits s))
          (either (elapsed_of action log r.place).finished)
