-- A passed script neither hangs nor stops, whatever HWSQ_ENABLE and the flags are: it exits, is held up at the log's end, or a poke blocks. Assumes nothing.
use Prim.Native.Nat.{ℕ, zero, suc, ◌+◌, ◌≤◌}
use mathlib.Core.Path.{◌≡◌, refl, sym, ap, subst, ◌∙◌}
use mathlib.Core.Logic.{◌⊎◌, inl, inr, ⊎_elim}
use mathlib.Core.Bool.{Bool, true, false}
use mathlib.Core.List.{List}
use native.Mathlib.Omega.{arith}
use Rattle.families.specs.Family.{code_size}
use Rattle.machine_actions.specs.declared.actions.Action.{Action}
use Rattle.event_log.specs.Log.{Log}
use Rattle.event_log.specs.Validity.{valid_log}
use Rattle.machine_flags.specs.declared.flags.Flags.{Flags}
use Rattle.machine_state.specs.Slot.{is_running, slot_of}
use Rattle.machine_state.specs.declared.slots.Mode.{Mode}
use Rattle.machine_state.specs.declared.slots.SlotName.{SlotName}
use Rattle.machine_state.specs.declared.state.State.{State}
use Rattle.machine_time.specs.Time.{elapsed_of}
use Rattle.machine_slot.specs.SlotStep.{mode_after}
use Rattle.run.specs.SlotRun.{Scene, SlotRun, script_scene, slot_run_for, slot_at_entry, slot_run_of, Holds}
use Rattle.run.specs.Replay.{full_steps, full_slot_run, full_run, ending_of}
use Rattle.run.proofs.InState.{run_back, full_follows}
use Rattle.script.specs.Script.{Script}
use Rattle.script.proofs.Scripts.{Reads}
use Rattle.audit_verdict.specs.Auditor.{know_nothing}
use Rattle.audit_verdict.specs.Demand3.{EndsWell}
use Rattle.audit_verdict.specs.declared.verdicts.Knowledge.{Knowledge}
use Rattle.audit_verdict.proofs.Going.{after_step, run_rests, Going, mode_then, going_then}
use Rattle.audit_verdict.proofs.Walk.{Walk, here, further}

module _ (x : Script) (ranges : List ℕ) where
  -- a mode in which a slot rests, and its ending
  abbrev Rests : Mode → Type 0
  Rests mode = (is_running mode ≡ false) × (EndsWell (ending_of mode))

  -- an action judged fine goes on, or the slot rests
  fine_mode : (action : Action) (enable finished : Bool) → mode_after action true true ≡ Mode.Running
      → (mode_after action enable finished ≡ Mode.Running) ⊎ (Rests (mode_after action enable finished))
  fine_mode (Action.Wait n) enable true g = inl refl
  fine_mode (Action.Wait n) enable false g = inr (refl, tt)
  fine_mode (Action.Ewait event value) enable true g = inl refl
  fine_mode (Action.Ewait event value) enable false g = inr (refl, tt)
  fine_mode (Action.Flag change flag) enable finished g = inl refl
  fine_mode (Action.Load part word) enable finished g = inl refl
  fine_mode (Action.Poke part word) true finished g = inl refl
  fine_mode (Action.Poke part word) false finished g = inr (refl, tt)
  fine_mode Action.Exit enable finished g = inr (refl, tt)

  module _ (enable : Bool) (log : Log) where
    abbrev scene : Scene
    scene = script_scene x enable log

    -- a run that rests stays as it is
    rested : (m : ℕ) (r : SlotRun) → Rests r.slot.mode → Rests (slot_run_for scene m r).slot.mode
    rested m r h = rw (run_rests scene r h.0 m) h

    module _ {q m : ℕ} {l : Knowledge} (e : Reads x q Action.Exit m) where
      ends_on : {p : ℕ} {k : Knowledge} {r : SlotRun} → Walk x ranges p k q l → Going p r → (n : ℕ) → code_size x.family ≤ p + n
          → Rests (slot_run_for scene n r).slot.mode
      unfolding slot_run_for
      ends_on here g zero h = absurd (omega (arith, e.some, e.inside))
      ends_on {r = r} here g (suc n) h = rested n (after_step scene r) (rw (mode_then x enable log g e) (refl, tt))
      ends_on (further action t f j w) g zero h = absurd (omega (arith, f.some, f.inside))
      ends_on {r = r} (further action t f j w) g (suc n) h =
          ⊎_elim (λ runs. ends_on w (going_then x enable log g f runs j.moves) n (omega (arith, f.some)))
          (λ rests. rested n (after_step scene r) (rw (mode_then x enable log g f) rests))
          (fine_mode action enable (elapsed_of action log r.place).finished j.goes)

  -- of every state that holds a slot that runs from the entry
  pub ends_well : {q m : ℕ} {l : Knowledge} → Reads x q Action.Exit m → Walk x ranges x.entry know_nothing q l
      → (enable : Bool) (log : Log) (addr word : ℕ) (flags : Flags) (name : SlotName) (s : State)
      → Holds (script_scene x enable log) (slot_at_entry x.entry addr word) flags name s → valid_log log ≡ true
      → EndsWell (ending_of (slot_of (full_run name log s).state name).mode)
  ends_well e w enable log addr word flags name s held valid =
      let y = script_scene x enable log in
      let slot = slot_at_entry x.entry addr word in
      let shows = ap (slot_run_of name) (full_follows y slot flags name s held valid) ∙ run_back s name (full_slot_run y slot flags) in
      subst (λ (r : SlotRun). EndsWell (ending_of r.slot.mode)) (sym shows)
      (ends_on enable log e w (record { runs = refl; ip = refl }) (full_steps x.family) (omega arith)).1
