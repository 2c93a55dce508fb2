-- Runs through the auditor's walk from any two starts, under one log, write the same step for step: no poke needs what ADDR or DATA held before. Assumes
-- nothing.
use Prim.Native.Nat.{◌+◌, ℕ, zero, suc, ◌<◌}
use mathlib.Core.Path.{◌≡◌, refl, ap, ap₂, ◌∙◌}
use mathlib.Core.Logic.{⊎_elim}
use mathlib.Core.Bool.{Bool, true, false}
use mathlib.Core.List.{List, ◌++◌}
use native.Mathlib.Omega.{arith}
use lib.ListN.{length}
use Rattle.event_log.specs.Log.{Log}
use Rattle.event_log.specs.declared.place.Place.{Place}
use Rattle.machine_actions.specs.Action.{merge_of}
use Rattle.machine_actions.specs.declared.actions.Action.{Action}
use Rattle.machine_actions.specs.declared.actions.Part.{Part}
use Rattle.machine_state.specs.Slot.{is_running}
use Rattle.machine_state.specs.declared.slots.Mode.{Mode}
use Rattle.machine_time.specs.Time.{elapsed_of}
use Rattle.machine_slot.specs.SlotStep.{data_after, effect_of, perform_of}
use Rattle.run.specs.Run.{wrote_by}
use Rattle.run.specs.SlotRun.{Scene, SlotRun, next_slot_step, slot_run_for}
use Rattle.script.specs.Script.{Script}
use Rattle.script.proofs.Scripts.{Reads}
use Rattle.audit_verdict.specs.Auditor.{loads_both, known_data, know_next}
use Rattle.audit_verdict.specs.Demand3.{Orderly}
use Rattle.audit_verdict.specs.declared.verdicts.Knowledge.{Knowledge}
use Rattle.audit_verdict.proofs.Cases.{either}
use Rattle.audit_verdict.proofs.Going.{scene_under, after_step, run_rests, performs, mode_then}
use Rattle.audit_verdict.proofs.Walk.{Walk, here, further, actions_of}
use Rattle.audit_verdict.proofs.Agreement.{Agree, goes_on, waits_then}
use Rattle.audit_verdict.proofs.Soundness.{orderly_effect}
use Rattle.audit_verdict.proofs.WitnessRun.{Unheld}

-- with both halves set, DATA is the same after an action
load_same : (part : Part) (operand word word' : ℕ) (halves : Bool) → (halves ≡ true → word ≡ word') → loads_both part halves ≡ true
    → merge_of part word operand ≡ merge_of part word' operand
load_same Part.Whole operand word word' halves h e = refl
load_same Part.Low operand word word' halves h e = ap (λ (w : ℕ). merge_of Part.Low w operand) (h e)

word_same : (action : Action) (halves : Bool) (word word' : ℕ) → (halves ≡ true → word ≡ word') → known_data action halves ≡ true
    → data_after action word ≡ data_after action word'
word_same (Action.Wait n) halves word word' h = h
word_same (Action.Ewait event value) halves word word' h = h
word_same (Action.Flag change flag) halves word word' h = h
word_same (Action.Load part operand) halves word word' h = load_same part operand word word' halves h
word_same (Action.Poke part operand) halves word word' h = h
word_same Action.Exit halves word word' h = h

module _ (x : Script) (ranges : List ℕ) (log : Log) where
  abbrev scene : Scene
  scene = scene_under x log

  -- two runs that are at one place in the log, have written the same, and hold the same DATA where the script has set it
  pub record Same (k : Knowledge) (r r' : SlotRun) : Type 0 where
    pub place : r.place ≡ r'.place
    pub writes : r.writes ≡ r'.writes
    pub held : k.«data» ≡ true → r.slot.«data» ≡ r'.slot.«data»

  next_same : {addr word addr' word' p n : ℕ} {k : Knowledge} {r r' : SlotRun} {action : Action}
      → Agree x ranges addr word p k r → Agree x ranges addr' word' p k r'
      → Reads x p action n → Same k r r'
      → wrote_by (effect_of action true r.slot.addr.0 r.slot.«data») ≡ wrote_by (effect_of action true r'.slot.addr.0 r'.slot.«data»)
      → Same (know_next action k) (after_step scene r) (after_step scene r')
  unfolding perform_of
  next_same {k = k} {r = r} {r' = r'} {action = action} g g' e s h =
      rw (performs x true log g.going e, performs x true log g'.going e) (record {
        place = ap (λ (p : Place). (elapsed_of action log p).place) s.place;
        writes = ap₂ ◌++◌ s.writes h;
        held = word_same action k.«data» r.slot.«data» r'.slot.«data» s.held;
      })

  -- two runs that no step moves any more
  rest : {mode : Mode} → is_running mode ≡ false → (m : ℕ) (r r' : SlotRun) → r.slot.mode ≡ mode → r'.slot.mode ≡ mode → r.writes ≡ r'.writes
      → (slot_run_for scene m r).writes ≡ (slot_run_for scene m r').writes
  rest still m r r' e e' h = rw (run_rests scene r (ap is_running e ∙ still) m, run_rests scene r' (ap is_running e' ∙ still) m) h

  pub same_writes : {addr word addr' word' p q m : ℕ} {k l : Knowledge} {r r' : SlotRun} → Reads x q Action.Exit m → Walk x ranges p k q l
      → Agree x ranges addr word p k r → Agree x ranges addr' word' p k r' → Same k r r'
      → (n : ℕ) → (slot_run_for scene n r).writes ≡ (slot_run_for scene n r').writes
  unfolding slot_run_for
  same_writes e w g g' s zero = s.writes
  same_writes {r = r} {r' = r'} e here g g' s (suc n) =
      rest refl n (after_step scene r) (after_step scene r') (mode_then x true log g.going e) (mode_then x true log g'.going e) (next_same g g' e s refl).writes
  same_writes {addr} {word} {addr'} {word'} {p} {r = r} {r' = r'} e (further action t f j w) g g' s (suc n) =
      let wrote = j.writes addr addr' r.slot.addr.0 r'.slot.addr.0 r.slot.«data» r'.slot.«data» g.held g'.held s.held in
      let same = next_same g g' f s wrote in
      ⊎_elim (λ d. same_writes {p = p + t} e w (goes_on log g f j d) (goes_on log g' f j (rw s.place at d)) same n)
      (λ d. rest refl n (after_step scene r) (after_step scene r') (waits_then log g f j d) (waits_then log g' f j (rw s.place at d)) same.writes)
      (either (elapsed_of action log r.place).finished)

  -- two runs through a walk that is held up nowhere
  pub same_through : {addr word addr' word' p q : ℕ} {k l : Knowledge} {r r' : SlotRun} (w : Walk x ranges p k q l)
      → Agree x ranges addr word p k r → Agree x ranges addr' word' p k r' → Same k r r' → Unheld log w r
      → Same l (slot_run_for scene (length (actions_of w)) r) (slot_run_for scene (length (actions_of w)) r')
  unfolding slot_run_for
  same_through here g g' s u = s
  same_through {addr} {word} {addr'} {word'} {r = r} {r' = r'} (further action t f j w) g g' s u =
      let wrote = j.writes addr addr' r.slot.addr.0 r'.slot.addr.0 r.slot.«data» r'.slot.«data» g.held g'.held s.held in
      same_through w (goes_on log g f j u.0) (goes_on log g' f j (rw s.place at u.0)) (next_same g g' f s wrote) u.1

  -- each step of it is in order
  pub orderly_through : {addr word p q : ℕ} {k l : Knowledge} {r : SlotRun} (w : Walk x ranges p k q l)
      → Agree x ranges addr word p k r → Unheld log w r → (n : ℕ) → n < length (actions_of w)
      → Orderly (next_slot_step scene (slot_run_for scene n r)).effect
  unfolding slot_run_for perform_of
  orderly_through here g u n h = absurd (omega arith)
  orderly_through {r = r} (further action t e f w) g u zero h =
      rw (performs x true log g.going e) (orderly_effect action r.slot.addr.0 r.slot.«data»)
  orderly_through (further action t e f w) g u (suc n) h = orderly_through w (goes_on log g e f u.0) u.1 n (omega arith)
