-- How time passes during an action: a finished one waited as long as it says, and an unfinished one is a wait at the log's end. Assumes nothing.
use Prim.Native.Nat.{ℕ}
use mathlib.Core.Path.{◌≡◌, refl}
use mathlib.Core.Bool.{true, false}
use mathlib.Core.List.{List}
use native.Mathlib.Omega.{arith}
use lib.ListN.{length}
use borrow.Author.Tests.{eqb-true, eqb-false}
use Rattle.log_ewaits.specs.Ewait.{ewait_of}
use Rattle.event_log.specs.Log.{Log}
use Rattle.event_log.specs.Validity.{valid_place}
use Rattle.log_waits.specs.Wait.{wait_of}
use Rattle.log_ewaits.specs.declared.ewait.Released.{Released}
use Rattle.event_log.specs.declared.place.Place.{Place}
use Rattle.event_log.proofs.ValidLaws.{row_within}
use Rattle.log_waits.proofs.WaitLaws.{cut_at_end}
use Rattle.machine_time.specs.Time.{elapsed_of, after_ewait}
use Rattle.machine_slot.specs.SlotStep.{mode_after, effect_of}
use Rattle.machine_actions.specs.declared.actions.Action.{Action}
use Rattle.machine_state.specs.declared.slots.Mode.{Mode}
use Rattle.machine_time.specs.declared.elapsed.Elapsed.{Elapsed}
use Rattle.machine_slot.specs.declared.slot_steps.Effect.{Effect}
use Rattle.audit_verdict.specs.Auditor.{wait_length}
use Rattle.audit_verdict.proofs.Cases.{never}

pub record Lapse (clocks : List ℕ) (action : Action) (p : Place) (e : Elapsed) : Type 0 where
  pub waited : e.finished ≡ true → e.waited ≡ wait_length action
  pub mode : e.finished ≡ false → mode_after action true false ≡ Mode.Waiting
  pub quiet : e.finished ≡ false → (addr word : ℕ) → effect_of action true addr word ≡ Effect.Done
  pub end : valid_place clocks p ≡ true → e.finished ≡ false → (e.place.row ≡ length clocks) × (e.place.used ≡ 0)

module _ (log : Log) where
  ewait_lapse : (event value : ℕ) (p : Place) (r : Released) → Lapse log.clocks (Action.Ewait event value) p (after_ewait (length log.clocks) r)
  ewait_lapse event value p (Released.At q n) = record { waited = λ _. refl; mode = λ _. refl; quiet = λ _ addr word. refl; end = λ v f. never (cc) }
  ewait_lapse event value p (Released.End n) = record { waited = λ f. never (cc); mode = λ _. refl; quiet = λ _ addr word. refl; end = λ v _. (refl, refl) }

  pub lapse : (action : Action) (p : Place) → Lapse log.clocks action p (elapsed_of action log p)
  lapse (Action.Wait n) p =
      let w = wait_of log.clocks p n in
      record {
        waited = λ f. omega (arith, eqb-true w.cut 0 f);
        mode = λ _. refl;
        quiet = λ _ addr word. refl;
        end = λ v f. let h = eqb-false w.cut 0 f in cut_at_end log.clocks p n (row_within log.clocks p v) (omega arith);
      }
  lapse (Action.Ewait event value) p = ewait_lapse event value p (ewait_of log p event value)
  lapse (Action.Flag change flag) p = record { waited = λ _. refl; mode = λ f. never (cc); quiet = λ _ addr word. refl; end = λ v f. never (cc) }
  lapse (Action.Load part word) p = record { waited = λ _. refl; mode = λ f. never (cc); quiet = λ _ addr word. refl; end = λ v f. never (cc) }
  lapse (Action.Poke part word) p = record { waited = λ _. refl; mode = λ f. never (cc); quiet = λ f addr word. never (cc); end = λ v f. never (cc) }
  lapse Action.Exit p = record { waited = λ _. refl; mode = λ f. never (cc); quiet = λ _ addr word. refl; end = λ v f. never (cc) }
