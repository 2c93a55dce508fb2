-- Demand 3: the one claim about the defined verdict, of code whose elements are bytes. Assumes nothing.
use Prim.Native.Nat.{ℕ, suc, ◌+◌, ◌<◌, ◌^◌}
use mathlib.Core.Path.{◌≡◌, refl, sym, ap, subst, ◌∙◌}
use mathlib.Core.Logic.{inl, inr}
use mathlib.Core.Bool.{true, false, ◌&&◌}
use mathlib.Core.List.{List}
use native.Mathlib.Omega.{arith}
use lib.ListN.{length, get_or}
use Rattle.families.specs.Family.{code_size, pauses_memory}
use Rattle.families.proofs.Tests.{both_left, cond_elim}
use Rattle.event_log.specs.Log.{Log}
use Rattle.event_log.proofs.ValidLaws.{valid_row_start}
use Rattle.machine_state.specs.Slot.{slot_of}
use Rattle.machine_state.specs.declared.slots.SlotName.{SlotName}
use Rattle.machine_slot.specs.SlotStep.{perform_of}
use Rattle.script.specs.Script.{Script}
use Rattle.script.specs.Input.{script_fits, ranges_fit, input_fits}
use Rattle.script.proofs.Scripts.{fits_script, Auditable}
use Rattle.run.specs.Run.{Run, begun, next_step, run_for}
use Rattle.run.specs.SlotRun.{SlotRun, next_slot_step, slot_run_of}
use Rattle.run.proofs.MoreLog.{rows_added, readings_filled}
use Rattle.audit_verdict.specs.Auditor.{know_nothing, walk_of, audit_of}
use Rattle.audit_verdict.specs.Demand3.{Safe, VerdictMeans, Demand3}
use Rattle.audit_verdict.specs.Witness.{OwnLogShows, Witnessed}
use Rattle.audit_verdict.specs.declared.verdicts.Knowledge.{Knowledge}
use Rattle.audit_verdict.specs.declared.verdicts.Verdict.{Verdict}
use Rattle.audit_verdict.proofs.Cases.{never}
use Rattle.audit_verdict.proofs.Going.{scene_under, performs}
use Rattle.audit_verdict.proofs.Walk.{Walk, actions_of, way_is, Ends, at_refused, at_bad, at_exit, Walked, audit_walks}
use Rattle.audit_verdict.proofs.Soundness.{orderly_effect, Stands, goes, waits, exits, stays_sound}
use Rattle.audit_verdict.proofs.Endings.{ends_well}
use Rattle.audit_verdict.proofs.SameWrites.{same_writes}
use Rattle.audit_verdict.proofs.WitnessRun.{witness_log}
use Rattle.audit_verdict.proofs.WitnessLog.{witness_valid, witness_masks, bounded, bounded_start}
use Rattle.audit_verdict.proofs.Starts.{begun_agrees, slot_follows, effect_follows, starts_in}
use Rattle.audit_verdict.proofs.Shown.{exact_in, exited, shown_by}
use Rattle.audit_verdict.proofs.Faults.{refused, blamed}
use Rattle.audit_verdict.proofs.ReplayLaws.{replay_tells}

-- ---- a state's run, from what it shows of the slot

module _ {x : Script} {ranges : List ℕ} {q : ℕ} {l : Knowledge} (unpaused : (pauses_memory x.family && l.paused) ≡ false) (name : SlotName) (r : Run) where
  safe_in : (log : Log) (n : ℕ) → (next_step name log r).effect ≡ (next_slot_step (scene_under x log) (slot_run_of name r)).effect
      → Stands x ranges log q l n (slot_run_of name r) → Safe x ranges name q (l.count + 1) l.writes l.clocks log n r
  unfolding perform_of
  safe_in log n does (goes {action = action} e g h) = record {
    listed = g.listed;
    orderly = rw (does, performs x true log g.going e) (orderly_effect action (slot_of r.state name).addr.0 (slot_of r.state name).«data»);
    ended = λ b. absurd (omega (arith, e.some, e.inside));
    exact = λ m. never (cc g.going.runs);
  }
  safe_in log n does (waits h) = record {
    listed = h.listed;
    orderly = rw (does, h.waiting) tt;
    ended = λ _. inr (record { waits = h.waiting; row = h.row; used = h.used });
    exact = λ m. never (cc h.waiting);
  }
  safe_in log n does (exits h) = let e = exact_in unpaused name r h in record {
    listed = h.listed;
    orderly = rw (does, h.idle) tt;
    ended = λ _. inl e.exit;
    exact = λ _. e;
  }

-- ---- what the walk comes to

module _ (x : Script) (ranges : List ℕ) (fit : Auditable x) (fits_so : script_fits x ≡ true) where
  -- what the end of the walk means
  ended : {q : ℕ} {k : Knowledge} {v : Verdict} → Walk x ranges x.entry know_nothing q k → Ends x ranges q k v → VerdictMeans x ranges v
  ended w (at_refused why e) = refused fit w why e
  ended w (at_bad action n fault e b) = blamed fit w action n e fault b
  ended {q} {k} w (at_exit n e unpaused) = record {
    safe = λ name s start log valid m.
        let same = slot_follows start fit.fits log valid m in
        let does = effect_follows start fit.fits log valid m ∙ ap (λ (r : SlotRun). (next_slot_step (scene_under x log) r).effect) (sym same) in
        let stands = stays_sound x ranges log e valid w (begun_agrees start) (valid_row_start log valid 0 (omega arith)) m m (omega arith) in
        safe_in unpaused name (run_for name log m (begun s)) log m does (subst (Stands x ranges log q k m) (sym same) stands);
    same_writes = λ name name' s s' start start' log valid m.
        ap (λ (r : SlotRun). r.writes) (slot_follows start fit.fits log valid m)
        ∙ same_writes x ranges log e w (begun_agrees start) (begun_agrees start') (record { place = refl; writes = refl; held = λ h. never (cc) }) m
        ∙ sym (ap (λ (r : SlotRun). r.writes) (slot_follows start' fit.fits log valid m));
    rows_added = λ name s start. rows_added name s;
    readings_filled = λ name s start. readings_filled name s;
    bounded = omega (arith, (bounded w bounded_start).count, e.some, e.inside);
    reaches = λ name s start. (
      witness_log w,
      suc (length (actions_of w)),
      witness_valid w,
      witness_masks w,
      (exact_in unpaused name (run_for name (witness_log w) (suc (length (actions_of w))) (begun s)) (exited fit w start e)).exit,
    );
    replays = replay_tells x fits_so;
    ends = ends_well x ranges e w;
  }

  walk : Walked x ranges x.entry know_nothing (walk_of x ranges)
  walk = audit_walks x ranges fit.bytes (code_size x.family) x.entry know_nothing (omega arith)

  walked : VerdictMeans x ranges (walk_of x ranges)
  walked = ended walk.walk walk.ends

  witnessed : OwnLogShows x ranges (walk_of x ranges)
  witnessed = rw (way_is (code_size x.family) walk.walk (omega arith)) (shown_by fit walk.walk walk.ends)

-- a script of bytes
module _ (x : Script) (ranges : List ℕ) (bytes : (i : ℕ) → get_or x.code i 0 < 2 ^ 8) where
  -- that may be audited
  module _ (i : input_fits x ranges ≡ true) where
    fitting : script_fits x ≡ true
    fitting = both_left (script_fits x) (ranges_fit ranges) i

    auditable : Auditable x
    auditable = record { fits = fits_script x fitting; bytes = bytes }

    -- the walk to the verdict's place
    pub audit_walked : Walked x ranges x.entry know_nothing (audit_of x ranges)
    unfolding audit_of
    audit_walked = rw i (walk x ranges auditable fitting)

    -- and the script's own log shows the verdict, from every start
    audit_shown : OwnLogShows x ranges (audit_of x ranges)
    unfolding audit_of
    audit_shown = rw i (witnessed x ranges auditable fitting)

  pub audit_witnessed : Witnessed x ranges (audit_of x ranges)
  audit_witnessed i = audit_shown i

  pub demand3 : Demand3 x ranges (audit_of x ranges)
  unfolding audit_of
  demand3 = record {
    means = cond_elim (VerdictMeans x ranges) (input_fits x ranges) (λ i. walked x ranges (auditable i) (fitting i)) (λ i. (i, refl));
    input = λ i. rw i refl;
    replays = replay_tells x;
    starts = λ i. starts_in x (auditable i);
  }
