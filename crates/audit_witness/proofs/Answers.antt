-- What `witness` answers, case by case. Assumes nothing.
use Rattle.std.specs.Prelude.{Ok, Err}
use Prim.Native.Nat.{ℕ, ◌+◌, ◌≤◌}
use mathlib.Core.Path.{◌≡◌, refl, ap, subst}
use mathlib.Core.Logic.{⊎_elim}
use mathlib.Core.Bool.{true, false}
use mathlib.Core.List.{List}
use native.Mathlib.Omega.{arith}
use lib.Dec.{eqb}
use lib.ListN.{length-map}
use borrow.Author.Tests.{eqb-true}
use Rattle.refusals.specs.declared.refusals.Fault.{Fault}
use Rattle.refusals.specs.declared.refusals.Unshowable.{Unshowable}
use Rattle.event_log.specs.Log.{Log}
use Rattle.event_log.specs.declared.row.Row.{Row}
use Rattle.event_log.proofs.Columns.{rows_first}
use Rattle.script.specs.Script.{Script}
use Rattle.script.specs.Input.{input_fits}
use Rattle.audit_verdict.specs.Auditor.{verdict_number, audit_of}
use Rattle.audit_verdict.specs.Demand3.{VerdictMeans}
use Rattle.audit_verdict.specs.Witness.{max_shown, OwnLogShows, Witnessed}
use Rattle.audit_verdict.specs.declared.verdicts.Verdict.{Verdict}
use Rattle.audit_verdict.proofs.Cases.{never, either}
use Rattle.audit_verdict.proofs.Table.{worked_logs}
use Rattle.audit_script.specs.Promises.{Audits}
use Rattle.audit_witness.specs.Inside.{Follows}
use Rattle.audit_witness.specs.Witnesses.{lent_enough, way, rows, witness_of, witness_refusal, Witnesses}
use Rattle.audit_witness.specs.declared.rows.Timeline.{Timeline}

module _ (x : Script) (ranges : List ℕ) where
  -- ---- the auditor's 9

  -- it is told where its row applies, and nowhere else
  nine_means : (v : Verdict) → VerdictMeans x ranges v → verdict_number v ≡ 9 → input_fits x ranges ≡ false
  nine_means (Verdict.Pass place count writes wait_clocks) m e = absurd (omega (arith, e))
  nine_means (Verdict.Fault Fault.PastRam place) m e = absurd (omega (arith, e))
  nine_means (Verdict.Fault Fault.NotUploaded place) m e = absurd (omega (arith, e))
  nine_means (Verdict.Fault Fault.Unknown place) m e = absurd (omega (arith, e))
  nine_means (Verdict.Fault Fault.NoAddress place) m e = absurd (omega (arith, e))
  nine_means (Verdict.Fault Fault.HalfData place) m e = absurd (omega (arith, e))
  nine_means (Verdict.Fault Fault.Outside place) m e = absurd (omega (arith, e))
  nine_means (Verdict.Fault Fault.Unreleased place) m e = absurd (omega (arith, e))
  nine_means (Verdict.Fault Fault.Paused place) m e = absurd (omega (arith, e))
  nine_means (Verdict.Fault Fault.Input place) m e = m.0

  module _ {v : Verdict} (a : Audits x ranges v) where
    pub nine_input : eqb (verdict_number v) 9 ≡ true → input_fits x ranges ≡ false
    nine_input t = nine_means v a.demand3.means (eqb-true (verdict_number v) 9 t)

    pub else_fits : eqb (verdict_number v) 9 ≡ false → input_fits x ranges ≡ true
    else_fits t =
        ⊎_elim (λ fits. fits)
        (λ no. never (cc (ap (λ (w : Verdict). eqb (verdict_number w) 9) (a.demand3.input no))))
        (either (input_fits x ranges))

  -- ---- the answers

  module _ (lent : Log) where
    abbrev Refuses : Unshowable → Type 0
    Refuses why = Witnesses x ranges lent lent (Err why)

    pub refuses_input : input_fits x ranges ≡ false → Refuses Unshowable.Input
    unfolding witness_of witness_refusal
    refuses_input i = record { answered = rw i refl; numbered = rw i refl; columns = refl; shows = tt; worked = worked_logs }

    pub refuses_room : input_fits x ranges ≡ true → lent_enough lent ≡ false → Refuses Unshowable.Room
    unfolding witness_of witness_refusal
    refuses_room i r = record { answered = rw (i, r) refl; numbered = rw (i, r) refl; columns = refl; shows = tt; worked = worked_logs }

    module _ {v : Verdict} {new : Log} {made : Timeline} (i : input_fits x ranges ≡ true) (r : lent_enough lent ≡ true)
        (a : Audits x ranges v) (f : Follows (way x ranges) lent new made) where
      shown : OwnLogShows x ranges (audit_of x ranges)
      shown = subst (Witnessed x ranges) a.answered a.witnessed i

      -- no more rows than a column has room for
      pub rows_few : made.before + 1 ≤ max_shown
      rows_few = let all = rows x ranges lent in omega (arith, f.counted, shown.few, length-map all (λ (row : Row). row.clocks))

      pub answers : Witnesses x ranges lent new
          (Ok (record { verdict = v; rows = made.before + 1; steps = made.steps; writes = made.writes }))
      unfolding witness_of witness_refusal
      answers = record {
        answered = rw (a.answered, f.counted, f.stepped, f.wrote, i, r) refl;
        numbered = rw (i, r) refl;
        columns = f.put;
        shows = (a, rw (a.answered, f.counted, f.stepped, f.wrote, f.put, rows_first lent (rows x ranges lent)) shown);
        worked = worked_logs;
      }
