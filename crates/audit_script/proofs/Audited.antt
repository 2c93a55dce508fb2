-- Of the defined verdict all holds that the auditor promises. Assumes nothing.
use Prim.Native.Nat.{ℕ, ◌<◌}
use mathlib.Core.Path.{◌≡◌, sym, ap, subst, ◌∙◌}
use mathlib.Core.Bool.{true, false, and-false}
use mathlib.Core.List.{List}
use lib.ListN.{get_or}
use Rattle.script.specs.Script.{Script}
use Rattle.script.specs.Input.{script_fits, ranges_fit}
use Rattle.audit_verdict.specs.Auditor.{verdict_number, fault_at, walk_of, audit_of}
use Rattle.audit_verdict.specs.Demand3.{Demand3}
use Rattle.audit_verdict.specs.Witness.{Witnessed}
use Rattle.refusals.specs.declared.refusals.Fault.{Fault}
use Rattle.audit_verdict.specs.declared.verdicts.Verdict.{Verdict}
use Rattle.audit_verdict.proofs.Claim.{demand3, audit_witnessed}
use Rattle.audit_verdict.proofs.FirstFault.{audit_numbered}
use Rattle.audit_verdict.proofs.Table.{starred}
use Rattle.audit_script.specs.Promises.{Audits}

-- a script of bytes
module _ (x : Script) (ranges : List ℕ) (bytes : (i : ℕ) → get_or x.code i 0 < 256) where
  audited : {answer : Verdict} → answer ≡ audit_of x ranges → Audits x ranges answer
  audited e = record {
    answered = e;
    numbered = ap verdict_number e ∙ audit_numbered x ranges;
    demand3 = subst (Demand3 x ranges) (sym e) (demand3 x ranges bytes);
    witnessed = subst (Witnessed x ranges) (sym e) (audit_witnessed x ranges bytes);
    starred = starred;
  }

  pub no_script : script_fits x ≡ false → Audits x ranges (fault_at Fault.Input 0)
  unfolding audit_of
  no_script unfit = audited (simp unfit)

  pub no_ranges : ranges_fit ranges ≡ false → Audits x ranges (fault_at Fault.Input 0)
  unfolding audit_of
  no_ranges unfit = audited (simp (unfit, and-false (script_fits x)))

  pub walked : script_fits x ≡ true → ranges_fit ranges ≡ true → {answer : Verdict} → answer ≡ walk_of x ranges → Audits x ranges answer
  unfolding audit_of
  walked fits paired e = audited (e ∙ simp (fits, paired))
