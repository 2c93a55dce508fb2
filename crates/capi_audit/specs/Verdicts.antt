-- The auditor's verdict as numbers.
use Rattle.std.specs.Prelude.{ℕ, ◌≡◌, List}
use Rattle.refusals.specs.Number.{fault_number}
use Rattle.script.specs.Script.{Script}
use Rattle.audit_verdict.specs.Auditor.{audit_of}
use Rattle.audit_script.specs.Promises.{Audits}
use Rattle.audit_verdict.specs.declared.verdicts.Verdict.{Verdict}
use Rattle.capi_audit.specs.declared.verdicts.AuditReply.{AuditReply}

abbrev pub audit_reply : Verdict → AuditReply
audit_reply (Verdict.Pass place count writes clocks) = record { verdict = 0; place = place.0; count = count; writes = writes; clocks = clocks }
audit_reply (Verdict.Fault fault place) = record { verdict = fault_number fault; place = place.0; count = 0; writes = 0; clocks = 0 }

-- the reply tells the auditor's verdict, of which all holds that the auditor promises, demand 3 too
pub record HwsqAudit (script : Script) (ranges : List ℕ) (reply : AuditReply) : Type 0 where
  pub answered : reply ≡ audit_reply (audit_of script ranges)
  pub audits : Audits script ranges (audit_of script ranges)
