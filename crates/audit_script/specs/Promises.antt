-- What the auditor promises of its verdict: the defined one, its number, demand 3 about it, and the log that shows it; and what it is on the starred scripts.
use Rattle.std.specs.Prelude.{ℕ, ◌≡◌, List}
use Rattle.script.specs.Script.{Script}
use Rattle.audit_verdict.specs.Auditor.{verdict_number, audit_of}
use Rattle.audit_verdict.specs.Numbers.{audit_number}
use Rattle.audit_verdict.specs.Demand3.{Demand3}
use Rattle.audit_verdict.specs.Starred.{Starred}
use Rattle.audit_verdict.specs.Witness.{Witnessed}
use Rattle.audit_verdict.specs.declared.verdicts.Verdict.{Verdict}

pub record Audits (script : Script) (ranges : List ℕ) (answer : Verdict) : Type 0 where
  pub answered : answer ≡ audit_of script ranges
  -- the number of the first of 01's tests that fails, over what the script did before
  pub numbered : verdict_number answer ≡ audit_number script ranges
  pub demand3 : Demand3 script ranges answer
  -- a log that the script itself dictates shows it, from every start
  pub witnessed : Witnessed script ranges answer
  -- of the definition, and so of every answer
  pub starred : Starred
