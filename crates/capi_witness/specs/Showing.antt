-- The verdict and the log that shows it, told as numbers.
use Rattle.std.specs.Prelude.{ℕ, ◌≡◌, List, Ok, Err}
use Rattle.refusals.specs.Number.{fault_number, unshowable_number}
use Rattle.isa.specs.declared.addresses.CodeAddress.{CodeAddress}
use Rattle.event_log.specs.Log.{Log}
use Rattle.script.specs.Script.{Script}
use Rattle.audit_verdict.specs.Witness.{second_addr, second_data}
use Rattle.audit_verdict.specs.declared.verdicts.Verdict.{Verdict}
use Rattle.audit_witness.specs.Witnesses.{WitnessAnswer, witness_of, Witnesses}
use Rattle.audit_witness.specs.declared.showing.Shown.{Shown}
use Rattle.capi_witness.specs.declared.showing.WitnessReply.{WitnessReply}

-- a verdict's number, its place and, of a pass, its counts; the second start of 4 and 5 by that number
abbrev pub told_reply : ℕ → CodeAddress → ℕ → ℕ → Shown → WitnessReply
told_reply verdict place count clocks shown = record {
  refusal = 0;
  verdict = verdict;
  addr = second_addr verdict;
  «data» = second_data verdict;
  place = place.0;
  count = count;
  clocks = clocks;
  rows = shown.rows;
  steps = shown.steps;
  writes = shown.writes;
}

abbrev pub verdict_reply : Verdict → Shown → WitnessReply
verdict_reply (Verdict.Pass place count writes clocks) shown = told_reply 0 place count clocks shown
verdict_reply (Verdict.Fault fault place) shown = told_reply (fault_number fault) place 0 0 shown

abbrev pub shown_reply : Shown → WitnessReply
shown_reply shown = verdict_reply shown.verdict shown

-- refused: there is no verdict, and 0 would be a pass
abbrev pub unshown_reply : ℕ → WitnessReply
unshown_reply refusal = record { refusal = refusal; verdict = refusal; addr = 0; «data» = 0; place = 0; count = 0; clocks = 0; rows = 0; steps = 0; writes = 0 }

abbrev pub witness_reply : WitnessAnswer → WitnessReply
witness_reply (Ok shown) = shown_reply shown
witness_reply (Err why) = unshown_reply (unshowable_number why)

-- the reply tells the answer, of which all holds that `witness` promises, of the columns too
pub record HwsqWitness (script : Script) (ranges : List ℕ) (lent new : Log) (reply : WitnessReply) : Type 0 where
  pub answered : reply ≡ witness_reply (witness_of script ranges lent)
  pub witnesses : Witnesses script ranges lent new (witness_of script ranges lent)
