use mathlib.Core.Path.{ap, ◌∙◌}
use native.Mathlib.Omega.{arith}
use Rattle.isa_fetch.specs.Fetch.{reason_of}
use Rattle.audit_verdict.specs.Auditor.{fault_of}
use Rattle.audit_script.proofs.Walking.{going_first, going_none, going_inside, going_fits, going_exit, going_bad, going_on}
use Rattle.audit_script.proofs.auditor.walk.Goals as goal

pub loop-instruction-init : goal.loop-instruction-init
loop-instruction-init c = going_first _ _ c.requires c.know_nothing-known.ensures

pub returns-in_default : goal.returns-in_default
returns-in_default c =
    let why = c.reason_of.ensures ∙ ap reason_of c.in_default.is in
    going_none c.loop-instruction.invariant c.fetch-found.ensures c.in_default.is (c.fault_of.ensures.value ∙ ap fault_of why)

pub know_next-known-requires : goal.know_next-known-requires
know_next-known-requires c = going_fits c.loop-instruction.invariant c.fetch-found.ensures c.in-Ok.is c.action_of-action.ensures

pub loop-instruction-smaller : goal.loop-instruction-smaller
loop-instruction-smaller c = omega (arith, going_inside c.loop-instruction.invariant c.fetch-found.ensures c.in-Ok.is c.action_of-action.ensures)

pub loop-instruction-preserved : goal.loop-instruction-preserved
loop-instruction-preserved c =
    going_on c.loop-instruction.invariant c.fetch-found.ensures c.in-Ok.is c.action_of-action.ensures c.judge.ensures c.in-Fine.is c.know_next-known.ensures

pub returns-in-Exit : goal.returns-in-Exit
returns-in-Exit c = going_exit c.loop-instruction.invariant c.fetch-found.ensures c.in-Ok.is c.action_of-action.ensures c.judge.ensures c.in-Exit.is

pub returns-in-Bad : goal.returns-in-Bad
returns-in-Bad c = going_bad c.loop-instruction.invariant c.fetch-found.ensures c.in-Ok.is c.action_of-action.ensures c.judge.ensures c.in-Bad.is
