use Rattle.std.proofs.Common.{ℕ, ◌≡◌, ◌<◌, true, ltb, arith}
use Rattle.std.proofs.lemmas.Bool.{ltb-true}
use Rattle.families.proofs.Tests.{both_left}
use Rattle.words.proofs.BitLaws.{one_shl}
use Rattle.audit_verdict.specs.Auditor.{can_release}
use Rattle.audit_verdict.proofs.WitnessLog.{row_mask_lem}
use Rattle.audit_witness.proofs.rows.event_row.Goals as goal

-- an event that can release a wait has a bit of a word
event_below : (event value : ℕ) → can_release event value ≡ true → event < 32
unfolding can_release
event_below event value e = ltb-true event 32 (both_left (ltb event 32) (ltb value 2) e)

pub overflow_shl-bit : goal.overflow_shl-bit
overflow_shl-bit c = event_below c.args.event c.args.value c.requires

pub overflow_mul-result : goal.overflow_mul-result
overflow_mul-result c =
    let h = (row_mask_lem c.args.event c.args.value c.requires).1 in
    rw (one_shl c.args.event (event_below c.args.event c.args.value c.requires)) (omega (arith, h))

pub returns : goal.returns
returns c = rw (one_shl c.args.event (event_below c.args.event c.args.value c.requires))
