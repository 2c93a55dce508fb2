use Rattle.capi_machine.proofs.Passing.{step_passed}
use Rattle.capi_machine.proofs.stepping.hwsq_step.Goals as goal

pub returns : goal.returns
returns c =
    step_passed c.from.ensures c.slot_named.ensures c.step.ensures c.from-2.ensures
