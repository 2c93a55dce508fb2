use Rattle.capi_host.proofs.Passing.{fresh_passed}
use Rattle.capi_host.proofs.accesses.hwsq_fresh.Goals as goal

pub returns : goal.returns
returns c = fresh_passed c.fresh_state.ensures c.from.ensures
