use Rattle.capi_host.proofs.Passing.{write_passed}
use Rattle.capi_host.proofs.accesses.hwsq_write.Goals as goal

pub returns : goal.returns
returns c = write_passed c.from.ensures c.write_register.ensures c.from-2.ensures
