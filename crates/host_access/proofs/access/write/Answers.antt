use Rattle.std.proofs.Common.{rules}
use Rattle.host_registers.proofs.AccessLaws.{in_place}
use Rattle.host_access.proofs.Outcomes.{written_as}
use Rattle.host_access.proofs.access.write.Goals as goal

pub returns-in_err-write_outcome : goal.returns-in_err-write_outcome
returns-in_err-write_outcome c = in_place _ _ _ (written_as c.args.state.now _ _ c.register_at-register.ensures (search rules) (search rules))

pub returns : goal.returns
returns c = in_place _ _ _ (written_as c.args.state.now _ _ c.register_at-register.ensures (search rules) (search rules))
