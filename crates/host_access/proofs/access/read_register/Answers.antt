use Rattle.std.proofs.Common.{rules}
use Rattle.host_registers.specs.Access.{read_of}
use Rattle.host_registers.proofs.AccessLaws.{host_reads}
use Rattle.host_access.proofs.access.read_register.Goals as goal

pub returns-then-not-known_family : goal.returns-then-not-known_family
unfolding read_of
returns-then-not-known_family c = host_reads _ _ (search rules)

pub returns : goal.returns
unfolding read_of
returns c = host_reads _ _ (search rules)
