use Rattle.families.proofs.Table.{code_ram, tells}
use Rattle.families.proofs.code_size.Goals as goal

pub returns : goal.returns
returns c = tells (code_ram _) c.by_family.ensures
