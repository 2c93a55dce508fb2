use Rattle.families.proofs.Table.{pauses, tells}
use Rattle.families.proofs.pauses_memory.Goals as goal

pub returns : goal.returns
returns c = tells (pauses _) c.between.ensures
