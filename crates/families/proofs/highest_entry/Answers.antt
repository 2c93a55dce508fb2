use Rattle.families.proofs.Table.{highest, tells}
use Rattle.families.proofs.highest_entry.Goals as goal

pub returns : goal.returns
returns c = tells (highest _) c.by_family.ensures
