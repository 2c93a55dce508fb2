use Rattle.families.proofs.Table.{slots, tells}
use Rattle.families.proofs.slot_count.Goals as goal

pub returns : goal.returns
returns c = tells (slots _) c.by_family.ensures
