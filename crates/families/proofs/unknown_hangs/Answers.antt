use Rattle.std.proofs.Common.{eq-eqb, ne_eqb}
use Rattle.families.proofs.Table.{hangs, tells}
use Rattle.families.proofs.unknown_hangs.Goals as goal

pub returns-then-family-eq2 : goal.returns-then-family-eq2
returns-then-family-eq2 c = tells (hangs _) (simp (eq-eqb _ _ c.if-family-eq2.true))

pub returns-else-family-eq2 : goal.returns-else-family-eq2
returns-else-family-eq2 c = tells (hangs _) (simp (ne_eqb _ _ c.if-family-eq2.false))
