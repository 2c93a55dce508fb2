use Rattle.std.proofs.Common.{ne_eqb, arith}
use Rattle.families.specs.Family.{by_family}
use Rattle.families.proofs.by_family.Goals as goal

pub returns-in-1 : goal.returns-in-1
unfolding by_family
returns-in-1 c = simp c.in-1.is

pub returns-in-2 : goal.returns-in-2
unfolding by_family
returns-in-2 c = simp c.in-2.is

pub returns-in-3 : goal.returns-in-3
unfolding by_family
returns-in-3 c = simp c.in-3.is

pub returns-in-4 : goal.returns-in-4
unfolding by_family
returns-in-4 c = simp c.in-4.is

pub returns-in_default : goal.returns-in_default
unfolding by_family
returns-in_default c =
    let f = c.args.family in
    simp (ne_eqb f 1 (omega arith), ne_eqb f 2 (omega arith), ne_eqb f 3 (omega arith), ne_eqb f 4 (omega arith))
