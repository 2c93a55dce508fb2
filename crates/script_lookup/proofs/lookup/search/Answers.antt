use mathlib.Core.Path.{◌≡◌}
use mathlib.Core.Bool.{or_comm}
use native.Mathlib.Omega.{arith}
use Rattle.script_lookup.proofs.SearchLaws.{searching_first, searching_done, searching_on, step_low, searches}
use Rattle.script_lookup.proofs.lookup.search.Goals as goal

pub loop-n-init : goal.loop-n-init
loop-n-init c = let a = c.args in searching_first a.ranges.now a.address.0

pub loop-n-preserved : goal.loop-n-preserved
loop-n-preserved c =
    let goes = searching_on c.loop-n.invariant c.loop-n-test.true in
    rw (c.reached.ensures, c.holds-listed.ensures, or_comm c.loop-n.listed, step_low) goes

pub returns : goal.returns
returns c =
    let a = c.args in
    let none : c.loop-n.n ≡ 0 = omega (arith, c.loop-n-test.false) in
    let done = searching_done (rw none at c.loop-n.invariant) in
    rw done (searches a.ranges.now a.address.0)
