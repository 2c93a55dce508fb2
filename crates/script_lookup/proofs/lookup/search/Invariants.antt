use Rattle.script_lookup.proofs.SearchLaws.{Searching}
use Rattle.script_lookup.proofs.lookup.search.Given as goal

abbrev pub invariant-loop-n : goal.invariant-loop-n
invariant-loop-n l = Searching l.ranges l.wanted l.low l.n (record { listed = l.listed; looks = l.looks })

abbrev pub decreases-loop-n : goal.decreases-loop-n
decreases-loop-n l = l.n
