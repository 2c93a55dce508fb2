use Rattle.std.proofs.Common.{rules, ◌∙◌, get_or}
use Rattle.std.proofs.lemmas.Iterator.Search.{any_from_yields_List}
use Rattle.families.specs.Family.{within}
use Rattle.script.proofs.RangeLaws.{pairs_yield, listed_pairs}
use Rattle.script.proofs.ranges.listed.Goals as goal

pub returns : goal.returns
returns c =
    let come = c.chunks_exact.ensures in
    any_from_yields_List (λ pair. within (get_or pair 0 0) c.args.address.0 (get_or pair 1 0)) _ _ _ c.any.ensures.ran
    (pairs_yield c.args.ranges.now c.chunks_exact.result come.rest come.size) (λ x b q k. search rules)
    ∙ listed_pairs c.args.ranges.now c.args.address.0
