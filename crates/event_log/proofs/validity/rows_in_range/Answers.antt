use Rattle.std.proofs.Common.{rules, ◌∙◌}
use Rattle.std.proofs.lemmas.Iterator.{YieldsList-from_slice}
use Rattle.std.proofs.lemmas.Iterator.Search.{all_from_yields_List}
use Rattle.event_log.specs.Validity.{clocks_in_range}
use Rattle.event_log.proofs.Ranges.{all_in_range}
use Rattle.event_log.proofs.validity.rows_in_range.Goals as goal

pub returns : goal.returns
returns c =
    all_from_yields_List clocks_in_range _ _ _ c.all.ensures.ran (YieldsList-from_slice c.args.clocks.now cc) (λ x b q k. search rules)
    ∙ all_in_range c.args.clocks.now
