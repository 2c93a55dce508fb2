use lib.Ieee.{of_bits, neg, nan_bits}
use mathlib.Core.Path.{◌∙◌}
use Rattle.probe_floats.proofs.Patterns.{above_lowest, not_above_lowest}
use Rattle.probe_floats.proofs.is_finite.Goals as goal

pub float_from_bits-infinity : goal.float_from_bits-infinity
unfolding nan_bits
float_from_bits-infinity c = tt

pub returns-then-infinity-x : goal.returns-then-infinity-x
unfolding of_bits neg
returns-then-infinity-x c = above_lowest c.args.x c.if-infinity-x.true

pub returns-else-infinity-x : goal.returns-else-infinity-x
unfolding of_bits neg
returns-else-infinity-x c = c.if-infinity-x.false ∙ not_above_lowest c.args.x c.if-infinity-x.false
