use mathlib.Core.Path.{◌≡◌, sym, ◌∙◌, subst}
use mathlib.Core.Bool.{Bool, true, false, not}
use lib.Dec.{T}
use lib.Ieee.{is_nan}
use Rattle.probe_floats.proofs.Patterns.{differs, to_pattern}
use Rattle.probe_floats.proofs.pattern_of.Goals as goal

pub float_to_bits-result : goal.float_to_bits-result
float_to_bits-result c = subst (λ (t : Bool). T (not t)) (sym c.if-x.false ∙ differs c.args.x) tt

pub returns-then-x : goal.returns-then-x
returns-then-x c =
    let x = c.args.x in
    let n : is_nan x ≡ true = sym (differs x) ∙ c.if-x.true in
    to_pattern x _ c.well_formed.0.1 (rw n)

pub returns-else-x : goal.returns-else-x
returns-else-x c =
    let x = c.args.x in
    let n : is_nan x ≡ false = sym (differs x) ∙ c.if-x.false in
    to_pattern x _ c.well_formed.0.1 (rw n)
