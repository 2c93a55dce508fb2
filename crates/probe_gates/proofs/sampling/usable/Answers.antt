use mathlib.Core.Path.{sym, ◌∙◌}
use Rattle.probe_gates.proofs.Refusals.{admits, levels_fits}
use Rattle.probe_gates.proofs.sampling.usable.Goals as goal

pub returns-in-Normal : goal.returns-in-Normal
returns-in-Normal c =
    admits c.args.gate c.args.calibration _
    (simp (sym c.both_finite.ensures ∙ c.if-not-both_finite.false, levels_fits c.in-Normal.is) c.levels_fit.ensures)
