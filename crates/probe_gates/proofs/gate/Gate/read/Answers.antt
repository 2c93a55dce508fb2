use mathlib.Core.Path.{sym, ◌∙◌}
use Rattle.probe_gates.proofs.Readings.{reads_of}
use Rattle.probe_gates.proofs.gate.Gate.read.Goals as goal

pub returns-in-Normal : goal.returns-in-Normal
returns-in-Normal c =
    reads_of c.args.self c.args.volts _
    (simp (sym c.is_finite.ensures ∙ c.if-not-is_finite.false, c.in-Normal.is) c.at_levels.ensures)

pub returns-in-Inverted : goal.returns-in-Inverted
returns-in-Inverted c =
    reads_of c.args.self c.args.volts _
    (simp (sym c.is_finite.ensures ∙ c.if-not-is_finite.false, c.in-Inverted.is) c.at_levels-in-Inverted.ensures)
