use mathlib.Core.Path.{sym, ◌∙◌}
use Rattle.probe_gates.proofs.Readings.{samples_of}
use Rattle.probe_gates.proofs.sampling.sample.Goals as goal

pub returns-then-not-usable : goal.returns-then-not-usable
returns-then-not-usable c =
    samples_of c.args.gate c.args.calibration c.args.raw _
    (rw (sym c.usable.ensures.answered ∙ c.if-not-usable.true))

pub returns : goal.returns
returns c =
    samples_of c.args.gate c.args.calibration c.args.raw _
    (simp (
      sym c.usable.ensures.answered ∙ c.if-not-usable.false,
      c.read.ensures.answered,
      c.volts-volts.ensures.answered,
      c.float_of.ensures.answered,
    ))
