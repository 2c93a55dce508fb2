use mathlib.Core.Path.{refl}
use Rattle.probe_gates.proofs.Volts.{calibrates}
use Rattle.probe_gates.proofs.calibration.Calibration.volts.Goals as goal

pub returns : goal.returns
returns c = calibrates c.args.self c.args.raw _ refl
