-- Volts: the record of specs/Voltage from its answer. Assumes nothing.
use mathlib.Core.Path.{◌≡◌, refl, ◌∙◌}
use lib.Ieee.{Float, nan, add, mul, of_bits}
use Rattle.probe_floats.specs.Pattern.{float_of}
use Rattle.probe_gates.specs.declared.calibration.Calibration.{Calibration}
use Rattle.probe_gates.specs.Voltage.{volts_of, halfway, halfway_offset, Calibrates}

nan_volts : (calibration : Calibration) → volts_of calibration nan ≡ nan
unfolding add mul
nan_volts calibration = refl

-- the square of 1 + 2⁻¹² loses its 2⁻²⁴ before the offset takes the rest away
two_roundings : volts_of (record { gain = halfway; offset = halfway_offset }) halfway ≡ float_of 0
unfolding add mul of_bits
two_roundings = refl

pub calibrates : (calibration : Calibration) (raw r : Float) → r ≡ volts_of calibration raw → Calibrates calibration raw r
calibrates calibration raw r answer = record {
  answered = answer;
  lost = λ h. answer ∙ rw h (nan_volts calibration);
  apart = λ h g o. answer ∙ rw (h, g, o) two_roundings;
}
