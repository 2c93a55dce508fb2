-- A probe's sample with floats as bit patterns.
use Rattle.std.specs.Prelude.{ℕ, ◌≡◌, false, cond, ltb, Result, Ok, Err}
use Rattle.probe_floats.specs.Pattern.{float_of, pattern_of, nan_pattern}
use Rattle.probe_gates.specs.Kind.{gate_of}
use Rattle.probe_gates.specs.Refusal.{unusable}
use Rattle.probe_gates.specs.Sampling.{sample_of, raw_volts, Samples}
use Rattle.probe_gates.specs.declared.calibration.Calibration.{Calibration}
use Rattle.probe_gates.specs.declared.gate.Reading.{Reading}
use Rattle.probe_gates.specs.declared.sampling.Unusable.{Unusable}
use Rattle.capi_probe.specs.declared.samples.SampleReply.{SampleReply}

abbrev pub calibration_of : ℕ → ℕ → Calibration
calibration_of gain offset = record { gain = float_of gain; offset = float_of offset }

abbrev pub reading_code : Reading → ℕ
reading_code Reading.Zero = 0
reading_code Reading.One = 1
reading_code Reading.Missing = 2

-- a refused sample is no reading, and has NaN for volts, since 0.0 is a voltage
abbrev pub unsampled_reply : SampleReply
unsampled_reply = record { refusal = unusable; reading = 2; volts = nan_pattern }

abbrev pub sampled_reply : Result Reading Unusable → ℕ → SampleReply
sampled_reply (Ok reading) volts = record { refusal = 0; reading = reading_code reading; volts = volts }
sampled_reply (Err why) volts = unsampled_reply

-- a number that names no gate is refused as one that does not fit
unfoldable pub sample_reply : ℕ → ℕ → ℕ → ℕ → ℕ → ℕ → SampleReply
sample_reply gate low high gain offset raw =
    cond (ltb 2 gate) unsampled_reply
    (sampled_reply (sample_of (gate_of gate (float_of low) (float_of high)) (calibration_of gain offset) raw)
    (pattern_of (raw_volts (calibration_of gain offset) raw)))

-- the reply tells the sample, of which all holds that a sample promises
pub record HwsqSample (gate low high gain offset raw : ℕ) (reply : SampleReply) : Type 0 where
  pub answered : reply ≡ sample_reply gate low high gain offset raw
  pub samples : ltb 2 gate ≡ false
      → Samples (gate_of gate (float_of low) (float_of high)) (calibration_of gain offset) raw
      (sample_of (gate_of gate (float_of low) (float_of high)) (calibration_of gain offset) raw)
