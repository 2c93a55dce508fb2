-- From what a call promises of its answer to what the call with a C name promises of its reply. Assumes nothing.
use Prim.Native.Nat.{ℕ, ◌≤◌, ◌<◌}
use mathlib.Core.Path.{◌≡◌, sym, ap, subst, ◌∙◌}
use borrow.Author.Tests.{lt-ltb, le-ltb}
use Rattle.probe_floats.proofs.Comparison.{never}
use Rattle.std.specs.Prelude.{Result}
use Rattle.probe_floats.specs.Pattern.{float_of, pattern_of}
use Rattle.probe_gates.specs.Kind.{gate_of}
use Rattle.probe_gates.specs.Sampling.{sample_of, raw_volts, Samples}
use Rattle.probe_gates.specs.declared.calibration.Calibration.{Calibration}
use Rattle.probe_gates.specs.declared.gate.Gate.{Gate}
use Rattle.probe_gates.specs.declared.gate.Reading.{Reading}
use Rattle.probe_gates.specs.declared.sampling.Unusable.{Unusable}
use Rattle.capi_probe.specs.Samples.{calibration_of, sampled_reply, unsampled_reply, sample_reply, HwsqSample}
use Rattle.capi_probe.specs.declared.samples.SampleReply.{SampleReply}

module _ {gate low high gain offset raw : ℕ} where
  pub sample_refused : {reply : SampleReply} → 2 < gate → reply ≡ unsampled_reply → HwsqSample gate low high gain offset raw reply
  unfolding sample_reply
  sample_refused above told = let t = lt-ltb 2 gate above in record { answered = told ∙ rw t; samples = λ h. never (sym t ∙ h) }

  pub sample_passed : {g : Gate} {k : Calibration} {answer : Result Reading Unusable} {volts : ℕ} {reply : SampleReply}
      → gate ≤ 2 → g ≡ gate_of gate (float_of low) (float_of high) → k ≡ calibration_of gain offset
      → Samples g k raw answer → volts ≡ pattern_of (raw_volts k raw) → reply ≡ sampled_reply answer volts → HwsqSample gate low high gain offset raw reply
  unfolding sample_reply
  sample_passed {g} {k} {answer} {volts} below same_gate same_calibration p v told =
      let q : Samples (gate_of gate (float_of low) (float_of high)) (calibration_of gain offset) raw answer =
      subst (λ (x : Gate). Samples x (calibration_of gain offset) raw answer) same_gate
      (subst (λ (x : Calibration). Samples g x raw answer) same_calibration p) in
      let w : volts ≡ pattern_of (raw_volts (calibration_of gain offset) raw) = v ∙ ap (λ (x : Calibration). pattern_of (raw_volts x raw)) same_calibration in
      let t = le-ltb 2 gate below in
      record {
        answered =
            told ∙ ap (λ (a : Result Reading Unusable). sampled_reply a volts) q.answered
            ∙ rw t (ap (sampled_reply (sample_of (gate_of gate (float_of low) (float_of high)) (calibration_of gain offset) raw)) w);
        samples = λ h. subst (Samples (gate_of gate (float_of low) (float_of high)) (calibration_of gain offset) raw) q.answered q;
      }
