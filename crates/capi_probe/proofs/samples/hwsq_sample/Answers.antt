use mathlib.Core.Path.{◌∙◌}
use Rattle.capi_probe.proofs.Passing.{sample_refused, sample_passed}
use Rattle.capi_probe.proofs.samples.hwsq_sample.Goals as goal

pub returns-then-gate-gt-DEAD : goal.returns-then-gate-gt-DEAD
returns-then-gate-gt-DEAD c = sample_refused c.if-gate-gt-DEAD.true c.unsampled.ensures

pub returns : goal.returns
returns c =
    sample_passed c.if-gate-gt-DEAD.false (simp (c.of_kind-gate.ensures, c.float_of-3.ensures.answered, c.float_of-4.ensures.answered))
    (simp (c.float_of.ensures.answered, c.float_of-2.ensures.answered))
    c.sample-sampled.ensures
    (c.pattern_of.ensures.answered ∙ simp (c.volts-volts.ensures.answered, c.float_of-5.ensures.answered))
    c.sampled_reply.ensures
