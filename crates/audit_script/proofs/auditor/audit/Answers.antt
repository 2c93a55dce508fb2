use mathlib.Core.Path.{sym, ◌∙◌}
use Rattle.audit_script.proofs.Audited.{no_script, no_ranges, walked}
use Rattle.audit_script.proofs.auditor.audit.Goals.{then-not-fits-via-then-not-fits, then-not-fits-via-else-not-fits+then-not-ranges_fit}
use Rattle.audit_script.proofs.auditor.audit.Goals as goal

pub returns-then-not-fits : goal.returns-then-not-fits
returns-then-not-fits c = elim c.then-not-fits.branch [
  | then-not-fits-via-then-not-fits w ↦ no_script _ _ c.are_bytes.ensures (sym c.fits.ensures ∙ w.if-not-fits.true)
  | then-not-fits-via-else-not-fits+then-not-ranges_fit w ↦ no_ranges _ _ c.are_bytes.ensures (sym w.ranges_fit.ensures ∙ w.if-not-ranges_fit.true)
]

pub returns : goal.returns
returns c =
    walked _ _ c.are_bytes.ensures (sym c.fits.ensures ∙ c.if-not-fits.false) (sym c.ranges_fit.ensures ∙ c.if-not-ranges_fit.false) c.walk.ensures
