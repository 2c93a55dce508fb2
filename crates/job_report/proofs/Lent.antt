-- The report among the lent bytes, as a part that a caller can hand on. Assumes nothing.
use Prim.Native.Nat.{ℕ, ◌≤◌}
use mathlib.Core.Path.{◌≡◌, ap, sym, ◌∙◌}
use mathlib.Core.List.{List}
use native.Mathlib.Omega.{arith}
use lib.ListN.{length, take, length-take}
use Rattle.job_report.specs.Promises.{Reports}

module _ {bytes old new : List ℕ} {answer : ℕ} (reports : Reports bytes old new answer) where
  -- a count of them, in the form in which `&out[..answer]` asks for it
  pub counts : answer ≡ length (take answer new)
  counts = reports.answered ∙ sym (ap length reports.counted.1)

  pub lies : answer ≤ length new
  lies = omega (arith, counts, length-take answer new)
