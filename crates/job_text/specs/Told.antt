-- Where a report starts, and a text put at its place.
use Rattle.std.specs.Prelude.{◌≡◌, ℕ, List, length}
use Rattle.job_text.specs.Put.{Stored}
use Rattle.job_text.specs.declared.report.Report.{Report}

-- a report with no text yet, in a buffer with these bytes
pub record Starts (bytes : List ℕ) (new : Report) : Type 0 where
  pub contents : new.out.now ≡ bytes
  pub size : length new.out.now ≡ 65536
  pub start : new.at ≡ 0

-- t was put at the place of the report, which is the place after it then, if it has room; the buffer is the one that was lent
pub record Told (old : Report) (t : List ℕ) (new : Report) : Type 0 where
  pub stored : Stored old.out.now old.at t new.at new.out.now
  pub lent : new.out.ghost_name ≡ old.out.ghost_name
