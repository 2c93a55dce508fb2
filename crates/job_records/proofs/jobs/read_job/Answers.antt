use Prim.Native.Nat.{ℕ}
use mathlib.Core.Path.{◌≡◌, sym, subst, ◌∙◌}
use native.Mathlib.Omega.{arith}
use borrow.Author.Tests.{lt-ltb, le-ltb}
use Rattle.job_records.specs.Reader.{max_bytes, job_read_of, Sound}
use Rattle.job_records.specs.Job.{empty_job}
use Rattle.job_records.proofs.Counting.{counts_empty}
use Rattle.job_records.proofs.Growth.{going_empty, going_sound}
use Rattle.job_records.proofs.jobs.read_job.Goals as goal

late : ◌≡◌ {A = ℕ} 31 0 → ⊥
late e = omega arith

pub returns-then-bytes-gt-MAX_BYTES : goal.returns-then-bytes-gt-MAX_BYTES
unfolding job_read_of
returns-then-bytes-gt-MAX_BYTES c = record {
  answered = simp (lt-ltb _ _ c.if-bytes-gt-MAX_BYTES.true, c.empty_job.ensures);
  sound = subst Sound (sym c.empty_job.ensures) (going_sound empty_job going_empty (counts_empty max_bytes));
  started = λ z. absurd (late z);
  used_up = λ z. absurd (late z);
}

pub returns : goal.returns
unfolding job_read_of
returns c = record {
  answered = c.read_records.ensures.answered ∙ simp (le-ltb _ _ c.if-bytes-gt-MAX_BYTES.false);
  sound = c.read_records.ensures.sound;
  started = c.read_records.ensures.started;
  used_up = c.read_records.ensures.used_up;
}
