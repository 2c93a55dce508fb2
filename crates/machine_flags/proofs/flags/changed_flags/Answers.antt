use Rattle.words.proofs.BitLaws.{one_shl}
use Rattle.machine_flags.proofs.FlagLaws.{changes}
use Rattle.machine_flags.specs.Flags.{values_after, enables_after}
use borrow.Author.Tests.{lt-ltb}
use native.Mathlib.Omega.{arith}
use Rattle.machine_flags.proofs.flags.changed_flags.Goals as goal

pub returns-in-Unset : goal.returns-in-Unset
unfolding values_after enables_after
returns-in-Unset c = changes _ _ _ _ (rw (
  c.in-Unset.is,
  lt-ltb c.args.flag 32 (omega arith),
  one_shl c.args.flag (omega arith),
))

pub returns-in-Set1 : goal.returns-in-Set1
unfolding values_after enables_after
returns-in-Set1 c = changes _ _ _ _ (rw (
  c.in-Set1.is,
  lt-ltb c.args.flag 32 (omega arith),
  one_shl c.args.flag (omega arith),
))

pub returns-in-Set0 : goal.returns-in-Set0
unfolding values_after enables_after
returns-in-Set0 c = changes _ _ _ _ (rw (
  c.in-Set0.is,
  lt-ltb c.args.flag 32 (omega arith),
  one_shl c.args.flag (omega arith),
))
