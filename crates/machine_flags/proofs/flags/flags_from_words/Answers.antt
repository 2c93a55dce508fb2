use native.Mathlib.Omega.{arith}
use Rattle.machine_flags.proofs.WordLaws.{made_of}
use Rattle.machine_flags.proofs.flags.flags_from_words.Goals as goal

pub returns : goal.returns
returns c = made_of _ _ (omega arith) (omega arith)
