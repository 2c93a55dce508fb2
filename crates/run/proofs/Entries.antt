-- The lent entries that writes fill: two for each, in order. Assumes nothing.
use Prim.Native.Nat.{ℕ, ◌*◌}
use mathlib.Core.Path.{◌≡◌, refl, sym, ap, ◌∙◌}
use mathlib.Core.List.{List, [], ◌∷◌, ◌++◌, IsPrefix}
use native.Mathlib.Omega.{arith}
use lib.ListN.{length, take, drop}
use lib.Seq.{take_at}
use Rattle.run.specs.Run.{Write}
use Rattle.run.specs.Replay.{entries_of, written_into}

pub entries_length : (writes : List Write) → length (entries_of writes) ≡ 2 * length writes
entries_length [] = refl
entries_length (w ∷ writes) = omega (arith, entries_length writes)

pub entries_append : (writes more : List Write) → entries_of (writes ++ more) ≡ entries_of writes ++ entries_of more
entries_append [] more = refl
entries_append (w ∷ writes) more = ap (λ (l : List ℕ). w.address ∷ w.word ∷ l) (entries_append writes more)

-- those that writes fill, whatever was lent
pub written_entries : (lent : List ℕ) (writes : List Write) → take (2 * length writes) (written_into lent writes) ≡ entries_of writes
written_entries lent writes = take_at (entries_of writes) (drop (2 * length writes) lent) (2 * length writes) (entries_length writes)

pub entries_prefix : (writes writes' : List Write) → IsPrefix writes writes' → IsPrefix (entries_of writes) (entries_of writes')
entries_prefix writes writes' (more, e) = (entries_of more, sym (entries_append writes more) ∙ ap entries_of e)
