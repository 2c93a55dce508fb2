-- What four bytes stored in one call leave. Assumes nothing.
use Rattle.std.proofs.Common.{◌≡◌, ℕ, ◌+◌, ◌-◌, ◌≤◌, List, [], ◌∷◌, length, replicate, drop-drop, append_assoc, arith}
use Rattle.std.proofs.lemmas.Grind.{common_steps}
use Rattle.std.proofs.lemmas.List.Edits.{sets, sets-eq}
use Rattle.std.specs.Int.{w32, to_le_bytes}
use borrow.Rule.Slice.PartMut.{put_mid, mid_of}
use Rattle.isa.specs.Writer.{le_bytes}

pub word_bytes : (word : ℕ) → to_le_bytes w32 word ≡ le_bytes 4 word
word_bytes word = grind arith

pub stored : (old part vs : List ℕ) (at k : ℕ) → at + length vs ≤ length old → k ≡ length vs → part ≡ vs → put_mid at k old part ≡ sets old at vs
stored old part vs at k fits n e =
    let whole = sets-eq vs old at fits in
    rw (e, n, whole, drop-drop (length vs) at old, append_assoc)

-- four of one value
pub four_of : (old : List ℕ) (at value : ℕ) → at + 4 ≤ length old
    → replicate (length (mid_of at (at + 4 - at) old)) value ≡ value ∷ value ∷ value ∷ value ∷ []
four_of old at value fits =
    let four : length (mid_of at (at + 4 - at) old) ≡ 4 = grind (arith, common_steps) in
    rw four
