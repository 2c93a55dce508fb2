use Prim.Native.Nat.{ℕ, ◌+◌, ◌≤◌}
use mathlib.Core.Path.{◌≡◌}
use mathlib.Core.List.{List}
use native.Mathlib.Omega.{arith}
use lib.ListN.{length, get_or-eq_default}
use Rattle.words.specs.Numbers.{byte_at, word_at}
use Rattle.words.proofs.word_at.Goals as goal

past : (bytes : List ℕ) (at : ℕ) → length bytes ≤ at → byte_at bytes at ≡ 0
past bytes at h = get_or-eq_default bytes 0 h

pub returns-then-bytes-at : goal.returns-then-bytes-at
unfolding word_at
returns-then-bytes-at c =
    let a = c.args in
    let bytes = a.bytes.now in
    let at = a.at in
    let h = c.if-bytes-at.true in
    omega (arith, past bytes at h, past bytes (at + 1) (omega arith), past bytes (at + 2) (omega arith), past bytes (at + 3) (omega arith))

pub returns : goal.returns
unfolding word_at
returns c =
    rw (c.word.ensures, c.byte_at-d.ensures, c.byte_at-c.ensures, c.byte_at-b.ensures)
