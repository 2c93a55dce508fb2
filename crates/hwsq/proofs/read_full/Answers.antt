-- What each read consumed joins what was read before it.
use Rattle.std.proofs.Common.{◌≡◌, ℕ, ◌+◌, ◌-◌, ◌≤◌, List, ◌++◌, length, take, rules, sym, ap, ◌∙◌, subst}
use Rattle.std.proofs.lemmas.List.{length-take-le, take-append-le}
use Rattle.std.proofs.Math.Seq.{take-append-add}
use Rattle.std.proofs.KnownBytes.{Consumes-trans}
use Rattle.std.specs.Io.KnownBytes.{Consumes}
use borrow.Rule.Slice.PartMut.{put_mid, post_of}
use Rattle.hwsq.proofs.read_full.Goals as goal

put_after : (from room n : ℕ) (old new : List ℕ) → from ≤ length old → n ≤ length new
    → take from old ++ take n new ≡ take (from + n) (put_mid from room old new)
put_after from room n old new h k =
    let after = post_of from room old in
    ap (λ l. take from old ++ l) (sym (take-append-le n new after k))
    ∙ sym (take-append-add (take from old) (new ++ after) n)
    ∙ ap (λ m. take (m + n) (put_mid from room old new)) (length-take-le from old h)

pub loop-done-preserved : goal.loop-done-preserved
loop-done-preserved g c =
    let l = c.loop-done in
    let read = c.in_ok-n.ensures in
    let both = Consumes-trans _ _ _ _ _ l.invariant.read read.bytes.0 in
    let place = put_after l.done (length l.buf - l.done) c.in_ok-n.n l.buf c.read.new.buf l.invariant.within read.bound.0 in
    record { within = search rules; read = subst (Consumes _ _) place both }
