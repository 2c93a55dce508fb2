-- Laws of texts in a buffer: texts put one after the other are one text.
use mathlib.Core.Path.{◌≡◌, refl, ap, sym, ◌∙◌}
use mathlib.Core.List.{List, [], ◌++◌, append_assoc, append-nil}
use Prim.Native.Nat.{ℕ, ◌+◌, ◌-◌, ◌≤◌, ◌<◌}
use native.Mathlib.Nat.{add_assoc, add-zero}
use native.Mathlib.Decide.{dec_lt}
use native.Mathlib.Omega.{arith}
use lib.ListN.{length, take, drop, length-append, length-drop, take-append-drop}
use lib.Seq.{paste, take-length, take_at, drop_at, length-take-le, drop-drop}
use borrow.Author.Tests.{le-leb, lt-leb}
use borrow.Rule.Slice.PartMut.{put_mid}
use Rattle.std.proofs.lemmas.Slice.{put_mid-paste}
use Rattle.job_text.specs.Put.{put, after, Stored, Puts}

pub put_room : (d : List ℕ) (at : ℕ) (t : List ℕ) → at + length t ≤ length d → put d at t ≡ take at d ++ t ++ drop (at + length t) d
unfolding put
put_room d at t h = rw (le-leb (at + length t) (length d) h)

pub after_room : (d : List ℕ) (at : ℕ) (t : List ℕ) → at + length t ≤ length d → after d at t ≡ at + length t
unfolding after
after_room d at t h = rw (le-leb (at + length t) (length d) h)

-- a text that has no room
pub full : (d : List ℕ) (at : ℕ) (t : List ℕ) → length d < at + length t → (at ≡ after d at t) × (d ≡ put d at t)
unfolding put after
full d at t h = (rw (lt-leb (at + length t) (length d) h), rw (lt-leb (at + length t) (length d) h))

-- all of a text pasted is the text put
pub put_paste : (d : List ℕ) (at : ℕ) (t : List ℕ) → at + length t ≤ length d → paste d at t (length t) ≡ put d at t
put_paste d at t h = ap (λ (u : List ℕ). take at d ++ u ++ drop (at + length t) d) (take-length t) ∙ sym (put_room d at t h)

-- a text copied over its part of the buffer is the text put
pub copied : (d : List ℕ) (at : ℕ) (t u : List ℕ) → u ≡ t → at + length t ≤ length d → put_mid at (at + length t - at) d u ≡ put d at t
copied d at t u e h = put_mid-paste at (at + length t - at) d u t (length t) e (omega arith) refl ∙ put_paste d at t h

-- a text that has room changes no length
pub length_room : (d : List ℕ) (at : ℕ) (t : List ℕ) → at + length t ≤ length d → length (put d at t) ≡ length d
length_room d at t h =
    ap length (put_room d at t h) ∙ simp (length-append, length-drop) (omega (arith, length-take-le at d (omega arith)))

-- one text right after another is the two as one
pub put_put : (d : List ℕ) (at : ℕ) (t u : List ℕ)
    → at + length (t ++ u) ≤ length d
    → put (put d at t) (at + length t) u ≡ put d at (t ++ u)
put_put d at t u room =
    let n = at + length t in
    let both : n + length u ≤ length d = omega (arith, length-append t u) in
    let here = put_room d at t (omega arith) in
    let head : length (take at d ++ t) ≡ n = length-append (take at d) t ∙ ap (λ (k : ℕ). k + length t) (length-take-le at d (omega arith)) in
    let first : take n (put d at t) ≡ take at d ++ t = ap (take n) here ∙ take_at (take at d ++ t) (drop n d) n head in
    let rest : drop (n + length u) (put d at t) ≡ drop (at + length (t ++ u)) d =
    ap (drop (n + length u)) here
    ∙ sym (drop-drop (length u) n (take at d ++ t ++ drop n d))
    ∙ ap (λ (l : List ℕ). drop (length u) l) (drop_at (take at d ++ t) (drop n d) n head)
    ∙ drop-drop (length u) n d
    ∙ ap (λ (k : ℕ). drop k d) (add_assoc at (length t) (length u) ∙ ap (λ (k : ℕ). at + k) (sym (length-append t u))) in
    put_room (put d at t) n u (omega (arith, length_room d at t (omega arith)))
    ∙ ap (λ (l : List ℕ). l ++ u ++ drop (n + length u) (put d at t)) first
    ∙ ap (λ (l : List ℕ). (take at d ++ t) ++ u ++ l) rest
    ∙ ap (λ (l : List ℕ). l ++ drop (at + length (t ++ u)) d) (append_assoc (take at d) t u)
    ∙ sym (put_room d at (t ++ u) room)

-- nor does one that has none
length_put : (d : List ℕ) (at : ℕ) (t : List ℕ) → length (put d at t) ≡ length d
length_put d at t =
    elim (dec_lt (length d) (at + length t)) as (λ _. length (put d at t) ≡ length d) [
      | yes h ↦ ap length (sym (full d at t h).1)
      | no h ↦ length_room d at t (omega arith)
    ]

-- the contract, from what the code did
pub puts : (d : List ℕ) (at : ℕ) (t : List ℕ) (r : ℕ) (e : List ℕ)
    → length d ≡ 65536
    → r ≡ after d at t
    → e ≡ put d at t
    → Puts d at t r e
puts d at t r e size p q =
    let same = ap length q ∙ length_put d at t in
    record {
      answered = p;
      contents = q;
      stored = λ room. (p ∙ after_room d at t room, q);
      joins = λ u both. join u both;
      kept = same;
      size = same ∙ size;
    }
  where
    join : (u : List ℕ) → at + length (t ++ u) ≤ length d → put e r u ≡ put d at (t ++ u)
    join u both =
        let room : at + length t ≤ length d = omega (arith, length-append t u) in
        ap (λ (x : List ℕ). put x r u) q
        ∙ ap (λ (k : ℕ). put (put d at t) k u) (p ∙ after_room d at t room)
        ∙ put_put d at t u both

-- the same text by another name
pub puts_as : (d : List ℕ) (at : ℕ) (t u : List ℕ) (r : ℕ) (e : List ℕ) → t ≡ u → Puts d at t r e → Puts d at u r e
puts_as d at t u r e q p = puts d at u r e (sym p.kept ∙ p.size) (p.answered ∙ ap (after d at) q) (p.contents ∙ ap (put d at) q)

-- t put at `at`, and u at the place that this answered: room is asked of the whole alone
pub both_stored : (d : List ℕ) (at : ℕ) (t u : List ℕ) {a r : ℕ} {m e : List ℕ}
    → Stored d at t a m
    → Stored m a u r e
    → Stored d at (t ++ u) r e
both_stored d at t u {a} {r} {m} {e} p q room =
    let len = length-append t u in
    let fits : at + length t ≤ length d = omega (arith, len) in
    let one = p fits in
    let kept : length m ≡ length d = ap length one.1 ∙ length_room d at t fits in
    let two = q (omega (arith, len, one.0, kept)) in (
      omega (arith, len, one.0, two.0),
      two.1 ∙ ap (λ (x : List ℕ). put x a u) one.1 ∙ ap (λ (k : ℕ). put (put d at t) k u) one.0 ∙ put_put d at t u room,
    )

-- nothing put changes nothing
pub put_none : (d : List ℕ) (at : ℕ) → at ≤ length d → put d at [] ≡ d
put_none d at h =
    put_room d at [] (omega arith)
    ∙ ap (λ (k : ℕ). take at d ++ [] ++ drop k d) (add-zero at)
    ∙ ap (λ (r : List ℕ). r ++ drop at d) (append-nil (take at d))
    ∙ take-append-drop at d

-- where a run of texts begins
pub no_text : (d : List ℕ) (at : ℕ) → Stored d at [] at d
no_text d at room = (omega arith, sym (put_none d at (omega arith)))

-- a text at the buffer's start, with the rest as lent
pub all_stored : (d t : List ℕ) {r : ℕ} {e : List ℕ}
    → length t ≤ length d
    → Stored d 0 t r e
    → (r ≡ length t) × (e ≡ t ++ drop (length t) d)
all_stored d t {r} {e} h p =
    let z : 0 + length t ≡ length t = omega arith in
    let room : 0 + length t ≤ length d = omega arith in
    let q = p room in
    (q.0 ∙ z, q.1 ∙ put_room d 0 t room ∙ ap (λ (k : ℕ). t ++ drop k d) z)
