use Rattle.std.specs.Prelude.{Err}
use Prim.Native.Nat.{ℕ, ◌-◌, ◌<◌}
use mathlib.Core.Path.{◌≡◌, sym, ap, subst, ◌∙◌}
use mathlib.Core.List.{List}
use native.Mathlib.Omega.{arith}
use lib.ListN.{length, take, drop, get_or}
use borrow.Author.Tests.{lt-ltb, le-ltb, eq-eqb, ne_eqb}
use Rattle.families.specs.Family.{code_size}
use Rattle.isa.specs.Reader.{decode_of, decoded_number}
use Rattle.isa.specs.Codec.{OneSpelling}
use Rattle.refusals.specs.declared.refusals.Unreadable.{Unreadable}
use Rattle.isa_fetch.specs.Fetch.{code_ram_of, check_marks, fetch_of, Inside, Fetches}
use Rattle.isa_fetch.proofs.Numbers.{fetch_numbered}
use Rattle.isa_fetch.proofs.Places.{part, inside_of}
use Rattle.isa_fetch.proofs.CodeRam.fetch.Goals as goal

-- a refusal holds no instruction, so nothing of it has to lie in the RAM
refused : {family : ℕ} {code marks : List ℕ} {at : ℕ} (why : Unreadable) → Err why ≡ fetch_of family code marks at
    → Fetches family code marks at (Err why)
refused {family} {code} {marks} {at} why e = record { answered = e; numbered = ap decoded_number e ∙ fetch_numbered family code marks at; inside = tt }

pub returns-then-end-at : goal.returns-then-end-at
unfolding fetch_of
returns-then-end-at c =
    let a = c.args.self in
    let r = code_ram_of a.family a.code.now in
    refused Unreadable.Empty (simp (le-ltb c.args.place.0 (length r) (omega (arith, c.length-end.ensures))))

pub returns-then-byte_at-ne1 : goal.returns-then-byte_at-ne1
unfolding fetch_of
returns-then-byte_at-ne1 c =
    let before_end : let a = c.args.self in c.args.place.0 < length (code_ram_of a.family a.code.now) = omega (arith, c.length-end.ensures) in
    let a = c.args.self in
    let r = code_ram_of a.family a.code.now in
    refused Unreadable.NotUploaded
    (simp (
      lt-ltb c.args.place.0 (length r) before_end,
      ne_eqb (get_or a.marks.now c.args.place.0 0) 1 (λ e. c.if-byte_at-ne1.true (c.byte_at.ensures ∙ e)),
    ))

pub returns : goal.returns
unfolding fetch_of
returns c =
    let before_end : let a = c.args.self in c.args.place.0 < length (code_ram_of a.family a.code.now) = omega (arith, c.length-end.ensures) in
    let a = c.args.self in
    let r = code_ram_of a.family a.code.now in
    let e : take (c.length-end.result - c.args.place.0) (drop c.args.place.0 a.code.now) ≡ drop c.args.place.0 r =
    ap (λ (n : ℕ). take (n - c.args.place.0) (drop c.args.place.0 a.code.now)) c.length-end.ensures
    ∙ part (code_size a.family) c.args.place.0 a.code.now in
    let d = c.decode-found in
    let found : d.result ≡ decode_of a.family (drop c.args.place.0 r) = d.ensures.answered ∙ ap (decode_of a.family) e in
    let spelled : OneSpelling a.family (drop c.args.place.0 r) d.result = rw e at d.ensures.spelled_so in
    let inside = inside_of a.family a.code.now a.marks.now c.args.place.0 d.result (omega (arith, before_end)) spelled in
    let answer : c.check_marks.result ≡ check_marks a.marks.now c.args.place.0 d.result = c.check_marks.ensures in
    let answered : c.check_marks.result ≡ fetch_of a.family a.code.now a.marks.now c.args.place.0 =
    answer ∙ simp (
      lt-ltb c.args.place.0 (length r) before_end,
      eq-eqb (get_or a.marks.now c.args.place.0 0) 1 (sym c.byte_at.ensures ∙ c.if-byte_at-ne1.false),
      found,
    ) in
    record {
      answered = answered;
      numbered = ap decoded_number answered ∙ fetch_numbered a.family a.code.now a.marks.now c.args.place.0;
      inside = subst (Inside a.family a.code.now c.args.place.0) (sym answer) inside;
    }
