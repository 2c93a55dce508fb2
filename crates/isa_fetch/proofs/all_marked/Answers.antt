use Rattle.std.proofs.Common.{◌≡◌, ◌+◌, ◌-◌, get_or, sym, ◌∙◌, arith}
use Rattle.isa_fetch.proofs.Marks.{marked_within, marked_none, marked_next, marked_not}
use Rattle.isa_fetch.proofs.all_marked.Goals as goal

pub loop-i-preserved : goal.loop-i-preserved
loop-i-preserved c =
    let a = c.args in
    let v = c.loop-i in
    let marked : get_or a.marks.now (a.at + v.i) 0 ≡ 1 = sym c.byte_at.ensures ∙ c.if-byte_at-ne1.false in
    let within = marked_within a.marks.now (a.at + v.i) marked in
    let left : a.n - (v.i + 1) ≡ a.n - v.i - 1 = omega arith in
    let next : a.at + (v.i + 1) ≡ a.at + v.i + 1 = omega arith in
    (rw (left, next) (marked_next a.marks.now (a.at + v.i) (a.n - v.i) (omega arith) marked ∙ v.invariant.0), λ _. omega (arith, within))

pub returns-then-byte_at-ne1 : goal.returns-then-byte_at-ne1
returns-then-byte_at-ne1 c =
    let a = c.args in
    let v = c.loop-i in
    marked_not a.marks.now (a.at + v.i) (a.n - v.i) (omega arith) (λ e. c.if-byte_at-ne1.true (c.byte_at.ensures ∙ e)) ∙ v.invariant.0

pub returns : goal.returns
returns c =
    let a = c.args in
    let v = c.loop-i in
    marked_none a.marks.now (a.at + v.i) (a.n - v.i) (omega arith) ∙ v.invariant.0
