use Rattle.std.proofs.Common.{◌∙◌, ◌++◌, ap, refl, rules, arith, append-nil}
use Rattle.std.proofs.lemmas.List.{drop_all}
use Rattle.job_text.specs.Digits.{decimal_in, decimal_text}
use Rattle.job_text.proofs.DecimalLaws.{next_digit, end, fewer_digits}
use Rattle.job_text.proofs.decimal.digits.Goals as goal

pub loop-first-init : goal.loop-first-init
unfolding decimal_text
loop-first-init c =
    let front = decimal_in 20 c.args.n in
    let none = ap (◌++◌ front) (drop_all 20 c.args.text.now (omega arith)) in
    record { text_size = refl; to_come = omega arith; room = omega arith; made = none ∙ append-nil front }

pub loop-first-preserved : goal.loop-first-preserved
loop-first-preserved c =
    let l = c.loop-first in
    let fewer = fewer_digits l.first l.rest l.invariant.room c.if-last.false in
    let next = next_digit l.text l.first l.rest l.invariant.to_come (omega arith) c.if-last.false in
    record { text_size = search rules; to_come = fewer.0; room = fewer.1; made = cc }

pub returns-then-last : goal.returns-then-last
returns-then-last c =
    let l = c.loop-first in
    let last = end l.text l.first l.rest l.invariant.to_come (omega arith) c.if-last.true in
    record { made = last ∙ l.invariant.made; within = omega arith }
