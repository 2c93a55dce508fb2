use mathlib.Core.Path.{sym, ◌∙◌}
use borrow.Author.Tests.{lt-ltb, le-ltb, eq-eqb, ne_eqb}
use Rattle.std.proofs.lemmas.Result.{err_from_is_err_and}
use Rattle.job_records.proofs.KindTests.{shape_told, end_own}
use Rattle.job_records.proofs.listing.Record.read_end.Goals as goal

pub returns-in_err-test_shape : goal.returns-in_err-test_shape
returns-in_err-test_shape c =
    let p = err_from_is_err_and c.from_residual.result c.from_residual.ensures.1 in
    let why = c.in_err-test_shape.field-0.0 in
    rw (p.1, p.2)
    (shape_told c.args.self.rest.now c.args.self.counts 0 c.requires why c.in_err-test_shape.ensures.number c.args.masks c.args.state.now)

pub returns-then-masks-ne0 : goal.returns-then-masks-ne0
returns-then-masks-ne0 c =
    let fine = sym c.in_ok-test_shape.ensures.number in
    sym (end_own c.args.self.rest.now c.args.self.counts c.requires fine c.args.masks c.args.state.now ∙ simp (ne_eqb _ _ c.if-masks-ne0.true))

pub returns-then-self-gt1 : goal.returns-then-self-gt1
returns-then-self-gt1 c =
    let fine = sym c.in_ok-test_shape.ensures.number in
    sym (end_own c.args.self.rest.now c.args.self.counts c.requires fine c.args.masks c.args.state.now
    ∙ simp (eq-eqb _ _ c.if-masks-ne0.false, lt-ltb _ _ c.if-self-gt1.true))

pub returns-then-not-some_executes : goal.returns-then-not-some_executes
returns-then-not-some_executes c =
    let fine = sym c.in_ok-test_shape.ensures.number in
    let idle = sym c.some_executes.ensures ∙ c.if-not-some_executes.true in
    sym (end_own c.args.self.rest.now c.args.self.counts c.requires fine c.args.masks c.args.state.now
    ∙ simp (eq-eqb _ _ c.if-masks-ne0.false, le-ltb _ _ c.if-self-gt1.false, idle))

pub returns : goal.returns
returns c =
    let fine = sym c.in_ok-test_shape.ensures.number in
    let executes = sym c.some_executes.ensures ∙ c.if-not-some_executes.false in
    sym (end_own c.args.self.rest.now c.args.self.counts c.requires fine c.args.masks c.args.state.now
    ∙ simp (eq-eqb _ _ c.if-masks-ne0.false, le-ltb _ _ c.if-self-gt1.false, executes))
