use Prim.Native.Nat.{ℕ}
use mathlib.Core.Path.{◌≡◌, refl, sym, ◌∙◌}
use mathlib.Core.Bool.{true, false}
use mathlib.Core.List.{List}
use native.Mathlib.Omega.{arith}
use lib.Dec.{ltb}
use borrow.Author.Tests.{lt-ltb, le-ltb}
use Rattle.std.proofs.lemmas.Result.{err_from_is_err_and}
use Rattle.words.specs.Numbers.{word_at}
use Rattle.job_records.proofs.KindTests.{shape_told, unstored, range_own, range_stored}
use Rattle.job_records.proofs.listing.Record.read_range.Goals as goal

pub returns-in_err-test_shape : goal.returns-in_err-test_shape
returns-in_err-test_shape c =
    let p = err_from_is_err_and c.from_residual.result c.from_residual.ensures.1 in
    let why = c.in_err-test_shape.field-0.0 in
    rw (p.1, p.2) (record {
      tested = shape_told c.args.self.rest.now c.args.self.counts 3 c.requires why c.in_err-test_shape.ensures.number;
      bounds = unstored why _ _;
    })

pub returns-then-last-first : goal.returns-then-last-first
returns-then-last-first c =
    let rest : List ℕ = c.args.self.rest.now in
    let below : ltb (word_at rest 5) (word_at rest 1) ≡ true = lt-ltb (word_at rest 5) (word_at rest 1) (omega arith) in
    record { tested = λ m s. sym (range_own rest c.args.self.counts c.requires (sym c.in_ok-test_shape.ensures.number) m s ∙ rw below); bounds = refl }

pub returns : goal.returns
returns c =
    let rest : List ℕ = c.args.self.rest.now in
    let above : ltb (word_at rest 5) (word_at rest 1) ≡ false = le-ltb (word_at rest 5) (word_at rest 1) (omega arith) in
    record {
      tested = λ m s. sym (range_own rest c.args.self.counts c.requires (sym c.in_ok-test_shape.ensures.number) m s ∙ rw above);
      bounds = range_stored rest _ c.args.self.counts.ranges c.requires c.word_at-first.ensures c.word_at-last.ensures;
    }
