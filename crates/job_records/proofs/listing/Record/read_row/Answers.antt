use Prim.Native.Nat.{ℕ}
use mathlib.Core.Path.{◌≡◌, refl, ap, sym, ◌∙◌}
use mathlib.Core.Bool.{true, false}
use mathlib.Core.List.{List}
use Rattle.std.proofs.lemmas.Result.{err_from_is_err_and}
use Rattle.event_log.specs.Validity.{clocks_in_range}
use Rattle.words.specs.Numbers.{long_at}
use Rattle.probe_captures.specs.Masks.{row_known, row_values}
use Rattle.job_records.proofs.KindTests.{shape_told, unstored, row_own, row_stored}
use Rattle.job_records.proofs.listing.Record.read_row.Goals as goal

pub returns-in_err-test_shape : goal.returns-in_err-test_shape
returns-in_err-test_shape c =
    let p = err_from_is_err_and c.from_residual.result c.from_residual.ensures.1 in
    let why = c.in_err-test_shape.field-0.0 in
    rw (p.1, p.2) (record {
      tested = shape_told c.args.self.rest.now c.args.self.counts 1 c.requires why c.in_err-test_shape.ensures.number;
      clocks = unstored why _ _;
      known = unstored why _ _;
      values = unstored why _ _;
      masks = unstored why _ _;
    })

pub returns-then-not-clocks_in_range : goal.returns-then-not-clocks_in_range
unfolding long_at
returns-then-not-clocks_in_range c =
    let rest : List ℕ = c.args.self.rest.now in
    let long : c.long_word-length.result ≡ long_at rest 1 = simp (c.long_word-length.ensures, c.word_at.ensures, c.word_at-2.ensures) in
    let out : clocks_in_range (long_at rest 1) ≡ false =
    sym (c.clocks_in_range.ensures ∙ ap clocks_in_range long) ∙ c.if-not-clocks_in_range.true in
    record {
      tested = λ m s. sym (row_own rest c.args.self.counts c.requires (sym c.in_ok-test_shape.ensures.number) m s ∙ rw out);
      clocks = refl;
      known = refl;
      values = refl;
      masks = refl;
    }

pub returns : goal.returns
unfolding long_at
returns c =
    let rest : List ℕ = c.args.self.rest.now in
    let is = c.requires in
    let n = c.args.self.counts.rows in
    let m = c.args.masks.now in
    let long : c.long_word-length.result ≡ long_at rest 1 = simp (c.long_word-length.ensures, c.word_at.ensures, c.word_at-2.ensures) in
    let in_range : clocks_in_range (long_at rest 1) ≡ true =
    sym (c.clocks_in_range.ensures ∙ ap clocks_in_range long) ∙ c.if-not-clocks_in_range.false in
    record {
      tested = λ m s. sym (row_own rest c.args.self.counts is (sym c.in_ok-test_shape.ensures.number) m s ∙ rw in_range);
      clocks = row_stored rest _ n _ is long;
      known = row_stored rest _ n _ is (c.row_known.ensures.answered ∙ ap (row_known m) c.word_at-3.ensures);
      values = row_stored rest _ n _ is (c.row_values.ensures.answered ∙ ap (row_values m) c.word_at-4.ensures);
      masks = c.after_row.ensures.answered;
    }
