use mathlib.Core.Path.{sym}
use Rattle.std.proofs.lemmas.Result.{err_from_is_err_and}
use Rattle.job_records.proofs.KindTests.{shape_told, unstored, write_read}
use Rattle.job_records.proofs.listing.Record.read_write.Goals as goal

pub returns-in_err-test_shape : goal.returns-in_err-test_shape
returns-in_err-test_shape c =
    let state = c.args.state.now in
    let p = err_from_is_err_and c.from_residual.result c.from_residual.ensures.1 in
    let why = c.in_err-test_shape.field-0.0 in
    rw (p.1, p.2) (record {
      tested = λ m. shape_told c.args.self.rest.now c.args.self.counts 2 c.requires why c.in_err-test_shape.ensures.number m state;
      state = unstored why _ state;
    })

pub returns : goal.returns
returns c =
    write_read c.args.self.rest.now _ c.requires c.word_at.ensures c.word_at-2.ensures c.write.ensures c.write_outcome.ensures c.args.self.counts
    (sym c.in_ok-test_shape.ensures.number)
