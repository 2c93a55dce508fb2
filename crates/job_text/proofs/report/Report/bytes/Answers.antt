use Rattle.std.proofs.Common.{rules}
use Rattle.job_text.proofs.PutLaws.{puts}
use Rattle.job_text.proofs.report.Report.bytes.Goals as goal

pub returns : goal.returns
returns c =
    let before = c.args.self.now in
    let put = puts before.out.now before.at c.args.text.now _ _ (search rules) c.store-self.ensures.value c.store-self.ensures.out_after in
    record { puts = put; told = record { stored = put.stored; lent = search rules } }
