use Rattle.std.proofs.Common.{◌∙◌, rules}
use Rattle.std.proofs.lemmas.Slice.{between_to_end}
use Rattle.job_text.proofs.ToldLaws.{told_as}
use Rattle.job_text.proofs.DecimalLaws.{one_digit, two_digits, put_digits}
use Rattle.job_text.proofs.report.Report.decimal.Goals as goal

pub returns-then-n-lt10 : goal.returns-then-n-lt10
returns-then-n-lt10 c =
    let a = c.args in
    let all_digits = one_digit a.n c.if-n-lt10.true in
    record { puts = put_digits a.n all_digits c.bytes.ensures.puts; told = told_as all_digits c.bytes.ensures.told }

pub returns-then-n-lt100 : goal.returns-then-n-lt100
returns-then-n-lt100 c =
    let a = c.args in
    let bytes = c.bytes-then-n-lt100.ensures in
    let all_digits = two_digits a.n c.if-n-lt10.false c.if-n-lt100.true in
    record { puts = put_digits a.n all_digits bytes.puts; told = told_as all_digits bytes.told }

pub returns-else-n-lt100 : goal.returns-else-n-lt100
returns-else-n-lt100 c =
    let a = c.args in
    let digits = c.digits-first in
    let bytes = c.bytes-else-n-lt100.ensures in
    let all_digits = between_to_end digits.new.text digits.result 20 (search rules) ∙ digits.ensures.made in
    record { puts = put_digits a.n all_digits bytes.puts; told = told_as all_digits bytes.told }
