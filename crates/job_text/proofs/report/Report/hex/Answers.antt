use Rattle.std.proofs.Common.{◌≡◌, ◌∙◌, refl, rules, arith, append-nil}
use Rattle.job_text.specs.Digits.{hex_word}
use Rattle.job_text.proofs.PutLaws.{puts_as}
use Rattle.job_text.proofs.ToldLaws.{told_as}
use Rattle.job_text.proofs.HexLaws.{next_digit, end, eight, reads_back}
use Rattle.job_text.proofs.report.Report.hex.Goals as goal

pub loop-place-init : goal.loop-place-init
unfolding hex_word
loop-place-init c = record { text_size = refl; made = append-nil (hex_word c.args.n) }

pub loop-place-preserved : goal.loop-place-preserved
loop-place-preserved c =
    let l = c.loop-place in
    let next = next_digit l.text l.place l.rest (omega arith) (omega arith) in
    record { text_size = search rules; made = cc }

pub returns : goal.returns
returns c =
    let l = c.loop-place in
    let a = c.args in
    let word : l.text ≡ hex_word a.n = end l.text l.place l.rest (omega arith) ∙ l.invariant.made in
    record {
      puts = record { puts = puts_as _ _ _ (hex_word a.n) _ _ word c.bytes.ensures.puts; eight = eight a.n; reads_back = reads_back a.n };
      told = told_as word c.bytes.ensures.told;
    }
