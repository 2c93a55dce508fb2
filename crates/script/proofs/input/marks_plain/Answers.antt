use Rattle.std.proofs.Common.{rules, ◌≡◌, ◌∙◌, ap, ℕ, max, leb}
use Rattle.std.specs.List.{fold}
use Rattle.script.proofs.RangeLaws.{plain_fold}
use Rattle.script.proofs.input.marks_plain.Goals as goal

pub returns : goal.returns
returns c =
    let most : c.fold.result ≡ fold (λ a x. max a x) 0 c.args.marks.now = search rules in
    ap (λ (m : ℕ). leb m 1) most ∙ plain_fold c.args.marks.now 0
