use Rattle.std.proofs.Common.{◌≡◌, true, sym, ◌∙◌}
use Rattle.isa_fetch.specs.Fetch.{all_marked}
use Rattle.isa_fetch.proofs.Marks.{marked_first}
use Rattle.isa_fetch.proofs.check_marks.Goals.{then-length-lt2, else-length-lt2}
use Rattle.isa_fetch.proofs.check_marks.Goals as goal

pub returns-then-all_marked : goal.returns-then-all_marked
returns-then-all_marked c =
    let a = c.args in
    let marked : all_marked c.in_ok-instruction.length a.marks.now a.at ≡ true = elim c.if-length-lt2.branch [
      | then-length-lt2 w ↦ marked_first a.marks.now a.at c.in_ok-instruction.length w.if-length-lt2.true c.requires
      | else-length-lt2 w ↦ sym w.all_marked.ensures ∙ (sym w.value-is ∙ c.if-all_marked.true)
    ] in
    simp (c.in_ok-instruction.was, marked)
