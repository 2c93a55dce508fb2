use Rattle.std.proofs.Common.{ℕ, ap, sym, ◌∙◌}
use Rattle.job_report.specs.Lines.{family_line, fault_line}
use Rattle.job_output.specs.Inside.{verdict_line}
use Rattle.job_text.proofs.ToldLaws.{both_told, told_as}
use Rattle.job_output.proofs.reports.put_verdict.Goals as goal

pub returns-in-Pass : goal.returns-in-Pass
returns-in-Pass c =
    let a = c.args in
    both_told (family_line a.family) (verdict_line a.verdict) c.put_family.ensures (told_as (sym (ap verdict_line c.in-Pass.is)) c.put_pass.ensures)

pub returns-in-Fault : goal.returns-in-Fault
returns-in-Fault c =
    let a = c.args in
    let line = ap (λ (n : ℕ). fault_line n c.in-Fault.place.0) c.from.ensures in
    both_told (family_line a.family) (verdict_line a.verdict) c.put_family.ensures
    (told_as (line ∙ sym (ap verdict_line c.in-Fault.is)) c.put_fault.ensures)
