use mathlib.Core.Path.{ap, ◌∙◌}
use Rattle.run.specs.Replay.{ending_of}
use Rattle.machine_execution.specs.Execution.{executing_slot}
use Rattle.machine_state.specs.Slot.{with_slot}
use Rattle.machine_state.specs.declared.slots.SlotName.{SlotName}
use Rattle.machine_state.specs.declared.state.State.{State}
use Rattle.job_report.specs.Lines.{end_line, status_line}
use Rattle.job_report.specs.JobScript.{status_of}
use Rattle.job_text.proofs.ToldLaws.{both_told, told_as}
use Rattle.job_output.proofs.reports.put_last.Goals as goal

pub returns : goal.returns
returns c =
    let a = c.args in
    let last = a.last in
    let left : SlotName → State = λ name. with_slot a.state name last.slot last.flags in
    let after = c.with_slot-after.ensures ∙ ap left c.executing_slot.ensures in
    both_told (end_line (ending_of last.slot.mode) last.place) (status_line (status_of (left (executing_slot a.state))))
    c.put_end.ensures (told_as (ap status_line (c.status_of.ensures ∙ ap status_of after)) c.put_status.ensures)
