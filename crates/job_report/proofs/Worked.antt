-- The worked jobs and their reports, by computation. Assumes nothing.
use mathlib.Core.Path.{refl}
use lib.Count.{ones_in}
use lib.Ieee.{span, climb, size, odd, units, round, sum, add, mul, lt, eq, le, is_nan, of_fields, of_bits, to_bits}
use Rattle.families.specs.Family.{by_family}
use Rattle.isa.specs.Opcode.{opcode_at}
use Rattle.isa.specs.Reader.{decode_of}
use Rattle.isa.specs.Wait.{wait_clocks}
use Rattle.isa_fetch.specs.Fetch.{all_marked, fetch_of}
use Rattle.event_log.specs.Validity.{valid_log, valid_place}
use Rattle.event_log.specs.Coverage.{lowest_zero}
use Rattle.log_waits.specs.Wait.{wait_in}
use Rattle.log_ewaits.specs.Ewait.{has_reading, search_in}
use Rattle.machine_flags.specs.Flags.{enables_after, values_after, overrides1}
use Rattle.machine_slot.specs.SlotStep.{perform_of}
use Rattle.machine_step.specs.Step.{advance_of, step_of}
use Rattle.host_registers.specs.Access.{blank_state, write_of, read_of}
use Rattle.host_registers.specs.Code.{after_upload}
use Rattle.host_registers.specs.Entry.{entry_point}
use Rattle.host_registers.specs.Register.{code_at, register_at}
use Rattle.host_registers.specs.Status.{slot_status, status_word}
use Rattle.host_registers.specs.Trigger.{after_trigger}
use Rattle.script.specs.Input.{script_fits, ranges_fit}
use Rattle.run.specs.Run.{run_for}
use Rattle.run.specs.SlotRun.{slot_run_for}
use Rattle.audit_verdict.specs.Auditor.{can_release, verdict_in, audit_of}
use Rattle.job_text.specs.Digits.{decimal_in, decimal_text, hex_in, hex_word}
use Rattle.job_records.specs.Job.{one_more_of, empty_job, state_after, bounds_after, column_after, probes_after, after_record}
use Rattle.job_records.specs.Reader.{read_in, job_read_of}
use Rattle.job_records.specs.Records.{kind_of, is_out_of_order}
use Rattle.job_records.specs.Refusals.{is_unknown, is_cut_short, is_too_many, is_bad_family, is_bad_range, write_number, is_bad_row, is_bad_probe, is_unusable}
use Rattle.job_records.specs.Refusals.{has_bytes_after, ends_idle, refusal_of}
use Rattle.words.specs.Numbers.{word_at, long_at}
use Rattle.probe_captures.specs.Extents.{noted}
use Rattle.probe_captures.specs.Masks.{is_bad_gate, is_bad_capture, gate_taken, capture_taken, row_known, row_values, row_taken}
use Rattle.probe_captures.specs.Probes.{no_probes, heard_of, with_gate, with_capture, with_row}
use Rattle.probe_captures.specs.Records.{gate_in, capture_in}
use Rattle.job_report.specs.JobScript.{verdict_of, job_run, status_of}
use Rattle.job_report.specs.Lines.{refused_line, family_line, fault_line, pass_line, write_line, row_line, event_line, end_line, status_line}
use Rattle.job_report.specs.Report.{run_lines, job_lines, report_of, step_lines}
use Rattle.job_report.specs.Worked.{Worked}

pub worked : Worked
unfolding span climb size odd units round sum add mul lt eq le is_nan of_fields of_bits to_bits ones_in by_family opcode_at decode_of wait_clocks all_marked
    fetch_of valid_log valid_place lowest_zero wait_in has_reading search_in enables_after values_after overrides1 perform_of advance_of step_of blank_state
    write_of read_of after_upload entry_point code_at register_at slot_status status_word after_trigger script_fits ranges_fit run_for slot_run_for
    can_release verdict_in audit_of decimal_in decimal_text hex_in hex_word one_more_of empty_job state_after bounds_after column_after probes_after
    after_record read_in job_read_of kind_of is_out_of_order is_unknown is_cut_short is_too_many is_bad_family is_bad_range write_number is_bad_row
    is_bad_probe is_unusable has_bytes_after ends_idle refusal_of word_at long_at is_bad_gate is_bad_capture gate_taken capture_taken row_known row_values
    row_taken noted gate_in capture_in no_probes heard_of with_gate with_capture with_row verdict_of job_run status_of refused_line family_line fault_line
    pass_line write_line row_line event_line end_line status_line run_lines job_lines report_of step_lines
worked = record {
  example = refl;
  slot_b = refl;
  high_code = refl;
  unknown_opcode = refl;
  past_code_ram = refl;
  captures = refl;
  above_31 = refl;
  without_gain = refl;
  capture_left = refl;
  paused = (refl, refl);
  flags_0 = refl;
  flags_1 = refl;
  hangs = refl;
}
