-- The table of starred scripts and the logs of worked ones, by computation. Assumes nothing.
use mathlib.Core.Path.{refl}
use Rattle.families.specs.Family.{by_family}
use Rattle.isa.specs.Opcode.{opcode_at}
use Rattle.isa.specs.Reader.{decode_of}
use Rattle.isa.specs.Wait.{wait_clocks}
use Rattle.isa_fetch.specs.Fetch.{all_marked, fetch_of}
use Rattle.log_ewaits.specs.Ewait.{has_reading, search_in}
use Rattle.event_log.specs.Validity.{valid_log}
use Rattle.machine_slot.specs.SlotStep.{perform_of}
use Rattle.script.specs.Input.{script_fits, ranges_fit}
use Rattle.run.specs.Replay.{run_answer_of}
use Rattle.run.specs.SlotRun.{slot_run_for}
use Rattle.audit_verdict.specs.Auditor.{can_release, verdict_in, audit_of}
use Rattle.audit_verdict.specs.Starred.{Starred}
use Rattle.audit_verdict.specs.Witness.{actions_to}
use Rattle.audit_verdict.specs.WorkedLogs.{WorkedLogs}

pub starred : Starred
unfolding audit_of script_fits ranges_fit by_family verdict_in fetch_of all_marked decode_of opcode_at wait_clocks can_release run_answer_of valid_log
    slot_run_for
    perform_of search_in has_reading
starred = (
  refl,
  refl,
  refl,
  refl,
  (refl, refl),
  (refl, refl),
  (refl, refl),
  (refl, refl),
  (refl, refl),
  (refl, refl),
  refl,
  refl,
  (refl, refl),
  (refl, refl),
  (refl, refl),
  refl,
  refl,
)

pub worked_logs : WorkedLogs
unfolding audit_of script_fits ranges_fit by_family verdict_in fetch_of all_marked decode_of opcode_at wait_clocks can_release actions_to has_reading
worked_logs = ((refl, refl, refl), (refl, refl, refl), (refl, refl, refl), (refl, refl, refl), (refl, refl, refl), refl)
