-- How long the lines of a report can be. Assumes nothing.
use Prim.Native.Nat.{ℕ, zero, suc, ◌+◌, ◌*◌, ◌/◌, ◌%◌, ◌≤◌}
use mathlib.Core.Path.{◌≡◌}
use mathlib.Core.List.{List, [], ◌∷◌}
use native.Mathlib.Omega.{arith}
use lib.Count.{ones_in}
use lib.Dec.{eqb}
use Rattle.std.specs.Prelude.{Option, None, Some}
use lib.ListN.{length, length-append, length-take}
use Rattle.families.proofs.Tests.{cond_elim}
use Rattle.event_log.specs.Coverage.{reading_count, lowest_zero, first_missing}
use Rattle.event_log.specs.declared.place.Place.{Place}
use Rattle.refusals.specs.Number.{fault_number}
use Rattle.run.specs.Run.{Write}
use Rattle.audit_verdict.specs.declared.verdicts.Verdict.{Verdict}
use Rattle.run.specs.declared.answers.Ending.{Ending}
use Rattle.job_records.specs.Job.{known_of}
use Rattle.job_records.specs.Reader.{Sound}
use Rattle.job_records.specs.Started.{Started}
use Rattle.job_records.specs.declared.contents.Job.{Job}
use Rattle.probe_captures.specs.Masks.{has_event}
use Rattle.probe_captures.specs.declared.extents.Extent.{Extent}
use Rattle.probe_captures.specs.declared.extents.Extremes.{Extremes}
use Rattle.probe_floats.specs.Pattern.{pattern_of}
use Rattle.job_text.proofs.DecimalLaws.{within, short}
use Rattle.job_text.proofs.HexLaws.{eight}
use Rattle.job_text.specs.Digits.{decimal_text, hex_word}
use Rattle.job_report.specs.Lines.{named, hex_named, refused_line, family_line, fault_line, pass_line}
use Rattle.job_report.specs.Lines.{write_line, write_lines, row_line, row_lines, extremes_named}
use Rattle.job_report.specs.Lines.{event_line, gated_line, event_lines, ending_text, end_line, status_line}
use Rattle.job_report.specs.Report.{run_lines, verdict_lines, job_lines}
use Rattle.job_report.specs.Promises.{max_report}
use Rattle.run.specs.Replay.{ending_of}
use Rattle.machine_execution.specs.Execution.{executing_slot}
use Rattle.machine_state.specs.Slot.{with_slot}
use Rattle.job_report.specs.JobScript.{verdict_of, job_run, status_of}
use Rattle.job_report.proofs.ScriptLaws.{writes_few}

named_short : (text : List ℕ) (n : ℕ) → length (named text n) ≤ length text + 20
named_short text n = omega (arith, length-append text (decimal_text n), short n)

hex_long : (text : List ℕ) (n : ℕ) → length (hex_named text n) ≡ length text + 8
hex_long text n = omega (arith, length-append text (hex_word n), eight n)

-- a number below 100 has two digits at most
small_short : (text : List ℕ) (n : ℕ) → n ≤ 32 → length (named text n) ≤ length text + 2
small_short text n h = omega (arith, length-append text (decimal_text n), within n 2 (omega arith) (omega arith))

pub refused_length : (number offset : ℕ) → length (refused_line number offset) ≤ 53
unfolding refused_line
refused_length number offset =
    simp length-append (omega (arith, short number, short offset))

family_length : (family : ℕ) → length (family_line family) ≤ 28
unfolding family_line
family_length family = simp length-append (omega (arith, short family))

fault_length : (number place : ℕ) → length (fault_line number place) ≤ 56
unfolding fault_line
fault_length number place = simp length-append (omega (arith, short number, short place))

pass_length : (place count writes clocks : ℕ) → length (pass_line place count writes clocks) ≤ 139
unfolding pass_line
pass_length place count writes clocks = simp length-append (omega (arith, short 0, short place, short count, short writes, short clocks))

write_length : (address word : ℕ) → length (write_line address word) ≡ 24
unfolding write_line
write_length address word = simp length-append (omega (arith, eight address, eight word))

writes_length : (writes : List Write) → length (write_lines writes) ≡ 24 * length writes
writes_length [] = omega arith
writes_length (w ∷ writes) = omega (
  arith,
  length-append (write_line w.address w.word) (write_lines writes),
  write_length w.address w.word,
  writes_length writes,
)

-- a row has 32 events
ones_few : (n mask : ℕ) → ones_in n mask ≤ n
unfolding ones_in
ones_few zero mask = omega arith
ones_few (suc n) mask = omega (arith, ones_few n (mask / 2))

zero_low : (n mask : ℕ) → lowest_zero n mask ≤ n
unfolding lowest_zero
zero_low zero mask = omega arith
zero_low (suc n) mask = cond_elim (λ (m : ℕ). m ≤ suc n) (eqb (mask % 2) 0) (λ _. omega arith) (λ _. omega (arith, zero_low n (mask / 2)))

row_length : (i known : ℕ) → length (row_line i known) ≤ 43
unfolding row_line
row_length i known =
    simp length-append (omega (
      arith,
      short i,
      within (reading_count known) 2 (omega arith) (omega (arith, ones_few 32 known)),
      within (first_missing known) 2 (omega arith) (omega (arith, zero_low 32 known)),
    ))

rows_length : (i : ℕ) (known : List ℕ) → length (row_lines i known) ≤ 43 * length known
rows_length i [] = omega arith
rows_length i (k ∷ known) = omega (arith, length-append (row_line i k) (row_lines (i + 1) known), row_length i k, rows_length (i + 1) known)

extremes_length : (x : Option Extremes) → length (extremes_named x) ≤ 33
extremes_length None = omega arith
extremes_length (Some x) = simp length-append (omega (arith, eight (pattern_of x.least), eight (pattern_of x.greatest)))

event_length : (event : ℕ) (x : Extent) → length (event_line event x) ≤ 89
unfolding event_line
event_length event x = simp length-append (omega (arith, short event, extremes_length x.extremes, short x.between))

events_length : (gated event : ℕ) (extents : List Extent) → length (event_lines gated event extents) ≤ 89 * length extents
events_length gated event [] = omega arith
events_length gated event (x ∷ extents) =
    let line : length (gated_line gated event x) ≤ 89 = cond_elim (λ (l : List ℕ). length l ≤ 89) (has_event gated event)
    (λ _. event_length event x) (λ _. omega arith) in
    omega (
      arith,
      length-append (gated_line gated event x) (event_lines gated (event + 1) extents),
      line,
      events_length gated (event + 1) extents,
    )

ending_length : (ending : Ending) → length (ending_text ending) ≤ 4
ending_length Ending.Exit = omega arith
ending_length Ending.Log = omega arith
ending_length Ending.Poke = omega arith
ending_length Ending.Hang = omega arith
ending_length Ending.Stop = omega arith

end_length : (ending : Ending) (place : Place) → length (end_line ending place) ≤ 60
unfolding end_line
end_length ending place = simp length-append (omega (arith, ending_length ending, short place.row, short place.used))

status_length : (word : ℕ) → length (status_line word) ≡ 16
unfolding status_line
status_length word = simp length-append (omega (arith, eight word))

run_length : (j : Job) → length (job_run j).writes ≤ 170 → length (known_of j) ≤ 1024 → length j.probes.extents ≡ 32 → length (run_lines j) ≤ 51036
unfolding run_lines
run_length j writes rows events =
    let r = job_run j in
    let status = status_of (with_slot j.state (executing_slot j.state) r.slot r.flags) in
    simp length-append
    (omega (
      arith,
      writes_length r.writes,
      rows_length 0 (known_of j),
      events_length j.probes.masks.gated 0 j.probes.extents,
      events,
      end_length (ending_of r.slot.mode) r.place,
      status_length status,
    ))

-- ---- every report has room in the lent bytes

verdict_length : (j : Job) → Started j → length (known_of j) ≤ 1024 → length j.probes.extents ≡ 32 → (v : Verdict)
    → length (verdict_lines j v) ≤ 51175
verdict_length j started rows events (Verdict.Pass place count writes clocks) =
    let pass = pass_line place.0 count writes clocks in
    omega (arith, length-append pass (run_lines j), pass_length place.0 count writes clocks, run_length j (writes_few j started) rows events)
verdict_length j started rows events (Verdict.Fault fault place) = omega (arith, fault_length (fault_number fault) place.0)

pub job_length : (j : Job) → Sound j → Started j → length (job_lines j) ≤ max_report
unfolding job_lines
job_length j sound started =
    let rows : length (known_of j) ≤ 1024 = omega (arith, length-take j.counts.rows j.known, sound.fit.rows) in
    let family = j.state.family in
    let verdict = verdict_length j started rows sound.events.1 (verdict_of j) in
    omega (arith, length-append (family_line family) (verdict_lines j (verdict_of j)), family_length family, verdict)
