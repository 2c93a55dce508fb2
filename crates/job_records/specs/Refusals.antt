-- Why a record is refused (01, "A job, and one report whole"; 02, ticket 1). `rest` is the input from the record on; the end of input counts as a
-- record, of which no byte is left.
use Rattle.std.specs.Prelude.{ℕ, ◌+◌, Bool, cond, not, ◌&&◌, ◌||◌, List, [], ◌∷◌, leb, ltb, eqb, length}
use Rattle.families.specs.Family.{known_family}
use Rattle.refusals.specs.Listing.{Test, test, first_of}
use Rattle.event_log.specs.Validity.{clocks_in_range}
use Rattle.host_registers.specs.Access.{write_of}
use Rattle.machine_execution.specs.Execution.{some_slot_executes}
use Rattle.host_registers.specs.Promises.{outcome_number}
use Rattle.machine_state.specs.declared.state.State.{State}
use Rattle.job_records.specs.Records.{gate, capture, family, allowed_range, host_write, log_row, end, kind_of, is_out_of_order}
use Rattle.words.specs.Numbers.{byte_at, word_at, long_at}
use Rattle.probe_captures.specs.Masks.{is_bad_gate, is_bad_capture}
use Rattle.probe_captures.specs.Records.{gate_in}
use Rattle.probe_captures.specs.declared.masks.Masks.{Masks}
use Rattle.probe_gates.specs.Refusal.{usable_of}
use Rattle.job_records.specs.declared.contents.Counts.{Counts}
use Rattle.job_records.specs.declared.kinds.Kind.{Kind}

-- unknown kind or input ended without 00
unfoldable pub is_unknown : List ℕ → Kind → Bool
is_unknown rest kind = eqb (length rest) 0 || eqb kind.rank 0

-- body cut short
unfoldable pub is_cut_short : List ℕ → Kind → Bool
is_cut_short rest kind = ltb (length rest) (1 + kind.body)

-- too many of one kind
unfoldable pub is_too_many : Kind → Bool
is_too_many kind = leb kind.most kind.read

-- bad family
unfoldable pub is_bad_family : List ℕ → Bool
is_bad_family rest = eqb (byte_at rest 0) family && not (known_family (byte_at rest 1))

-- first above last
unfoldable pub is_bad_range : List ℕ → Bool
is_bad_range rest = eqb (byte_at rest 0) allowed_range && ltb (word_at rest 5) (word_at rest 1)

-- what the machine says of a host write: 27 not a writable register of this family, 28 a slot executing; 0 where it takes it
unfoldable pub write_number : List ℕ → State → ℕ
write_number rest s = cond (eqb (byte_at rest 0) host_write) (outcome_number (write_of s (record { 0 = word_at rest 1 }) (word_at rest 5)).outcome) 0

-- clocks out of range
unfoldable pub is_bad_row : List ℕ → Bool
is_bad_row rest = eqb (byte_at rest 0) log_row && not (clocks_in_range (long_at rest 1))

-- 33 of a gate, of a capture, and of an end that captures are left at, with no row after them
unfoldable pub is_bad_probe : List ℕ → Masks → Bool
is_bad_probe rest m =
    let kind = byte_at rest 0 in
    cond (eqb kind gate) (is_bad_gate (byte_at rest 1) (byte_at rest 2) m)
    (cond (eqb kind capture) (is_bad_capture (byte_at rest 1) m)
    (eqb kind end && not (eqb m.captured 0)))

-- a gate that 16 forbids; a dead gate's levels are ignored, its gain and offset are not
unfoldable pub is_unusable : List ℕ → Bool
is_unusable rest = let g = gate_in rest in eqb (byte_at rest 0) gate && not (usable_of g.gate g.calibration)

-- bytes after end
unfoldable pub has_bytes_after : List ℕ → Bool
has_bytes_after rest = eqb (byte_at rest 0) end && ltb 1 (length rest)

-- at end, no slot executing
unfoldable pub ends_idle : List ℕ → State → Bool
ends_idle rest s = eqb (byte_at rest 0) end && not (some_slot_executes s)

-- 01's listing with 02's 33 and 16 after 30, in its order: of one record with several refusals the first counts
abbrev pub listing : List ℕ → Counts → Masks → State → List Test
listing rest counts m s =
    let kind = kind_of counts (byte_at rest 0) in
    test (is_unknown rest kind) 21
    ∷ test (is_cut_short rest kind) 20
    ∷ test (is_out_of_order counts.rank kind) 22
    ∷ test (is_too_many kind) 23
    ∷ test (is_bad_family rest) 25
    ∷ test (is_bad_range rest) 26
    ∷ test (eqb (write_number rest s) 27) 27
    ∷ test (eqb (write_number rest s) 28) 28
    ∷ test (is_bad_row rest) 30
    ∷ test (is_bad_probe rest m) 33
    ∷ test (is_unusable rest) 16
    ∷ test (has_bytes_after rest) 24
    ∷ test (ends_idle rest s) 32
    ∷ []

unfoldable pub refusal_of : List ℕ → Counts → Masks → State → ℕ
refusal_of rest counts m s = first_of (listing rest counts m s)
