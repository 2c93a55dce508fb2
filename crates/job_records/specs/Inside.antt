-- What private functions cite; no public contract does.
use Rattle.std.specs.Prelude.{ℕ, suc, ◌≡◌, ◌<◌, cond, List, [], ◌∷◌, eqb, length}
use Rattle.event_log.specs.Log.{Log}
use Rattle.machine_state.specs.declared.state.State.{State}
use Rattle.job_records.specs.Job.{empty_job, state_after, bounds_after, column_after}
use Rattle.job_records.specs.Reader.{JobRead, read_in, Sound}
use Rattle.job_records.specs.Records.{kind_of, is_out_of_order}
use Rattle.job_records.specs.Refusals.{is_unknown, is_cut_short, is_too_many, refusal_of}
use Rattle.refusals.specs.Listing.{test, first_of}
use Rattle.job_records.specs.Started.{Started}
use Rattle.words.specs.Numbers.{byte_at, word_at, long_at}
use Rattle.job_records.specs.declared.contents.Counts.{Counts}
use Rattle.probe_captures.specs.Masks.{gate_taken, row_taken, row_known, row_values}
use Rattle.probe_captures.specs.Probes.{heard_of}
use Rattle.probe_captures.specs.Records.{gate_in, capture_in}
use Rattle.probe_captures.specs.declared.extents.Extent.{Extent}
use Rattle.probe_captures.specs.declared.gates.EventGate.{EventGate}
use Rattle.probe_captures.specs.declared.masks.Masks.{Masks}

-- the tests of the listing that every kind has, in its order
abbrev pub shape_number : List ℕ → ℕ → Counts → ℕ
shape_number rest byte counts =
    let kind = kind_of counts byte in
    first_of (test (is_unknown rest kind) 21 ∷ test (is_cut_short rest kind) 20 ∷ test (is_out_of_order counts.rank kind) 22 ∷ test (is_too_many kind) 23 ∷ [])

-- room for one record more of this kind
abbrev pub HasRoom : ℕ → Counts → Type 0
HasRoom kind counts = (kind_of counts kind).read < (kind_of counts kind).most

-- the number that the listing gives the record, whatever was captured and whatever the state
abbrev pub Tested : List ℕ → Counts → ℕ → Type 0
Tested rest counts number = (m : Masks) (s : State) → number ≡ refusal_of rest counts m s

-- a refused record stores nothing
abbrev pub unless_refused : {A : Type 0} → ℕ → A → A → A
unless_refused number stored before = cond (eqb number 0) stored before

pub record RangeRead (rest : List ℕ) (counts : Counts) (old new : List ℕ) (number : ℕ) : Type 0 where
  pub tested : Tested rest counts number
  pub bounds : new ≡ unless_refused number (bounds_after (byte_at rest 0) rest counts.ranges old) old

-- of the masks before and after
pub record RowStored (rest : List ℕ) (counts : Counts) (m later : Masks) (old new : Log) (number : ℕ) : Type 0 where
  pub tested : Tested rest counts number
  pub clocks : new.clocks ≡ unless_refused number (column_after (byte_at rest 0) counts.rows (long_at rest 1) old.clocks) old.clocks
  pub known : new.known ≡ unless_refused number (column_after (byte_at rest 0) counts.rows (row_known m (word_at rest 9)) old.known) old.known
  pub values : new.values ≡ unless_refused number (column_after (byte_at rest 0) counts.rows (row_values m (word_at rest 13)) old.values) old.values
  pub masks : later ≡ unless_refused number (row_taken m) m

-- and of the event's gate
pub record GateStored (rest : List ℕ) (counts : Counts) (m later : Masks) (old new : EventGate) (number : ℕ) : Type 0 where
  pub tested : (s : State) → number ≡ refusal_of rest counts m s
  pub masks : later ≡ unless_refused number (gate_taken (gate_in rest).event m) m
  pub gate : new ≡ unless_refused number (gate_in rest) old

-- of the event's gate, and of its extent
pub record CaptureStored (rest : List ℕ) (counts : Counts) (by : EventGate) (m later : Masks) (old new : Extent) (number : ℕ) : Type 0 where
  pub tested : (s : State) → number ≡ refusal_of rest counts m s
  pub masks : later ≡ unless_refused number (heard_of (capture_in rest) by m old).masks m
  pub extent : new ≡ unless_refused number (heard_of (capture_in rest) by m old).extent old

-- the numbers of the listing that a host write can have
abbrev pub write_tests : ℕ → ℕ
write_tests n = cond (eqb n 27) 27 (cond (eqb n 28) 28 0)

pub record StateStored (rest : List ℕ) (counts : Counts) (old new : State) (number : ℕ) : Type 0 where
  pub tested : (m : Masks) → number ≡ refusal_of rest counts m old
  pub state : new ≡ unless_refused number (state_after (byte_at rest 0) rest old) old

-- what the loop over the records answers
pub record RecordsRead (bytes : List ℕ) (answer : JobRead) : Type 0 where
  pub answered : answer ≡ read_in (suc (length bytes)) bytes 0 empty_job
  pub sound : Sound answer.job
  pub started : answer.number ≡ 0 → Started answer.job
  pub used_up : answer.number ≡ 0 → answer.job.probes.masks.captured ≡ 0
