-- Reading a job (01, "A job, and one report whole"): each record passes all its tests before the next is read.
use Rattle.std.specs.Prelude.{ℕ, zero, suc, ◌+◌, ◌≤◌, ◌≡◌, true, cond, List, ltb, eqb, length, drop}
use Rattle.job_records.specs.Job.{empty_job, after_record, CountsFit, log_in}
use Rattle.event_log.specs.Validity.{valid_log}
use Rattle.job_records.specs.Number.{refused_number}
use Rattle.job_records.specs.Records.{end, kind_of}
use Rattle.job_records.specs.Refusals.{refusal_of}
use Rattle.job_records.specs.Started.{Started}
use Rattle.words.specs.Numbers.{byte_at}
use Rattle.probe_captures.specs.Extents.{one_more_of}
use Rattle.probe_captures.specs.Masks.{has_event}
use Rattle.probe_captures.specs.Probes.{gate_at, extent_at, ProbesHold}
use Rattle.probe_captures.specs.declared.gates.EventGate.{EventGate}
use Rattle.probe_captures.specs.declared.probes.Probes.{Probes}
use Rattle.probe_gates.specs.Refusal.{usable_of}
use Rattle.job_records.specs.declared.contents.Job.{Job}
use Rattle.job_records.specs.declared.jobs.JobRead.{JobRead as AsAnswered}

-- a job may have so many bytes
abbrev pub max_bytes : ℕ
max_bytes = 32768

-- what is read of a job: the number of its refusal, 0 for none, the offset of the record at fault or of the end, and what the records before it say
pub record JobRead : Type 0 where
  pub number : ℕ
  pub at : ℕ
  pub job : Job

-- what the call answers, its refusal by its number
abbrev pub told : AsAnswered → JobRead
told answer = record { number = refused_number answer.outcome; at = answer.at; job = answer.job }

abbrev pub read_at : ℕ → ℕ → Job → JobRead
read_at number at j = record { number = number; at = at; job = j }

-- from an offset on, where at most so many records are left, the end of input counted: the first record at fault, with its offset,
-- or the end
unfoldable pub read_in : ℕ → List ℕ → ℕ → Job → JobRead
read_in zero bytes at j = read_at 21 at j
read_in (suc left) bytes at j =
    let rest = drop at bytes in
    let number = refusal_of rest j.counts j.probes.masks j.state in
    let later = read_in left bytes (at + (1 + (kind_of j.counts (byte_at rest 0)).body)) (after_record rest j) in
    cond (eqb number 0) (cond (eqb (byte_at rest 0) end) (read_at 0 at j) later) (read_at number at j)

-- 31 over so many bytes, at offset 0, first; then the records, each of which takes a byte at least
unfoldable pub job_read_of : List ℕ → JobRead
job_read_of bytes = cond (ltb max_bytes (length bytes)) (read_at 31 0 empty_job) (read_in (suc (length bytes)) bytes 0 empty_job)

-- the gate of an event: its own, and one that 16 lets pass
pub record StandsAt (event : ℕ) (gate : EventGate) : Type 0 where
  pub own : gate.event ≡ event
  pub usable : usable_of gate.gate gate.calibration ≡ true

-- every event that has a gate has it at its place
abbrev pub GatesStand : Probes → Type 0
GatesStand p = (event : ℕ) → has_event p.masks.gated event ≡ true → StandsAt event (gate_at p event)

-- no event has more volts between its levels than this
abbrev pub CountsWithin : ℕ → Probes → Type 0
CountsWithin most p = (event : ℕ) → (extent_at p event).between ≤ most

-- what every job that was read holds, to its end or to the record at fault
pub record Sound (j : Job) : Type 0 where
  -- no more records of a kind than a job may have
  pub fit : CountsFit j.counts
  -- its rows are a log, and lie in the columns
  pub valid : valid_log (log_in j) ≡ true
  pub within : (j.counts.rows ≤ length j.clocks) × (j.counts.rows ≤ length j.known) × (j.counts.rows ≤ length j.values)
  -- there are 32 events, each with its place among gates and extents
  pub events : (length j.probes.gates ≡ 32) × (length j.probes.extents ≡ 32)
  -- masks and extents are what captures make: no known bit without a capture, no value bit without its known bit, finite volts in order
  pub probes : ProbesHold j.probes
  -- an event's gate stands at its own place, and 16 lets it pass: a capture goes through no other
  pub gates : GatesStand j.probes
  -- no count of volts between the levels is above the bytes of a job, so none was ever full: one more is always one more
  pub counted : CountsWithin max_bytes j.probes
  pub exact : (event : ℕ) → one_more_of (extent_at j.probes event).between ≡ (extent_at j.probes event).between + 1

-- what reading promises of its answer
pub record JobReads (bytes : List ℕ) (answer : JobRead) : Type 0 where
  pub answered : answer ≡ job_read_of bytes
  pub sound : Sound answer.job
  -- a job without fault starts a script
  pub started : answer.number ≡ 0 → Started answer.job
  -- and leaves no capture that no row took up
  pub used_up : answer.number ≡ 0 → answer.job.probes.masks.captured ≡ 0
