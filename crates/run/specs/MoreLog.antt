-- More log, never fewer writes (02, ticket 12): two runs of one slot from one state and of equally many steps, the second under a log that says more.
use Rattle.std.specs.Prelude.{ℕ, ◌+◌, ◌-◌, ◌≤◌, ◌≡◌, ◌⊎◌, true, get_or}
use mathlib.Core.List.{List, ◌++◌, IsPrefix}
use Rattle.event_log.specs.Log.{Log, log_of}
use Rattle.event_log.specs.Validity.{valid_log, log_start}
use Rattle.event_log.specs.declared.place.Place.{Place}
use Rattle.log_waits.specs.Left.{left_of}
use Rattle.log_ewaits.specs.Ewait.{SameReadings}
use Rattle.words.specs.Bits.{bit_of}
use Rattle.machine_state.specs.Slot.{slot_of}
use Rattle.machine_state.specs.declared.slots.Mode.{Mode}
use Rattle.machine_state.specs.declared.slots.SlotName.{SlotName}
use Rattle.machine_state.specs.declared.state.State.{State}
use Rattle.run.specs.Run.{Run, Write, begun, run_for}

-- ---- logs that say more

-- "rows added at the end"
abbrev pub with_rows : Log → Log → Log
with_rows log more = log_of (log.clocks ++ more.clocks) (log.known ++ more.known) (log.values ++ more.values)

-- "filling in readings that were missing, known ones unchanged": the same rows, in which every event that had a reading has the same one; an event that had
-- none may have any, or none
pub record FilledIn (log log' : Log) : Type 0 where
  pub clocks : log'.clocks ≡ log.clocks
  pub known : (row event : ℕ) → bit_of (get_or log.known row 0) event ≡ 1 → bit_of (get_or log'.known row 0) event ≡ 1
  pub values : (event : ℕ) → SameReadings log log'.values event

-- the one or the other
abbrev pub SaysMore : Log → Log → Type 0
SaysMore log log' = ((more : Log) × (log' ≡ with_rows log more)) ⊎ (FilledIn log log')

-- ---- what becomes of a run

-- "the writes made before are the beginning of the writes made now": none is taken back or changed, others only come after them
abbrev pub KeepsWrites : List Write → List Write → Type 0
KeepsWrites writes writes' = IsPrefix writes writes'

-- the clocks gone by since the log's start: what it had there less what is left
abbrev pub gone_at : List ℕ → Place → ℕ
gone_at clocks p = left_of clocks log_start - left_of clocks p

-- the second run has done all that the first has and no more clocks have gone by; the slot's mode is the same too, so none of its waits is unfinished either
pub record NoLater (clocks : List ℕ) (r r' : Run) : Type 0 where
  pub state : r'.state ≡ r.state
  pub writes : r'.writes ≡ r.writes
  pub count : r'.count ≡ r.count
  pub waits : r'.waits ≡ r.waits
  pub ewaits : r'.ewaits ≤ r.ewaits
  pub gone : gone_at clocks r'.place ≤ gone_at clocks r.place

module _ (name : SlotName) where
  -- the slot is in an unfinished wait
  abbrev pub Unfinished : Run → Type 0
  Unfinished r = (slot_of r.state name).mode ≡ Mode.Waiting

  -- what rows added do to a run
  pub record AddsOnly (r r' : Run) : Type 0 where
    pub keeps_writes : KeepsWrites r.writes r'.writes
    -- while no wait is unfinished for want of them they change nothing: it is the same run, at the same place
    pub same : (Unfinished r → ⊥) → r' ≡ r

  -- what readings filled in do to a run over rows of these clocks
  pub record KeepsUp (clocks : List ℕ) (r r' : Run) : Type 0 where
    pub keeps_writes : KeepsWrites r.writes r'.writes
    -- "never makes a wait end later": after whichever step a wait has ended, it has ended in the second run too, and no later; an unfinished wait counts as
    -- later than any end, so nothing is asked where the first run's is unfinished
    pub no_later : (Unfinished r → ⊥) → NoLater clocks r r'
    -- clocks gone by are those that waits spent and ewaits passed by
    pub gone_by : gone_at clocks r.place ≡ r.waits + r.ewaits

  -- ---- the two sentences, of any state

  abbrev pub RowsAdded : State → Type 0
  RowsAdded s = (log more : Log) → valid_log log ≡ true → valid_log (with_rows log more) ≡ true
      → (n : ℕ) → AddsOnly (run_for name log n (begun s)) (run_for name (with_rows log more) n (begun s))

  abbrev pub ReadingsFilled : State → Type 0
  ReadingsFilled s = (log log' : Log) → valid_log log ≡ true → valid_log log' ≡ true → FilledIn log log'
      → (n : ℕ) → KeepsUp log.clocks (run_for name log n (begun s)) (run_for name log' n (begun s))
