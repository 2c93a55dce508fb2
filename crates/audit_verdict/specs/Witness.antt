-- The log that shows a verdict, and what it shows from every start. 01 asks that some log be there; this one is our choice (docs/LIBRARY.md).
use Rattle.std.specs.Prelude.{ℕ, zero, suc, ◌+◌, ◌*◌, ◌/◌, ◌^◌, ◌≤◌, ◌≡◌, ◌⊎◌, Bool, true, false, cond, List, [], ◌∷◌, ◌++◌, eqb, length, Ok, Err}
use Rattle.families.specs.Family.{code_size}
use Rattle.refusals.specs.Number.{fault_number}
use Rattle.refusals.specs.declared.refusals.Fault.{Fault}
use Rattle.refusals.specs.declared.refusals.Unreadable.{Unreadable}
use Rattle.event_log.specs.Log.{Log}
use Rattle.event_log.specs.Rows.{log_of_rows}
use Rattle.event_log.specs.Validity.{valid_log}
use Rattle.event_log.specs.declared.row.Row.{Row}
use Rattle.log_waits.specs.Left.{left_of}
use Rattle.log_ewaits.specs.Ewait.{has_reading}
use Rattle.machine_flags.specs.Flags.{paused_of}
use Rattle.machine_actions.specs.Action.{action_of}
use Rattle.machine_actions.specs.declared.actions.Action.{Action}
use Rattle.machine_state.specs.Slot.{slot_of}
use Rattle.machine_state.specs.declared.slots.Mode.{Mode}
use Rattle.machine_state.specs.declared.slots.SlotName.{SlotName}
use Rattle.machine_state.specs.declared.state.State.{State}
use Rattle.machine_slot.specs.declared.slot_steps.Effect.{Effect}
use Rattle.script.specs.Script.{Script, fetch_at}
use Rattle.script.specs.Input.{listed_in, input_fits}
use Rattle.run.specs.Run.{Run}
use Rattle.audit_verdict.specs.Auditor.{poke_count}
use Rattle.audit_verdict.specs.Start.{Start, MasksInType}
use Rattle.audit_verdict.specs.Demand3.{AtPlace, InWait, Exact, Witness, run_of, next_effect, run_after, WriteDifferently, with_addr, with_data}
use Rattle.audit_verdict.specs.declared.verdicts.Verdict.{Verdict}

-- ---- the rows that a script asks for

-- at the entry: one clock, and no event has a reading
abbrev pub first_row : Row
first_row = record { clocks = 1; known = 0; values = 0 }

-- the awaited event comes: one clock, and it alone has a reading
abbrev pub event_row : ℕ → ℕ → Row
event_row event value = record { clocks = 1; known = 2 ^ event; values = value * 2 ^ event }

-- whether the row releases an ewait
abbrev pub releases : Row → ℕ → ℕ → Bool
releases row event value = has_reading row.known row.values event value

-- the present row after an action: a wait makes it longer, an ewait that it does not release begins the next
abbrev pub row_after : Action → Row → Row
row_after (Action.Wait n) row = record { clocks = row.clocks + n; known = row.known; values = row.values }
row_after (Action.Ewait event value) row = cond (releases row event value) row (event_row event value)
row_after (Action.Flag change flag) row = row
row_after (Action.Load part word) row = row
row_after (Action.Poke part word) row = row
row_after Action.Exit row = row

-- the rows that the action ends: the present one, or none
abbrev pub rows_ended : Action → Row → List Row
rows_ended (Action.Wait n) row = []
rows_ended (Action.Ewait event value) row = cond (releases row event value) [] (row ∷ [])
rows_ended (Action.Flag change flag) row = []
rows_ended (Action.Load part word) row = []
rows_ended (Action.Poke part word) row = []
rows_ended Action.Exit row = []

-- the rows of a run through actions, the present one being so
abbrev pub rows_over : List Action → Row → List Row
rows_over [] row = row ∷ []
rows_over (action ∷ actions) row = rows_ended action row ++ rows_over actions (row_after action row)

-- its register writes
abbrev pub writes_over : List Action → ℕ
writes_over [] = 0
writes_over (action ∷ actions) = poke_count action + writes_over actions

-- what a script does from here up to a place, of at most so many instructions
unfoldable pub actions_to : ℕ → Script → ℕ → ℕ → List Action
actions_to zero script place at = []
actions_to (suc left) script place at = cond (eqb at place) [] (elim (fetch_at script at) [
  | Ok (i, n) ↦ action_of i ∷ actions_to left script place (at + n)
  | Err why ↦ []
])

-- a verdict's place: where the script exits, or the fault's
abbrev pub place_of : Verdict → ℕ
place_of (Verdict.Pass place count writes wait_clocks) = place.0
place_of (Verdict.Fault fault place) = place.0

-- one at the entry, and one for each ewait of three bytes
abbrev pub max_shown : ℕ
max_shown = 171

-- 4 and 5 take two starts: the first has 0 in the register that matters, the second this; by the verdict's number
abbrev pub second_addr : ℕ → ℕ
second_addr verdict = cond (eqb verdict 4) 65536 0

abbrev pub second_data : ℕ → ℕ
second_data verdict = cond (eqb verdict 5) 65536 0

-- ---- one audited script

module _ (script : Script) where
  -- what it does on its way to the verdict's place
  abbrev pub way_to : Verdict → List Action
  way_to verdict = actions_to (code_size script.family) script (place_of verdict) script.entry

  module _ (log : Log) (valid : valid_log log ≡ true) (masks : MasksInType log) (steps : ℕ) where
    -- so many steps of a start under this log: the run, its next step's effect, and the run after that step
    module _ {name : SlotName} {s : State} (start : Start script name s) where
      abbrev pub witness_from : Witness script
      witness_from = record { name = name; start = s; starts = start; log = log; valid = valid; masks = masks; steps = steps }

      abbrev pub reached : Run
      reached = run_of script witness_from

      abbrev pub effect : Effect
      effect = next_effect script witness_from

      abbrev pub after_next : Run
      after_next = run_after script witness_from

    -- these two are starts, and write differently at the place
    abbrev pub Differ : ℕ → SlotName → State → State → Type 0
    Differ place name s s' = (one : Start script name s) × (two : Start script name s') × (WriteDifferently script place (witness_from one) (witness_from two))

    -- what the next step of a start's run shows
    module _ (ranges : List ℕ) {name : SlotName} {s : State} (start : Start script name s) (place : ℕ) where
      abbrev pub Sees : Fault → Type 0
      Sees Fault.PastRam = (effect start ≡ Effect.Stopped Unreadable.Empty) ⊎ (effect start ≡ Effect.Stopped Unreadable.Short)
      Sees Fault.NotUploaded = effect start ≡ Effect.Stopped Unreadable.NotUploaded
      Sees Fault.Unknown = effect start ≡ Effect.Unknown
      -- 4: it writes at an address with the high half of the start's own ADDR, and with the two that are named there it writes differently
      Sees Fault.NoAddress =
          ((address : ℕ) × (word : ℕ) × (effect start ≡ Effect.Wrote (record { 0 = address }) word) × (address / 65536 ≡ (slot_of s name).addr.0 / 65536))
          × (Differ place name (with_addr name s 0) (with_addr name s (second_addr (fault_number Fault.NoAddress))))
      -- 5: it writes a word with the high half of the start's own DATA, and with the two that are named there it writes differently
      Sees Fault.HalfData =
          ((address : ℕ) × (word : ℕ) × (effect start ≡ Effect.Wrote (record { 0 = address }) word) × (word / 65536 ≡ (slot_of s name).«data» / 65536))
          × (Differ place name (with_data name s 0) (with_data name s (second_data (fault_number Fault.HalfData))))
      Sees Fault.Outside = (address : ℕ) × (word : ℕ) × (effect start ≡ Effect.Wrote (record { 0 = address }) word) × (listed_in ranges address ≡ false)
      -- 7: it waits with the log used up; that no log releases it is demand 3's
      Sees Fault.Unreleased = InWait name log (after_next start)
      Sees Fault.Paused = ((slot_of (after_next start).state name).mode ≡ Mode.Idle) × ((slot_of (after_next start).state name).ip.0 ≡ place)
          × (paused_of script.family (after_next start).state.flags ≡ true)
      -- 9 is no fault of a script
      Sees Fault.Input = ⊥

    -- the next step shows the verdict: of a pass it is exit's, with the reported numbers
    abbrev pub ShowsVerdict : List ℕ → {name : SlotName} {s : State} → Start script name s → Verdict → Type 0
    ShowsVerdict ranges {name} start (Verdict.Pass place count writes wait_clocks) =
        (suc steps ≡ count) × (Exact script name place.0 count writes wait_clocks (after_next start))
    ShowsVerdict ranges start (Verdict.Fault fault place) = Sees ranges start place.0 fault

    -- where the steps bring a start, with so many writes made
    pub record ShownFrom (ranges : List ℕ) (writes : ℕ) (verdict : Verdict) {name : SlotName} {s : State} (start : Start script name s) : Type 0 where
      pub there : AtPlace name (place_of verdict) (reached start)
      -- each of them fetched an instruction: none is idle, and none is a stop at the place
      pub counted : (reached start).count ≡ steps
      pub wrote : length (reached start).writes ≡ writes
      -- nothing of the log is idle: one clock is left, and ewaits passed by one of each earlier row
      pub one_left : left_of log.clocks (reached start).place ≡ 1
      pub passes_by : suc (reached start).ewaits ≡ length log.clocks
      pub shows : ShowsVerdict ranges start verdict

  -- ---- and the ranges that it may write to

  module _ (ranges : List ℕ) where
    -- what a log and a number of steps show of a verdict, from every start, in whichever slot
    pub record ShownBy (log : Log) (steps writes : ℕ) (verdict : Verdict) : Type 0 where
      pub valid : valid_log log ≡ true
      pub masks : MasksInType log
      pub few : length log.clocks ≤ max_shown
      pub shown : {name : SlotName} {s : State} (start : Start script name s) → ShownFrom log valid masks steps ranges writes verdict start

    -- the log that its own way asks for, as many steps as that has actions, and its writes
    abbrev pub OwnLogShows : Verdict → Type 0
    OwnLogShows verdict = let way = way_to verdict in ShownBy (log_of_rows (rows_over way first_row)) (length way) (writes_over way) verdict

    -- the claim: of a script that may be audited its own log shows the verdict, whichever it is
    abbrev pub Witnessed : Verdict → Type 0
    Witnessed verdict = input_fits script ranges ≡ true → OwnLogShows verdict
