-- Demand 3: what a verdict of the auditor means for whole runs. One claim, `Demand3`, about every verdict.
use Rattle.std.specs.Prelude.{ℕ, suc, ◌+◌, ◌≤◌, ◌<◌, ◌≡◌, ◌⊎◌, Bool, true, false, List, [], ◌∷◌, length, Ok}
use Rattle.families.specs.Family.{code_size}
use Rattle.refusals.specs.declared.refusals.Unreadable.{Unreadable}
use Rattle.event_log.specs.Log.{Log}
use Rattle.event_log.specs.Validity.{valid_log}
use Rattle.machine_flags.specs.Flags.{paused_of}
use Rattle.machine_flags.specs.declared.flags.Flags.{Flags}
use Rattle.machine_state.specs.Slot.{has_slot, slot_of, with_slot}
use Rattle.machine_state.specs.declared.slots.Mode.{Mode}
use Rattle.machine_state.specs.declared.slots.SlotName.{SlotName}
use Rattle.machine_state.specs.declared.state.State.{State}
use Rattle.machine_slot.specs.declared.slot_steps.Effect.{Effect}
use Rattle.script.specs.Script.{Script}
use Rattle.script.specs.Input.{listed_in, script_fits, input_fits}
use Rattle.run.specs.Run.{Run, Write, begun, next_step, run_for}
use Rattle.run.specs.SlotRun.{script_scene, slot_at_entry, slot_run_of, Holds}
use Rattle.run.specs.MoreLog.{Unfinished, RowsAdded, ReadingsFilled}
use Rattle.run.specs.Registers.{registers_in}
use Rattle.run.specs.Replay.{max_entries, full_run, progress_of, ending_of, told_of, replayed_run, replay_of}
use Rattle.audit_verdict.specs.Start.{Start, MasksInType}
use Rattle.refusals.specs.declared.refusals.Fault.{Fault}
use Rattle.audit_verdict.specs.declared.verdicts.Verdict.{Verdict}
use Rattle.run.specs.declared.answers.Ending.{Ending}

-- every address written is listed
abbrev pub AllListed : List ℕ → List Write → Type 0
AllListed ranges [] = Unit {0}
AllListed ranges (w ∷ writes) = (listed_in ranges w.address ≡ true) × AllListed ranges writes

-- a step that was not refused, met no unknown opcode and did not leave the uploaded code
abbrev pub Orderly : Effect → Type 0
Orderly (Effect.Refused why) = ⊥
Orderly Effect.Nothing = Unit {0}
Orderly (Effect.Stopped why) = ⊥
Orderly Effect.Unknown = ⊥
Orderly Effect.Done = Unit {0}
Orderly (Effect.Wrote address word) = Unit {0}

-- a step that did not even try to fetch: a stop is a fetch that failed
abbrev pub Fetchless : Effect → Type 0
Fetchless (Effect.Refused why) = Unit {0}
Fetchless Effect.Nothing = Unit {0}
Fetchless (Effect.Stopped why) = ⊥
Fetchless Effect.Unknown = ⊥
Fetchless Effect.Done = ⊥
Fetchless (Effect.Wrote address word) = ⊥

-- the endings of runs that neither hung nor stopped
abbrev pub EndsWell : Ending → Type 0
EndsWell Ending.Exit = Unit {0}
EndsWell Ending.Log = Unit {0}
EndsWell Ending.Poke = Unit {0}
EndsWell Ending.Hang = ⊥
EndsWell Ending.Stop = ⊥

-- ---- where the run of a slot stands

module _ (name : SlotName) where
  -- the next step fetches at the place
  pub record AtPlace (place : ℕ) (r : Run) : Type 0 where
    pub runs : (slot_of r.state name).mode ≡ Mode.Running
    pub ip : (slot_of r.state name).ip.0 ≡ place

  -- in a wait with the log used up
  pub record InWait (log : Log) (r : Run) : Type 0 where
    pub waits : Unfinished name r
    pub row : r.place.row ≡ length log.clocks
    pub used : r.place.used ≡ 0

-- the state with another ADDR, or another DATA, in a slot, and else the same
abbrev pub with_addr : SlotName → State → ℕ → State
with_addr name s addr = let slot = slot_of s name in
    with_slot s name (record { mode = slot.mode; ip = slot.ip; addr = record { 0 = addr }; «data» = slot.«data» }) s.flags

abbrev pub with_data : SlotName → State → ℕ → State
with_data name s word = let slot = slot_of s name in
    with_slot s name (record { mode = slot.mode; ip = slot.ip; addr = slot.addr; «data» = word }) s.flags

-- one audited script
module _ (script : Script) where
  module _ (name : SlotName) where
    -- exit's step is done: IP on it, slot idle, as no step but exit's leaves it, and memory runs
    pub record AtExit (place : ℕ) (r : Run) : Type 0 where
      pub idle : (slot_of r.state name).mode ≡ Mode.Idle
      pub ip : (slot_of r.state name).ip.0 ≡ place
      pub memory_runs : paused_of script.family r.state.flags ≡ false

    -- the numbers of the verdict are the run's
    pub record Exact (place count writes wait_clocks : ℕ) (r : Run) : Type 0 where
      pub exit : AtExit place r
      pub counted : r.count ≡ count
      pub wrote : length r.writes ≡ writes
      pub waited : r.waits ≡ wait_clocks

  -- replay with a start's registers, with entries enough lent, tells the run's own ending, state, place, steps and sums, and its writes in order
  abbrev pub ReplayTells : SlotName → State → Log → ℕ → Type 0
  ReplayTells name s log lent =
      (replay_of script (registers_in name s) log lent ≡ Ok (told_of log.clocks (progress_of (slot_run_of name (full_run name log s)))))
      × ((replayed_run script (registers_in name s) log).writes ≡ (full_run name log s).writes)

  -- of every start and every log
  abbrev pub ReplayTellsAll : Type 0
  ReplayTellsAll = (name : SlotName) (s : State) → Start script name s → (log : Log) → valid_log log ≡ true
      → (lent : ℕ) → max_entries ≤ lent → ReplayTells name s log lent

  -- ---- a run that shows a fault

  -- a run of a start, n steps under a log
  pub record Witness : Type 0 where
    pub name : SlotName
    pub start : State
    pub starts : Start script name start
    pub log : Log
    pub valid : valid_log log ≡ true
    pub masks : MasksInType log
    pub steps : ℕ

  abbrev pub run_of : Witness → Run
  run_of w = run_for w.name w.log w.steps (begun w.start)

  -- what the step after so many does, from any state under the same log
  abbrev pub effect_from : Witness → SlotName → State → Effect
  effect_from w name s = (next_step name w.log (run_for name w.log w.steps (begun s))).effect

  -- its next step: what it did, and the run after it
  abbrev pub next_effect : Witness → Effect
  next_effect w = effect_from w w.name w.start

  abbrev pub run_after : Witness → Run
  run_after w = run_for w.name w.log (suc w.steps) (begun w.start)

  -- from every start that step writes at one address, so that the script has set ADDR
  abbrev pub OneAddress : Witness → Type 0
  OneAddress w = (address : ℕ) × ((name : SlotName) (s : State) → Start script name s
      → (word : ℕ) × (effect_from w name s ≡ Effect.Wrote (record { 0 = address }) word))

  -- two starts, one log, equally many steps: both at the place, and they write differently there
  pub record WriteDifferently (place : ℕ) (one two : Witness) : Type 0 where
    pub same_slot : one.name ≡ two.name
    pub same_log : one.log ≡ two.log
    pub same_steps : one.steps ≡ two.steps
    pub first : AtPlace one.name place (run_of one)
    pub second : AtPlace two.name place (run_of two)
    pub address : ℕ
    pub word : ℕ
    pub address' : ℕ
    pub word' : ℕ
    pub writes : next_effect one ≡ Effect.Wrote (record { 0 = address }) word
    pub writes' : next_effect two ≡ Effect.Wrote (record { 0 = address' }) word'
    pub differ : (address ≡ address') → (word ≡ word') → ⊥

  -- ---- what its verdict means, with the ranges that it may write to

  module _ (ranges : List ℕ) where
    -- what holds of a run of a passed script after n steps
    pub record Safe (name : SlotName) (place count writes wait_clocks : ℕ) (log : Log) (n : ℕ) (r : Run) : Type 0 where
      -- "wrote only listed addresses"
      pub listed : AllListed ranges r.writes
      -- "met no unknown opcode, never left the uploaded code", none of its steps refused: said of the next step, after any number of steps
      pub orderly : Orderly (next_step name log r).effect
      -- "ends at exit with memory running or in a wait with the log used up"
      pub ended : code_size script.family ≤ n → (AtExit name place r) ⊎ (InWait name log r)
      -- "with exactly the reported place and counts"
      pub exact : (slot_of r.state name).mode ≡ Mode.Idle → Exact name place count writes wait_clocks r

    -- what a pass means
    pub record PassMeans (place count writes wait_clocks : ℕ) : Type 0 where
      -- "from every start, under every log, after any number of steps"
      pub safe : (name : SlotName) (s : State) → Start script name s → (log : Log) → valid_log log ≡ true
          → (n : ℕ) → Safe name place count writes wait_clocks log n (run_for name log n (begun s))
      -- what it writes is its own: under one log, equally many steps from any two starts have written the same
      pub same_writes : (name name' : SlotName) (s s' : State) → Start script name s → Start script name' s' → (log : Log) → valid_log log ≡ true
          → (n : ℕ) → (run_for name log n (begun s)).writes ≡ (run_for name' log n (begun s')).writes
      -- more log, never fewer writes (02, ticket 12): rows added at the end take back or change no write, they only add after it
      pub rows_added : (name : SlotName) (s : State) → Start script name s → RowsAdded name s
      -- and readings filled in, known ones unchanged, make no wait end later, so that the writes made before are the beginning of those made now
      pub readings_filled : (name : SlotName) (s : State) → Start script name s → ReadingsFilled name s
      -- each instruction takes a byte of the code RAM at least
      pub bounded : count ≤ code_size script.family
      -- "some log brings it to exit"
      pub reaches : (name : SlotName) (s : State) → Start script name s
          → (log : Log) × (n : ℕ) × (valid_log log ≡ true) × (MasksInType log) × (AtExit name place (run_for name log n (begun s)))
      -- "replay answers what the steps give"
      pub replays : ReplayTellsAll
      -- a job may start it with HWSQ_ENABLE 0 or memory paused, which no start is: it ends at exit, with the log or at a poke all the same
      pub ends : (enable : Bool) (log : Log) (addr word : ℕ) (flags : Flags) (name : SlotName) (s : State)
          → Holds (script_scene script enable log) (slot_at_entry script.entry addr word) flags name s → valid_log log ≡ true
          → EndsWell (ending_of (slot_of (full_run name log s).state name).mode)

    -- "the first fault": on the way no start's run stops or meets an unknown opcode, all write the same, and only at listed addresses
    pub record NoneBefore (w : Witness) : Type 0 where
      pub orderly : (name : SlotName) (s : State) → Start script name s
          → (n : ℕ) → n < w.steps → Orderly (next_step name w.log (run_for name w.log n (begun s))).effect
      pub same_writes : (name : SlotName) (s : State) → Start script name s → (run_for name w.log w.steps (begun s)).writes ≡ (run_of w).writes
      pub listed : AllListed ranges (run_of w).writes

    -- some log brings a start to the place, with no fault before it, and there its run shows this
    abbrev pub Shows : ℕ → (Witness → Type 0) → Type 0
    Shows place P = (w : Witness) × (AtPlace w.name place (run_of w)) × (NoneBefore w) × (P w)

    -- what a fault means: a run that shows it
    abbrev pub FaultMeans : Fault → ℕ → Type 0
    -- 1: that step stops for a byte past the code RAM, at the opcode or in its operands
    FaultMeans Fault.PastRam place =
        Shows place (λ w. (next_effect w ≡ Effect.Stopped Unreadable.Empty) ⊎ (next_effect w ≡ Effect.Stopped Unreadable.Short))
    -- 2: it stops for a byte never uploaded
    FaultMeans Fault.NotUploaded place = Shows place (λ w. next_effect w ≡ Effect.Stopped Unreadable.NotUploaded)
    -- 3: it meets an unknown opcode
    FaultMeans Fault.Unknown place = Shows place (λ w. next_effect w ≡ Effect.Unknown)
    -- 4: two starts that differ only in ADDR write differently there
    FaultMeans Fault.NoAddress place =
        Shows place (λ one. (two : Witness) × (addr : ℕ) × (two.start ≡ with_addr one.name one.start addr) × (WriteDifferently place one two))
    -- 5: two starts that differ only in DATA write differently there; not 4, which comes first
    FaultMeans Fault.HalfData place = Shows place (λ one.
        ((two : Witness) × (word : ℕ) × (two.start ≡ with_data one.name one.start word) × (WriteDifferently place one two)) × (OneAddress one))
    -- 6: it writes outside every range; neither 4 nor 5, which come first: every start writes this
    FaultMeans Fault.Outside place = Shows place (λ w. (address : ℕ) × (word : ℕ) × (listed_in ranges address ≡ false)
        × ((name : SlotName) (s : State) → Start script name s → effect_from w name s ≡ Effect.Wrote (record { 0 = address }) word))
    -- 7: some log brings a run there, its step waits, and no log lets a run from any start fetch again after that step
    FaultMeans Fault.Unreleased place = (Shows place (λ w. (slot_of (run_after w).state w.name).mode ≡ Mode.Waiting))
        × ((name : SlotName) (s : State) → Start script name s → (log : Log) → valid_log log ≡ true
        → (n : ℕ) → AtPlace name place (run_for name log n (begun s))
        → (m : ℕ) → Fetchless (next_step name log (run_for name log (suc (n + m)) (begun s))).effect)
    -- 8: it exits there with memory paused
    FaultMeans Fault.Paused place = Shows place (λ w. ((slot_of (run_after w).state w.name).mode ≡ Mode.Idle)
        × ((slot_of (run_after w).state w.name).ip.0 ≡ place) × (paused_of script.family (run_after w).state.flags ≡ true))
    -- 9: its row applies, and its place is 0
    FaultMeans Fault.Input place = (input_fits script ranges ≡ false) × (place ≡ 0)

    abbrev pub VerdictMeans : Verdict → Type 0
    VerdictMeans (Verdict.Pass place count writes wait_clocks) = PassMeans place.0 count writes wait_clocks
    VerdictMeans (Verdict.Fault fault place) = FaultMeans fault place.0

    -- the claim about the auditor's verdict
    pub record Demand3 (verdict : Verdict) : Type 0 where
      pub means : VerdictMeans verdict
      -- 9 exactly where its row says: there, and by `means` nowhere else
      pub input : input_fits script ranges ≡ false → verdict ≡ Verdict.Fault Fault.Input (record { 0 = 0 })
      -- "replay answers what the steps give": of a script with a fault too, if replay takes it
      pub replays : script_fits script ≡ true → ReplayTellsAll
      -- a script that may be audited has starts in each slot of its family, so that what is said of every start is said of some
      pub starts : input_fits script ranges ≡ true → (name : SlotName) → has_slot script.family name ≡ true → (s : State) × (Start script name s)
