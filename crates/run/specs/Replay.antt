-- The run of a slot to its end, and replay (01, "Other refusals" and "Demand 3's words"): one step more than the code RAM has bytes.
use Rattle.std.specs.Prelude.{ℕ, suc, ◌+◌, ◌*◌, ◌≤◌, ◌≡◌, true, cond, not, length, take, drop, leb, Result, Ok, Err}
use mathlib.Core.List.{List, [], ◌∷◌, ◌++◌, IsPrefix}
use Rattle.families.specs.Family.{code_size, max_code}
use Rattle.refusals.specs.Number.{unreplayable_number}
use Rattle.refusals.specs.declared.refusals.Unreadable.{Unreadable}
use Rattle.refusals.specs.declared.refusals.Unreplayable.{Unreplayable}
use Rattle.log_waits.specs.Left.{left_of}
use Rattle.event_log.specs.Log.{Log}
use Rattle.event_log.specs.Validity.{valid_log, log_start}
use Rattle.machine_flags.specs.Flags.{flags_word0, flags_word1}
use Rattle.machine_flags.specs.declared.flags.Flags.{Flags}
use Rattle.machine_state.specs.declared.slots.Mode.{Mode}
use Rattle.machine_state.specs.declared.slots.Slot.{Slot}
use Rattle.machine_state.specs.declared.slots.SlotName.{SlotName}
use Rattle.machine_state.specs.declared.state.State.{State}
use Rattle.machine_slot.specs.declared.slot_steps.Effect.{Effect}
use Rattle.script.specs.Script.{Script}
use Rattle.script.specs.Input.{script_fits}
use Rattle.run.specs.Run.{Run, Write, begun, next_step, run_for}
use Rattle.run.specs.SlotRun.{Scene, script_scene, slot_script, with_log, SlotRun, slot_begun, slot_run_for, in_state, slot_run_of, Holds}
use Rattle.run.specs.Registers.{Registers, slot_given, flags_given}
use Rattle.run.specs.MoreLog.{SaysMore}
use Rattle.run.specs.Pairs.{Pairs}
use Rattle.run.specs.declared.answers.Ending.{Ending}
use Rattle.run.specs.declared.answers.Progress.{Progress}
use Rattle.run.specs.declared.answers.Replayed.{Replayed}

-- one step more than the family's code RAM has bytes
abbrev pub full_steps : ℕ → ℕ
full_steps family = suc (code_size family)

-- a slot's run of so many steps
abbrev pub full_slot_run : Scene → Slot → Flags → SlotRun
full_slot_run x slot flags = slot_run_for x (full_steps x.family) (slot_begun slot flags)

-- the run of the named slot from a state, of so many steps
abbrev pub full_run : SlotName → Log → State → Run
full_run name log s = run_for name log (full_steps s.family) (begun s)

-- how far a run came: its writes are counted
abbrev pub progress_of : SlotRun → Progress
progress_of r = record {
  slot = r.slot;
  flags = r.flags;
  place = r.place;
  steps = r.count;
  writes = length r.writes;
  waited = r.waits;
  searched = r.ewaits;
}

-- how a run ended that no step moves any more: a slot that still runs has stopped
abbrev pub ending_of : Mode → Ending
ending_of Mode.Idle = Ending.Exit
ending_of Mode.Running = Ending.Stop
ending_of Mode.Waiting = Ending.Log
ending_of Mode.Blocked = Ending.Poke
ending_of Mode.Hung = Ending.Hang

-- the number of an ending: they count from 1, so that zeros name none
abbrev pub ending_number : Ending → ℕ
ending_number Ending.Exit = 1
ending_number Ending.Log = 2
ending_number Ending.Poke = 3
ending_number Ending.Hang = 4
ending_number Ending.Stop = 5

-- what replay answers of a run over rows of these clocks
abbrev pub told_of : List ℕ → Progress → Replayed
told_of clocks p = record {
  ending = ending_of p.slot.mode;
  ip = p.slot.ip;
  addr = p.slot.addr;
  «data» = p.slot.«data»;
  flags_0 = flags_word0 p.flags;
  flags_1 = flags_word1 p.flags;
  place = p.place;
  steps = p.steps;
  writes = p.writes;
  waited = p.waited;
  searched = p.searched;
  left = left_of clocks p.place;
}

-- how far a run came, or why there was none
abbrev pub RunAnswer : Type 0
RunAnswer = Result Progress Unreplayable

-- what replay tells of a run, or why there was none
abbrev pub ReplayAnswer : Type 0
ReplayAnswer = Result Replayed Unreplayable

abbrev pub told_answer : List ℕ → RunAnswer → ReplayAnswer
told_answer clocks (Ok last) = Ok (told_of clocks last)
told_answer clocks (Err why) = Err why

-- the number that an answer stands for, 0 where it ran
abbrev pub run_number : RunAnswer → ℕ
run_number (Ok last) = 0
run_number (Err why) = unreplayable_number why

abbrev pub answer_number : ReplayAnswer → ℕ
answer_number (Ok told) = 0
answer_number (Err why) = unreplayable_number why

-- the writes that a script can make at most: each takes three bytes of a code RAM of 512, and IP never goes back
abbrev pub most_writes : ℕ
most_writes = 170

-- the entries that must be lent, two for each of them
abbrev pub max_entries : ℕ
max_entries = 340

-- the lent entries that writes fill: address and data of each, in order
abbrev pub entries_of : List Write → List ℕ
entries_of [] = []
entries_of (w ∷ writes) = w.address ∷ w.word ∷ entries_of writes

abbrev pub written_into : List ℕ → List Write → List ℕ
written_into lent writes = entries_of writes ++ drop (2 * length writes) lent

-- a scene, and the slot and the flags that a run begins with
module _ (x : Scene) (slot : Slot) (flags : Flags) where
  -- the script does not fit, fewer than 340 entries are lent, the columns are no log: tested in this order; then how far the run came
  unfoldable pub run_answer_of : ℕ → RunAnswer
  run_answer_of lent =
      cond (script_fits (slot_script x slot))
      (cond (leb max_entries lent)
      (cond (valid_log x.log)
      (Ok (progress_of (full_slot_run x slot flags)))
      (Err Unreplayable.Log))
      (Err Unreplayable.Room))
      (Err Unreplayable.Input)

  -- which number an answer must have: 9 script, 14 fewer than 340 entries lent, 15 log, tested in this order
  unfoldable pub run_refusal : ℕ → ℕ
  run_refusal lent =
      cond (not (script_fits (slot_script x slot))) 9
      (cond (not (leb max_entries lent)) 14
      (cond (not (valid_log x.log)) 15
      0))

  -- the lent entries after the answer: the writes and then as lent, and after a refusal as lent
  abbrev pub lent_after : List ℕ → RunAnswer → List ℕ
  lent_after lent (Ok last) = written_into lent (full_slot_run x slot flags).writes
  lent_after lent (Err why) = lent

  -- ---- that it is the machine's own run

  -- in every state that holds the slot so many steps of the machine are so many of the slot's own, and all else of the state stays
  abbrev pub FollowsSteps : Type 0
  FollowsSteps = (name : SlotName) (s : State) → Holds x slot flags name s → valid_log x.log ≡ true
      → (n : ℕ) → run_for name x.log n (begun s) ≡ in_state s name (slot_run_for x n (slot_begun slot flags))

  -- a script that fits is held by a state, whose arrays have room for 512 bytes
  abbrev pub IsHeld : Type 0
  IsHeld = script_fits (slot_script x slot) ≡ true
      → (s : State) × (length s.code ≡ max_code) × (length s.marks ≡ max_code) × (Holds x slot flags SlotName.A s)

  -- at most 170 writes, however many steps a script takes
  abbrev pub FewWrites : Type 0
  FewWrites = script_fits (slot_script x slot) ≡ true → (n : ℕ) → length (slot_run_for x n (slot_begun slot flags)).writes ≤ most_writes

  -- what holds of a run that ended, in every state that holds the slot, and of the lent entries, old and new
  pub record RunEnds (old new : List ℕ) (last : Progress) : Type 0 where
    -- it came as far as the machine's steps come
    pub came : (name : SlotName) (s : State) → Holds x slot flags name s → last ≡ progress_of (slot_run_of name (full_run name x.log s))
    -- and wrote what they write
    pub wrote : (name : SlotName) (s : State) → Holds x slot flags name s → new ≡ written_into old (full_run name x.log s).writes
    -- at most 170 writes
    pub few : last.writes ≤ most_writes
    -- a slot that still runs at the end is one that the next step stops
    pub stops : last.slot.mode ≡ Mode.Running
        → (why : Unreadable)
        × ((name : SlotName) (s : State) → Holds x slot flags name s → (next_step name x.log (full_run name x.log s)).effect ≡ Effect.Stopped why)
    -- the entries that it filled are the beginning of those that the run under a log that says more fills (02, ticket 12)
    pub keeps_writes : (log' : Log) → valid_log log' ≡ true → SaysMore x.log log'
        → IsPrefix (take (2 * last.writes) new) (entries_of (full_slot_run (with_log x log') slot flags).writes)
    -- the clock law: the log's total is what waits spent, what ewaits passed by and what is left
    pub clocked : left_of x.log.clocks log_start ≡ last.waited + last.searched + left_of x.log.clocks last.place

  -- a refusal ends no run
  abbrev pub EndsRight : List ℕ → List ℕ → RunAnswer → Type 0
  EndsRight old new (Ok last) = RunEnds old new last
  EndsRight old new (Err why) = Unit {0}

  -- what the run of a slot promises of its answer and of the lent entries, old and new
  pub record RunsSlot (old new : List ℕ) (answer : RunAnswer) : Type 0 where
    pub answered : answer ≡ run_answer_of (length old)
    pub numbered : run_number answer ≡ run_refusal (length old)
    pub lent : new ≡ lent_after old answer
    pub ends : EndsRight old new answer
    pub follows : FollowsSteps
    pub held : IsHeld
    pub few : FewWrites
    -- more log on worked scripts: of the definitions, and so of every run
    pub pairs : Pairs

-- at most 170 writes are told
abbrev pub TellsFew : ReplayAnswer → Type 0
TellsFew (Ok told) = told.writes ≤ most_writes
TellsFew (Err why) = Unit {0}

-- ---- replay: what is told of the run of a script from its entry, with the registers that were given

module _ (script : Script) (registers : Registers) (log : Log) where
  abbrev pub replay_scene : Scene
  replay_scene = script_scene script registers.enable log

  -- the run that is replayed
  abbrev pub replayed_run : SlotRun
  replayed_run = full_slot_run replay_scene (slot_given script registers) (flags_given registers)

  abbrev pub replay_of : ℕ → ReplayAnswer
  replay_of lent = told_answer log.clocks (run_answer_of replay_scene (slot_given script registers) (flags_given registers) lent)

  -- which number an answer must have: a run's
  abbrev pub replay_refusal : ℕ → ℕ
  replay_refusal = run_refusal replay_scene (slot_given script registers) (flags_given registers)

  -- what replay promises of its answer and of the lent entries, old and new: it tells the answer of a run of which all that holds
  pub record Replays (old new : List ℕ) (answer : ReplayAnswer) : Type 0 where
    pub answered : answer ≡ replay_of (length old)
    pub numbered : answer_number answer ≡ replay_refusal (length old)
    pub few : TellsFew answer
    pub ran : RunAnswer
    pub tells : answer ≡ told_answer log.clocks ran
    pub runs : RunsSlot replay_scene (slot_given script registers) (flags_given registers) old new ran
