-- One slot's run: what its steps read, what they change, and what they did (01, "Demand 3's words").
use Rattle.std.specs.Prelude.{ℕ, zero, suc, ◌+◌, ◌≡◌, Bool, true, false, cond, List, [], ◌++◌}
use Rattle.families.specs.Family.{known_family}
use Rattle.isa.specs.Answers.{Decoded}
use Rattle.event_log.specs.Log.{Log, lent_log}
use Rattle.event_log.specs.Validity.{log_start}
use Rattle.event_log.specs.declared.place.Place.{Place}
use Rattle.isa_fetch.specs.Fetch.{fetch_of}
use Rattle.machine_flags.specs.declared.flags.Flags.{Flags}
use Rattle.machine_state.specs.Slot.{has_slot, is_running, blank_slot, slot_of, with_slot}
use Rattle.machine_state.specs.declared.slots.Mode.{Mode}
use Rattle.machine_state.specs.declared.slots.Slot.{Slot}
use Rattle.machine_state.specs.declared.slots.SlotName.{SlotName}
use Rattle.machine_state.specs.declared.state.State.{State}
use Rattle.machine_slot.specs.SlotStep.{same_slot_step, slot_step_of}
use Rattle.machine_slot.specs.declared.slot_steps.Effect.{Effect}
use Rattle.machine_slot.specs.declared.slot_steps.SlotStep.{SlotStep}
use Rattle.script.specs.Script.{Script, script_of}
use Rattle.run.specs.Run.{Run, Write, wrote_by, fetched_by}
use Rattle.run.specs.declared.given.Scene.{Scene as Lent}

-- what a slot's steps read and none changes: the family, its code RAM with the upload marks, HWSQ_ENABLE and the log
pub record Scene : Type 0 where
  pub family : ℕ
  pub code : List ℕ
  pub marks : List ℕ
  pub enable : Bool
  pub log : Log

abbrev pub scene_for : ℕ → List ℕ → List ℕ → Bool → Log → Scene
scene_for family code marks enable log = record { family = family; code = code; marks = marks; enable = enable; log = log }

-- the scene that is lent
abbrev pub lent_scene : Lent → Scene
lent_scene s = scene_for s.ram.family s.ram.code.now s.ram.marks.now s.enable (lent_log s.log)

-- what the steps of a script read, with this HWSQ_ENABLE and under this log
abbrev pub script_scene : Script → Bool → Log → Scene
script_scene script enable log = scene_for script.family script.code script.marks enable log

-- the script that a slot runs from where it stands: its IP is the entry
abbrev pub slot_script : Scene → Slot → Script
slot_script x slot = script_of x.family x.code x.marks slot.ip.0

-- the same scene under another log
abbrev pub with_log : Scene → Log → Scene
with_log x log = scene_for x.family x.code x.marks x.enable log

-- what is fetched at a place of its code RAM
abbrev pub fetch_in : Scene → ℕ → Decoded
fetch_in x at = fetch_of x.family x.code x.marks at

-- the slot, the flags and the place that the last step left, the writes in order, how many steps fetched an instruction, and
-- the clocks spent in waits and passed by in ewaits
pub record SlotRun : Type 0 where
  pub slot : Slot
  pub flags : Flags
  pub place : Place
  pub writes : List Write
  pub count : ℕ
  pub waits : ℕ
  pub ewaits : ℕ

-- before the first step, at the log's start
abbrev pub slot_begun : Slot → Flags → SlotRun
slot_begun slot flags = record { slot = slot; flags = flags; place = log_start; writes = []; count = 0; waits = 0; ewaits = 0 }

-- with one more step noted
abbrev pub took_slot_step : SlotRun → SlotStep → SlotRun
took_slot_step r t = record {
  slot = t.slot;
  flags = t.flags;
  place = t.place;
  writes = r.writes ++ wrote_by t.effect;
  count = r.count + fetched_by t.effect;
  waits = r.waits + t.waited;
  ewaits = r.ewaits + t.searched;
}

module _ (x : Scene) where
  -- the step of a slot that runs: one instruction is fetched at IP and done
  abbrev pub slot_step_from : SlotRun → SlotStep
  slot_step_from r = slot_step_of x.family x.enable r.slot r.flags x.log r.place (fetch_in x r.slot.ip.0)

  -- its next step; a slot that is idle, waiting, blocked or hung is left alone
  abbrev pub next_slot_step : SlotRun → SlotStep
  next_slot_step r = cond (is_running r.slot.mode) (slot_step_from r) (same_slot_step r.slot r.flags r.place Effect.Nothing)

  -- its run after n more steps
  unfoldable pub slot_run_for : ℕ → SlotRun → SlotRun
  slot_run_for zero r = r
  slot_run_for (suc n) r = slot_run_for n (took_slot_step r (next_slot_step r))

-- scenes of one family, with one HWSQ_ENABLE and one log, that fetch the same at every place
pub record SameScene (x y : Scene) : Type 0 where
  pub family : x.family ≡ y.family
  pub enable : x.enable ≡ y.enable
  pub log : x.log ≡ y.log
  pub fetches : (at : ℕ) → fetch_in x at ≡ fetch_in y at

-- a slot that runs from the entry, with this ADDR and DATA
abbrev pub slot_at_entry : ℕ → ℕ → ℕ → Slot
slot_at_entry entry addr word = record { mode = Mode.Running; ip = record { 0 = entry }; addr = record { 0 = addr }; «data» = word }

-- ---- in a state

-- what any slot's steps read of a state
abbrev pub scene_of : State → Log → Scene
scene_of s log = scene_for s.family s.code s.marks s.enable log

-- a state of the scene whose slot A is this one; all that the scene has no word for is as in a fresh state
abbrev pub state_with : Scene → Slot → Flags → State
state_with x slot flags = record {
  family = x.family;
  code = x.code;
  marks = x.marks;
  flags = flags;
  enable = x.enable;
  override_mode = false;
  entries = 0;
  entries_high = 0;
  a = slot;
  b = blank_slot;
}

-- the run of a slot, put into the state in which it began: all else of the state stays
abbrev pub in_state : State → SlotName → SlotRun → Run
in_state s name r = record {
  state = with_slot s name r.slot r.flags;
  place = r.place;
  writes = r.writes;
  count = r.count;
  waits = r.waits;
  ewaits = r.ewaits;
}

-- what a state's run shows of a slot
abbrev pub slot_run_of : SlotName → Run → SlotRun
slot_run_of name r = record {
  slot = slot_of r.state name;
  flags = r.state.flags;
  place = r.place;
  writes = r.writes;
  count = r.count;
  waits = r.waits;
  ewaits = r.ewaits;
}

-- a state whose steps read this scene, with the slot under a name that its family has, and the flags
pub record Holds (x : Scene) (slot : Slot) (flags : Flags) (name : SlotName) (s : State) : Type 0 where
  pub names_family : known_family s.family ≡ true
  pub slot_there : has_slot s.family name ≡ true
  pub same_scene : SameScene (scene_of s x.log) x
  pub same_slot : slot_of s name ≡ slot
  pub same_flags : s.flags ≡ flags
