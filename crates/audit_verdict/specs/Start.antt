-- The starts of demand 3 (01, "Demand 3's words").
use Rattle.std.specs.Prelude.{ℕ, ◌^◌, ◌<◌, ◌≡◌, true, false, length, get_or, eqb}
use Rattle.families.specs.Family.{code_size, max_code}
use Rattle.machine_flags.specs.Flags.{paused_of}
use Rattle.machine_state.specs.Slot.{has_slot, other_of, slot_of}
use Rattle.machine_state.specs.declared.slots.Mode.{Mode}
use Rattle.machine_state.specs.declared.slots.Slot.{Slot}
use Rattle.machine_state.specs.declared.slots.SlotName.{SlotName}
use Rattle.machine_state.specs.declared.state.State.{State}
use Rattle.event_log.specs.Log.{Log}
use Rattle.script.specs.Script.{Script}

-- every number fits its type in the code
pub record SlotInType (slot : Slot) : Type 0 where
  pub ip : slot.ip.0 < 2 ^ 64
  pub addr : slot.addr.0 < 2 ^ 32
  pub word : slot.«data» < 2 ^ 32

pub record StateInType (s : State) : Type 0 where
  pub family : s.family < 2 ^ 8
  pub code_sized : length s.code ≡ max_code
  pub code_bytes : (i : ℕ) → get_or s.code i 0 < 2 ^ 8
  pub marks_sized : length s.marks ≡ max_code
  pub marks_bytes : (i : ℕ) → get_or s.marks i 0 < 2 ^ 8
  pub values : s.flags.values < 2 ^ 32
  pub enables : s.flags.enables < 2 ^ 32
  pub entries : s.entries < 2 ^ 32
  pub entries_high : s.entries_high < 2 ^ 32
  pub a : SlotInType s.a
  pub b : SlotInType s.b

-- the same of a log's masks; its clocks are bounded by valid_log
pub record MasksInType (log : Log) : Type 0 where
  pub known_bits : (i : ℕ) → get_or log.known i 0 < 2 ^ 32
  pub value_bits : (i : ℕ) → get_or log.values i 0 < 2 ^ 32

-- a start of an audited script, in the named slot
pub record Start (script : Script) (name : SlotName) (s : State) : Type 0 where
  pub in_type : StateInType s
  -- a state of the audited family, which has the slot
  pub same_family : s.family ≡ script.family
  pub slot_there : has_slot script.family name ≡ true
  -- the bytes marked 1 are uploaded as audited, and no others are; other bytes may hold anything
  pub uploaded : (i : ℕ) → i < code_size script.family → eqb (get_or s.marks i 0) 1 ≡ eqb (get_or script.marks i 0) 1
  pub as_audited : (i : ℕ) → i < code_size script.family → get_or script.marks i 0 ≡ 1 → get_or s.code i 0 ≡ get_or script.code i 0
  -- the slot executes, not hung, blocked or in a wait, with IP at the entry; any other slot is idle
  pub executing : (slot_of s name).mode ≡ Mode.Running
  pub at_entry : (slot_of s name).ip.0 ≡ script.entry
  pub other_idle : has_slot script.family (other_of name) ≡ true → (slot_of s (other_of name)).mode ≡ Mode.Idle
  -- HWSQ_ENABLE 1, memory not paused; all else is free
  pub enabled : s.enable ≡ true
  pub not_paused : paused_of script.family s.flags ≡ false
