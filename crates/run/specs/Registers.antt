-- The registers that a replay is given: ADDR and DATA of the slot, FLAGS_0, FLAGS_1 and HWSQ_ENABLE (01, "Other refusals").
use Rattle.std.specs.Prelude.{ℕ, Bool}
use Rattle.machine_flags.specs.Flags.{flags_word0, flags_word1, flags_from_words}
use Rattle.machine_flags.specs.declared.flags.Flags.{Flags}
use Rattle.machine_state.specs.Slot.{slot_of}
use Rattle.machine_state.specs.declared.slots.Slot.{Slot}
use Rattle.machine_state.specs.declared.slots.SlotName.{SlotName}
use Rattle.machine_state.specs.declared.state.State.{State}
use Rattle.script.specs.Script.{Script}
use Rattle.run.specs.SlotRun.{slot_at_entry}
use Rattle.run.specs.declared.given.Registers.{Registers as Given}

pub record Registers : Type 0 where
  pub addr : ℕ
  pub «data» : ℕ
  pub flags_0 : ℕ
  pub flags_1 : ℕ
  pub enable : Bool

-- the registers of these five
abbrev pub registers_of : ℕ → ℕ → ℕ → ℕ → Bool → Registers
registers_of addr word flags0 flags1 enable = record { addr = addr; «data» = word; flags_0 = flags0; flags_1 = flags1; enable = enable }

-- the registers that are given
abbrev pub given_registers : Given → Registers
given_registers r = registers_of r.addr.0 r.«data» r.flags_0 r.flags_1 r.enable

-- as a slot of a state has them
abbrev pub registers_in : SlotName → State → Registers
registers_in name s = registers_of (slot_of s name).addr.0 (slot_of s name).«data» (flags_word0 s.flags) (flags_word1 s.flags) s.enable

-- the slot that runs a script from its entry with them
abbrev pub slot_given : Script → Registers → Slot
slot_given script registers = slot_at_entry script.entry registers.addr registers.«data»

-- the flags that their two words name
abbrev pub flags_given : Registers → Flags
flags_given registers = flags_from_words registers.flags_0 registers.flags_1
