-- Slots and their modes (01, "Four card families" and "Steps and time").
use Rattle.std.specs.Prelude.{ℕ, Bool, true, false, leb}
use Rattle.families.specs.Family.{slot_count}
use Rattle.machine_state.specs.declared.slots.Mode.{Mode}
use Rattle.machine_state.specs.declared.slots.Slot.{Slot}
use Rattle.machine_state.specs.declared.slots.SlotName.{SlotName}
use Rattle.machine_state.specs.declared.state.State.{State}
use Rattle.machine_flags.specs.declared.flags.Flags.{Flags}

-- families 1 to 3 have slots A and B, family 4 slot A alone
abbrev pub has_slot : ℕ → SlotName → Bool
has_slot family SlotName.A = leb 1 (slot_count family)
has_slot family SlotName.B = leb 2 (slot_count family)

abbrev pub other_of : SlotName → SlotName
other_of SlotName.A = SlotName.B
other_of SlotName.B = SlotName.A

abbrev pub is_running : Mode → Bool
is_running Mode.Idle = false
is_running Mode.Running = true
is_running Mode.Waiting = false
is_running Mode.Blocked = false
is_running Mode.Hung = false

abbrev pub is_idle : Mode → Bool
is_idle Mode.Idle = true
is_idle Mode.Running = false
is_idle Mode.Waiting = false
is_idle Mode.Blocked = false
is_idle Mode.Hung = false

-- the number that C holds for a mode
abbrev pub mode_number : Mode → ℕ
mode_number Mode.Idle = 0
mode_number Mode.Running = 1
mode_number Mode.Waiting = 2
mode_number Mode.Blocked = 3
mode_number Mode.Hung = 4

-- a slot of a fresh state: idle, IP, ADDR and DATA 0
abbrev pub blank_slot : Slot
blank_slot = record { mode = Mode.Idle; ip = record { 0 = 0 }; addr = record { 0 = 0 }; «data» = 0 }

abbrev pub slot_of : State → SlotName → Slot
slot_of s SlotName.A = s.a
slot_of s SlotName.B = s.b

-- the state with another slot and other flags
abbrev pub with_slot : State → SlotName → Slot → Flags → State
with_slot s SlotName.A slot flags = record {
  family = s.family;
  code = s.code;
  marks = s.marks;
  flags = flags;
  enable = s.enable;
  override_mode = s.override_mode;
  entries = s.entries;
  entries_high = s.entries_high;
  a = slot;
  b = s.b;
}
with_slot s SlotName.B slot flags = record {
  family = s.family;
  code = s.code;
  marks = s.marks;
  flags = flags;
  enable = s.enable;
  override_mode = s.override_mode;
  entries = s.entries;
  entries_high = s.entries_high;
  a = s.a;
  b = slot;
}
