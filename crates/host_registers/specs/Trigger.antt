-- Starting and aborting (01, "Host registers"; 004, "Script execution").
use Rattle.std.specs.Prelude.{ℕ, ◌+◌, ◌*◌, ◌/◌, ◌%◌, ◌≤◌, ◌≡◌, ◌⊎◌, Bool, cond, ◌&&◌, eqb}
use Rattle.words.specs.Bits.{bit_of}
use Rattle.machine_state.specs.Slot.{has_slot, slot_of, with_slot}
use Rattle.machine_state.specs.declared.slots.Mode.{Mode}
use Rattle.machine_state.specs.declared.slots.Slot.{Slot}
use Rattle.machine_state.specs.declared.slots.SlotName.{SlotName}
use Rattle.machine_state.specs.declared.state.State.{State}
use Rattle.host_registers.specs.Entry.{entry_point}

-- bit 0 starts, and aborts where it is clear
abbrev pub is_start : ℕ → Bool
is_start word = eqb (word % 2) 1

-- bit 1 means slot A where it is set, and B where it is clear; a family with one slot ignores it
abbrev pub slot_named : ℕ → ℕ → SlotName
slot_named family word = cond (has_slot family SlotName.B && eqb (word / 2 % 2) 0) SlotName.B SlotName.A

-- a start sets IP; ADDR and DATA stay from script to script
abbrev pub started_at : Slot → ℕ → Slot
started_at slot entry = record { mode = Mode.Running; ip = record { 0 = entry }; addr = slot.addr; «data» = slot.«data» }

-- an abort stops the slot and clears the hang; on an idle slot it does nothing
abbrev pub aborted : Slot → Slot
aborted slot = record { mode = Mode.Idle; ip = slot.ip; addr = slot.addr; «data» = slot.«data» }

-- bits 2 and 3 choose the entry point of a start
unfoldable pub after_trigger : State → ℕ → State
after_trigger s word =
    let name = slot_named s.family word in
    let slot = slot_of s name in
    cond (is_start word)
    (with_slot s name (started_at slot (entry_point s.family s.entries s.entries_high (word / 4 % 4))) s.flags)
    (with_slot s name (aborted slot) s.flags)

-- ---- what is promised of it, bit by bit

-- the slot that a word means, before and after: bit 0 starts it at the entry point that bits 2 and 3 choose, and clear stops it where it is
pub record TriggersSlot (s : State) (word : ℕ) (old new : Slot) : Type 0 where
  pub start : bit_of word 0 ≡ 1
      → (new.mode ≡ Mode.Running) × (new.ip.0 ≡ entry_point s.family s.entries s.entries_high (bit_of word 2 + 2 * bit_of word 3))
  pub abort : bit_of word 0 ≡ 0 → (new.mode ≡ Mode.Idle) × (new.ip ≡ old.ip)

-- bit 1 set means slot A, clear slot B on families 1 to 3; family 4 has slot A alone, whatever the bit. The other slot stays as it is
pub record Triggers (s : State) (word : ℕ) (t : State) : Type 0 where
  pub slot_a : (s.family ≡ 4) ⊎ (bit_of word 1 ≡ 1) → TriggersSlot s word s.a t.a × (t.b ≡ s.b)
  pub slot_b : 1 ≤ s.family → s.family ≤ 3 → bit_of word 1 ≡ 0 → TriggersSlot s word s.b t.b × (t.a ≡ s.a)
