-- The register STATUS (01, "Host registers"; 004, "Script execution").
use Rattle.std.specs.Prelude.{ℕ, ◌+◌, ◌*◌, ◌/◌, ◌%◌, ◌^◌, ◌≤◌, ◌<◌, ◌≡◌, ◌↔◌, ◌⊎◌, Bool, true, false, cond, not, ◌&&◌, eqb}
use Rattle.families.specs.Family.{unknown_hangs}
use Rattle.words.specs.Bits.{bit_of}
use Rattle.machine_state.specs.Slot.{has_slot, is_idle}
use Rattle.machine_state.specs.declared.slots.Mode.{Mode}
use Rattle.machine_state.specs.declared.slots.Slot.{Slot}
use Rattle.machine_state.specs.declared.slots.SlotName.{SlotName}
use Rattle.machine_state.specs.declared.state.State.{State}
use Rattle.host_registers.specs.Register.{is_high}

-- a bit of this weight, lit or not
abbrev pub bit_if : Bool → ℕ → ℕ
bit_if lit weight = cond lit weight 0

abbrev pub is_hung : Mode → Bool
is_hung Mode.Idle = false
is_hung Mode.Running = false
is_hung Mode.Waiting = false
is_hung Mode.Blocked = false
is_hung Mode.Hung = true

-- bit 9 is of families 2 and 3
abbrev pub shows_hang : ℕ → Mode → Bool
shows_hang family mode = unknown_hangs family && is_hung mode

-- bit 10 is of family 4
abbrev pub shows_bit8 : ℕ → ℕ → Bool
shows_bit8 family ip = is_high family && eqb (ip / 256 % 2) 1

-- bits 0 to 7 low IP, 8 executing, 9 hung (families 2 and 3), 10 bit 8 of IP (family 4)
unfoldable pub slot_status : ℕ → Slot → ℕ
slot_status family slot =
    slot.ip.0 % 256 + bit_if (not (is_idle slot.mode)) 256 + bit_if (shows_hang family slot.mode) 512 + bit_if (shows_bit8 family slot.ip.0) 1024

-- slot A in the low half, slot B in the high half, which is 0 on family 4
unfoldable pub status_word : State → ℕ
status_word s =
    cond (has_slot s.family SlotName.B)
    (slot_status s.family s.a + 65536 * slot_status s.family s.b)
    (slot_status s.family s.a)

-- ---- what is promised of it, bit by bit

-- a half of STATUS shows this slot: each bit by its number
pub record ShowsSlot (family : ℕ) (slot : Slot) (half : ℕ) : Type 0 where
  pub low_ip : half % 2 ^ 8 ≡ slot.ip.0 % 2 ^ 8
  pub executing : (bit_of half 8 ≡ 1) ↔ (slot.mode ≡ Mode.Idle → ⊥)
  pub hung : (bit_of half 9 ≡ 1) ↔ ((family ≡ 2) ⊎ (family ≡ 3)) × (slot.mode ≡ Mode.Hung)
  pub ip_bit_8 : (bit_of half 10 ≡ 1) ↔ (family ≡ 4) × (bit_of slot.ip.0 8 ≡ 1)
  -- bits without meaning read 0
  pub no_more : half < 2 ^ 11

-- bits 0 to 15 are slot A's; bits 16 to 31 slot B's on families 1 to 3, and 0 on family 4
pub record ShowsStatus (s : State) (word : ℕ) : Type 0 where
  pub slot_a : ShowsSlot s.family s.a (word % 2 ^ 16)
  pub slot_b : 1 ≤ s.family → s.family ≤ 3 → ShowsSlot s.family s.b (word / 2 ^ 16)
  pub one_slot : s.family ≡ 4 → word / 2 ^ 16 ≡ 0
