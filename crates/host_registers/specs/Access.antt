-- A fresh state, and the host's writes and reads (01, "Host registers"; 004, "MMIO registers").
use Rattle.std.specs.Prelude.{ℕ, ◌+◌, ◌/◌, ◌%◌, Bool, false, cond, not, ◌&&◌, ◌||◌, eqb, replicate, Result, Ok, Err}
use Rattle.families.specs.Family.{known_family, max_code}
use Rattle.isa.specs.declared.addresses.MmioAddress.{MmioAddress}
use Rattle.machine_flags.specs.Flags.{flags_word0, flags_word1, flags_from_words}
use Rattle.machine_state.specs.Slot.{blank_slot, with_slot}
use Rattle.machine_state.specs.declared.slots.SlotName.{SlotName}
use Rattle.machine_state.specs.declared.state.State.{State}
use Rattle.host_registers.specs.Code.{after_upload, code_word}
use Rattle.host_registers.specs.Entry.{entry_bits}
use Rattle.machine_execution.specs.Execution.{some_slot_executes}
use Rattle.host_registers.specs.Register.{trigger_at, register_at, is_writable}
use Rattle.host_registers.specs.Status.{bit_if, status_word}
use Rattle.host_registers.specs.Trigger.{is_start, after_trigger}
use Rattle.host_registers.specs.declared.access.Access.{Access}
use Rattle.refusals.specs.declared.refusals.Inaccessible.{Inaccessible}
use Rattle.host_registers.specs.declared.registers.Register.{Register}

abbrev pub done : State → Access
done s = record { state = s; outcome = Ok tt }

-- a refusal leaves the state as it is
abbrev pub refused : State → Inaccessible → Access
refused s why = record { state = s; outcome = Err why }

-- every register 0, nothing uploaded, both slots blank
unfoldable pub blank_state : ℕ → State
blank_state family = record {
  family = family;
  code = replicate max_code 0;
  marks = replicate max_code 0;
  flags = record { values = 0; enables = 0 };
  enable = false;
  override_mode = false;
  entries = 0;
  entries_high = 0;
  a = blank_slot;
  b = blank_slot;
}

-- a fresh state; with a refusal comes the same state of the number that names no family
abbrev pub fresh_of : ℕ → Access
fresh_of family = cond (known_family family) (done (blank_state family)) (refused (blank_state family) Inaccessible.Family)

-- 001098: bit 3 is HWSQ_ENABLE, bit 4 the override mode; other bits are ignored, and read 0
abbrev pub with_control : State → ℕ → State
with_control s word = record {
  family = s.family;
  code = s.code;
  marks = s.marks;
  flags = s.flags;
  enable = eqb (word / 8 % 2) 1;
  override_mode = eqb
      (word / 16 % 2) 1;
  entries = s.entries;
  entries_high = s.entries_high;
  a = s.a;
  b = s.b;
}

abbrev pub control_word : Bool → Bool → ℕ
control_word enable override = bit_if enable 8 + bit_if override 16

abbrev pub with_entries : State → ℕ → ℕ → State
with_entries s low high = record {
  family = s.family;
  code = s.code;
  marks = s.marks;
  flags = s.flags;
  enable = s.enable;
  override_mode = s.override_mode;
  entries = low;
  entries_high = high;
  a = s.a;
  b = s.b;
}

abbrev pub with_flags : State → ℕ → ℕ → State
with_flags s word0 word1 = with_slot s SlotName.A s.a (flags_from_words word0 word1)

-- what a write does to each register that takes one
abbrev pub after_write : State → Register → ℕ → State
after_write s Register.Control word = with_control s word
after_write s Register.EntryPoint word = with_entries s word s.entries_high
after_write s Register.Status word = s
after_write s Register.Trigger word = after_trigger s word
after_write s Register.Flags0 word = with_flags s word (flags_word1 s.flags)
after_write s Register.Flags1 word = with_flags s (flags_word0 s.flags) word
after_write s Register.EntryPointHigh word = with_entries s s.entries (entry_bits word)
after_write s (Register.Code at) word = after_upload s at.0 word
after_write s Register.Events word = s
after_write s Register.Unlisted word = s

-- a trigger with bit 0 clear
abbrev pub is_abort : MmioAddress → ℕ → Bool
is_abort address word = eqb address.0 trigger_at && not (is_start word)

-- while a slot executes, only an abort is taken
abbrev pub is_taken : State → MmioAddress → ℕ → Bool
is_taken s address word = is_abort address word || not (some_slot_executes s)

-- a write is tested for the family, for a writable register of it, and for being taken now, in this order
unfoldable pub write_of : State → MmioAddress → ℕ → Access
write_of s address word =
    let register = register_at s.family address in
    cond (known_family s.family)
    (cond (is_writable register)
    (cond (is_taken s address word)
    (done (after_write s register word))
    (refused s Inaccessible.Executing))
    (refused s Inaccessible.Register))
    (refused s Inaccessible.Family)

-- what each register reads as; TRIGGER is write only, and EVENTS is not read either
abbrev pub reading_of : State → Register → Result ℕ Inaccessible
reading_of s Register.Control = Ok (control_word s.enable s.override_mode)
reading_of s Register.EntryPoint = Ok s.entries
reading_of s Register.Status = Ok (status_word s)
reading_of s Register.Trigger = Err Inaccessible.Register
reading_of s Register.Flags0 = Ok (flags_word0 s.flags)
reading_of s Register.Flags1 = Ok (flags_word1 s.flags)
reading_of s Register.EntryPointHigh = Ok (entry_bits s.entries_high)
reading_of s (Register.Code at) = Ok (code_word s at.0)
reading_of s Register.Events = Err Inaccessible.Register
reading_of s Register.Unlisted = Err Inaccessible.Register

-- a read is refused for the family first
unfoldable pub read_of : State → MmioAddress → Result ℕ Inaccessible
read_of s address = cond (known_family s.family) (reading_of s (register_at s.family address)) (Err Inaccessible.Family)
