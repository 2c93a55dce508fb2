-- What the host's calls promise of their answers.
use Rattle.std.specs.Prelude.{ℕ, ◌*◌, ◌/◌, ◌%◌, ◌≡◌, Bool, true, false, cond, not, ◌&&◌, Result, Ok, Err}
use Rattle.families.specs.Family.{known_family}
use Rattle.isa.specs.declared.addresses.MmioAddress.{MmioAddress}
use Rattle.machine_state.specs.Slot.{slot_of}
use Rattle.machine_state.specs.declared.slots.Mode.{Mode}
use Rattle.machine_state.specs.declared.slots.SlotName.{SlotName}
use Rattle.machine_state.specs.declared.state.State.{State}
use Rattle.host_registers.specs.Access.{fresh_of, write_of, read_of, is_abort}
use Rattle.refusals.specs.Number.{inaccessible_number}
use Rattle.refusals.specs.declared.refusals.Inaccessible.{Inaccessible}
use Rattle.host_registers.specs.Entry.{entry_bits}
use Rattle.machine_execution.specs.Execution.{some_slot_executes}
use Rattle.host_registers.specs.Register.{status_at, trigger_at, register_at, is_writable}
use Rattle.host_registers.specs.Status.{ShowsStatus}
use Rattle.host_registers.specs.Trigger.{is_start, slot_named, Triggers}
use Rattle.host_registers.specs.declared.access.Access.{Access}
use Rattle.host_registers.specs.declared.registers.Register.{Register}

-- the number that an outcome stands for, 0 where nothing was refused
abbrev pub outcome_number : Result Unit Inaccessible → ℕ
outcome_number (Ok tt) = 0
outcome_number (Err why) = inaccessible_number why

abbrev pub reading_number : Result ℕ Inaccessible → ℕ
reading_number (Ok word) = 0
reading_number (Err why) = inaccessible_number why

-- which number a fresh state must have: 9 where the number names no family
abbrev pub fresh_refusal : ℕ → ℕ
fresh_refusal family = cond (not (known_family family)) 9 0

-- which number a write must have: 9 family, 27 no writable register of it, 28 a slot executes and this is no abort, tested in this order
unfoldable pub write_refusal : State → MmioAddress → ℕ → ℕ
write_refusal s address word =
    let register = register_at s.family address in
    cond (not (known_family s.family)) 9
    (cond (not (is_writable register)) 27
    (cond (some_slot_executes s && not (is_abort address word)) 28
    0))

-- TRIGGER is write only, EVENTS is not read either
abbrev pub is_readable : Register → Bool
is_readable Register.Control = true
is_readable Register.EntryPoint = true
is_readable Register.Status = true
is_readable Register.Trigger = false
is_readable Register.Flags0 = true
is_readable Register.Flags1 = true
is_readable Register.EntryPointHigh = true
is_readable (Register.Code at) = true
is_readable Register.Events = false
is_readable Register.Unlisted = false

-- which number a read must have: 9 family, 27 no readable register of it
unfoldable pub read_refusal : State → MmioAddress → ℕ
read_refusal s address = cond (not (known_family s.family)) 9 (cond (not (is_readable (register_at s.family address))) 27 0)

-- a refused write leaves the state as it is
abbrev pub Unmoved : State → State → Result Unit Inaccessible → Type 0
Unmoved s t (Ok tt) = Unit {0}
Unmoved s t (Err why) = t ≡ s

-- no host write reaches the family, or a slot's ADDR and DATA
pub record Spares (s t : State) : Type 0 where
  pub family : t.family ≡ s.family
  pub addr : (name : SlotName) → (slot_of t name).addr ≡ (slot_of s name).addr
  pub «data» : (name : SlotName) → (slot_of t name).«data» ≡ (slot_of s name).«data»

-- an abort is taken whatever executes, and its slot is idle then, hung or not before, with IP where it was
pub record Stops (s : State) (name : SlotName) (answer : Access) : Type 0 where
  pub taken : answer.outcome ≡ Ok tt
  pub idle : (slot_of answer.state name).mode ≡ Mode.Idle
  pub ip : (slot_of answer.state name).ip ≡ (slot_of s name).ip
  -- on an idle slot it does nothing
  pub still : (slot_of s name).mode ≡ Mode.Idle → answer.state ≡ s

-- the bits that a register keeps of a word: two in 001098, four in ENTRY_POINT_HIGH, all in the others
abbrev pub kept_bits : Register → ℕ → ℕ
kept_bits Register.Control word = word / 8 % 4 * 8
kept_bits Register.EntryPoint word = word
kept_bits Register.Status word = word
kept_bits Register.Trigger word = word
kept_bits Register.Flags0 word = word
kept_bits Register.Flags1 word = word
kept_bits Register.EntryPointHigh word = entry_bits word
kept_bits (Register.Code at) word = word
kept_bits Register.Events word = word
kept_bits Register.Unlisted word = word

pub record Begins (family : ℕ) (answer : Access) : Type 0 where
  pub answered : answer ≡ fresh_of family
  pub numbered : outcome_number answer.outcome ≡ fresh_refusal family

-- what a word does that TRIGGER takes
abbrev pub TakenTrigger : State → MmioAddress → ℕ → Access → Type 0
TakenTrigger s address word answer = address.0 ≡ trigger_at → answer.outcome ≡ Ok tt → Triggers s word answer.state

-- a write whose code is stored in place
pub record WritesInPlace (s : State) (address : MmioAddress) (word : ℕ) (answer : Access) : Type 0 where
  pub answered : answer ≡ write_of s address word
  pub numbered : outcome_number answer.outcome ≡ write_refusal s address word
  pub unmoved : Unmoved s answer.state answer.outcome
  pub triggers : TakenTrigger s address word answer

pub record HostWrites (s : State) (address : MmioAddress) (word : ℕ) (answer : Access) : Type 0 where
  pub answered : answer ≡ write_of s address word
  pub numbered : outcome_number answer.outcome ≡ write_refusal s address word
  pub unmoved : Unmoved s answer.state answer.outcome
  pub triggers : TakenTrigger s address word answer
  pub spares : Spares s answer.state
  pub stops : known_family s.family ≡ true → address.0 ≡ trigger_at → is_start word ≡ false → Stops s (slot_named s.family word) answer
  -- what was written reads back
  pub reads_back : answer.outcome ≡ Ok tt → is_readable (register_at s.family address) ≡ true
      → read_of answer.state address ≡ Ok (kept_bits (register_at s.family address) word)
  -- EVENTS is not writable
  pub events : known_family s.family ≡ true → address.0 ≡ 0x001578 → outcome_number answer.outcome ≡ 27

pub record HostReads (s : State) (address : MmioAddress) (answer : Result ℕ Inaccessible) : Type 0 where
  pub answered : answer ≡ read_of s address
  pub numbered : reading_number answer ≡ read_refusal s address
  -- STATUS reads as a word that shows both slots
  pub status : known_family s.family ≡ true → address.0 ≡ status_at → (word : ℕ) × (answer ≡ Ok word) × ShowsStatus s word
  -- TRIGGER and EVENTS are not readable
  pub trigger : known_family s.family ≡ true → address.0 ≡ trigger_at → reading_number answer ≡ 27
  pub events : known_family s.family ≡ true → address.0 ≡ 0x001578 → reading_number answer ≡ 27
