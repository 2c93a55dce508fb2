-- What a fetched instruction does, a function for each part of the state (01, "Instructions" and "Steps and time").
use Rattle.std.specs.Prelude.{ℕ, ◌+◌, Bool, cond, Ok, Err}
use Rattle.families.specs.Family.{unknown_hangs}
use Rattle.isa.specs.Answers.{Decoded}
use Rattle.refusals.specs.declared.refusals.Unreadable.{Unreadable}
use Rattle.event_log.specs.Log.{Log}
use Rattle.event_log.specs.declared.place.Place.{Place}
use Rattle.machine_actions.specs.Action.{action_of, merge_of}
use Rattle.machine_flags.specs.Flags.{changed_flags}
use Rattle.machine_time.specs.Time.{elapsed_of}
use Rattle.machine_actions.specs.declared.actions.Action.{Action}
use Rattle.machine_flags.specs.declared.flags.Flags.{Flags}
use Rattle.machine_state.specs.declared.slots.Mode.{Mode}
use Rattle.machine_state.specs.declared.slots.Slot.{Slot}
use Rattle.machine_time.specs.declared.elapsed.Elapsed.{Elapsed}
use Rattle.machine_slot.specs.declared.slot_steps.Effect.{Effect}
use Rattle.machine_slot.specs.declared.slot_steps.SlotStep.{SlotStep}

-- an unfinished wait holds the slot; with HWSQ_ENABLE 0 a poke blocks it; exit ends the script
abbrev pub mode_after : Action → Bool → Bool → Mode
mode_after (Action.Wait n) enable finished = cond finished Mode.Running Mode.Waiting
mode_after (Action.Ewait event value) enable finished = cond finished Mode.Running Mode.Waiting
mode_after (Action.Flag change flag) enable finished = Mode.Running
mode_after (Action.Load part word) enable finished = Mode.Running
mode_after (Action.Poke part word) enable finished = cond enable Mode.Running Mode.Blocked
mode_after Action.Exit enable finished = Mode.Idle

-- IP moves past the instruction, exit excepted
abbrev pub ip_after : Action → ℕ → ℕ → ℕ
ip_after (Action.Wait n) at next = next
ip_after (Action.Ewait event value) at next = next
ip_after (Action.Flag change flag) at next = next
ip_after (Action.Load part word) at next = next
ip_after (Action.Poke part word) at next = next
ip_after Action.Exit at next = at

abbrev pub addr_after : Action → ℕ → ℕ
addr_after (Action.Wait n) addr = addr
addr_after (Action.Ewait event value) addr = addr
addr_after (Action.Flag change flag) addr = addr
addr_after (Action.Load part word) addr = addr
addr_after (Action.Poke part word) addr = merge_of part addr word
addr_after Action.Exit addr = addr

abbrev pub data_after : Action → ℕ → ℕ
data_after (Action.Wait n) word = word
data_after (Action.Ewait event value) word = word
data_after (Action.Flag change flag) word = word
data_after (Action.Load part operand) word = merge_of part word operand
data_after (Action.Poke part operand) word = word
data_after Action.Exit word = word

abbrev pub flags_after : Action → Flags → Flags
flags_after (Action.Wait n) flags = flags
flags_after (Action.Ewait event value) flags = flags
flags_after (Action.Flag change flag) flags = changed_flags change flag flags
flags_after (Action.Load part word) flags = flags
flags_after (Action.Poke part word) flags = flags
flags_after Action.Exit flags = flags

-- a poke writes DATA at ADDR as it then is, if HWSQ_ENABLE is 1
abbrev pub effect_of : Action → Bool → ℕ → ℕ → Effect
effect_of (Action.Wait n) enable addr word = Effect.Done
effect_of (Action.Ewait event value) enable addr word = Effect.Done
effect_of (Action.Flag change flag) enable addr word = Effect.Done
effect_of (Action.Load part operand) enable addr word = Effect.Done
effect_of (Action.Poke part operand) enable addr word = cond enable (Effect.Wrote (record { 0 = merge_of part addr operand }) word) Effect.Done
effect_of Action.Exit enable addr word = Effect.Done

-- an action after which the next instruction stands at `next`, given how time passed
abbrev pub perform_at : Bool → Slot → Flags → Action → ℕ → Elapsed → SlotStep
perform_at enable slot flags action next elapsed = record {
  slot = record {
    mode = mode_after action enable elapsed.finished;
    ip = record { 0 = ip_after action slot.ip.0 next };
    addr = record { 0 = addr_after action slot.addr.0 };
    «data» = data_after action slot.«data»;
  };
  flags = flags_after action flags;
  place = elapsed.place;
  effect = effect_of action enable slot.addr.0 slot.«data»;
  waited = elapsed.waited;
  searched = elapsed.searched;
}

-- the same of an action of n bytes
unfoldable pub perform_of : Bool → Slot → Flags → Action → ℕ → Elapsed → SlotStep
perform_of enable slot flags action n elapsed = perform_at enable slot flags action (slot.ip.0 + n) elapsed

-- a step that takes no time and leaves flags and place alone
abbrev pub same_slot_step : Slot → Flags → Place → Effect → SlotStep
same_slot_step slot flags p effect = record { slot = slot; flags = flags; place = p; effect = effect; waited = 0; searched = 0 }

-- an unknown opcode is passed, and hangs the slot on families 2 and 3; a byte past the RAM or never uploaded stops it where it is
abbrev pub unfetched_at : ℕ → Slot → Flags → Place → ℕ → Unreadable → SlotStep
unfetched_at family slot flags p next Unreadable.Family = same_slot_step slot flags p (Effect.Stopped Unreadable.Family)
unfetched_at family slot flags p next Unreadable.Empty = same_slot_step slot flags p (Effect.Stopped Unreadable.Empty)
unfetched_at family slot flags p next Unreadable.Unknown =
    same_slot_step (record { mode = cond (unknown_hangs family) Mode.Hung Mode.Running; ip = record { 0 = next }; addr = slot.addr; «data» = slot.«data» })
    flags p Effect.Unknown
unfetched_at family slot flags p next Unreadable.Short = same_slot_step slot flags p (Effect.Stopped Unreadable.Short)
unfetched_at family slot flags p next Unreadable.NotUploaded = same_slot_step slot flags p (Effect.Stopped Unreadable.NotUploaded)

-- the same where the next instruction is the one after it: an unknown opcode is one byte
abbrev pub unfetched : ℕ → Slot → Flags → Place → Unreadable → SlotStep
unfetched family slot flags p why = unfetched_at family slot flags p (slot.ip.0 + 1) why

-- the step of a slot whose fetch answered so
abbrev pub slot_step_of : ℕ → Bool → Slot → Flags → Log → Place → Decoded → SlotStep
slot_step_of family enable slot flags log p (Ok (instruction, n)) =
    perform_of enable slot flags (action_of instruction) n (elapsed_of (action_of instruction) log p)
slot_step_of family enable slot flags log p (Err why) = unfetched family slot flags p why
