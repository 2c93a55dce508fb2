-- Which slots execute (01, "Host registers" and "Four card families").
use Rattle.std.specs.Prelude.{ℕ, Bool, cond, not, ◌&&◌, ◌||◌}
use Rattle.machine_state.specs.Slot.{has_slot, is_idle, slot_of}
use Rattle.machine_state.specs.declared.slots.Mode.{Mode}
use Rattle.machine_state.specs.declared.slots.SlotName.{SlotName}
use Rattle.machine_state.specs.declared.state.State.{State}

-- a slot executes unless it is idle; one that the family lacks never does
abbrev pub executes : State → SlotName → Bool
executes s name = has_slot s.family name && not (is_idle (slot_of s name).mode)

-- of slots A and B in these modes
abbrev pub some_executes : ℕ → Mode → Mode → Bool
some_executes family a b = (has_slot family SlotName.A && not (is_idle a)) || (has_slot family SlotName.B && not (is_idle b))

abbrev pub some_slot_executes : State → Bool
some_slot_executes s = some_executes s.family s.a.mode s.b.mode

-- the slot that executes: A where it does, and else B
abbrev pub executing_slot : State → SlotName
executing_slot s = cond (executes s SlotName.A) SlotName.A SlotName.B
