-- The ten instructions in six classes (01, "Instructions").
use Rattle.std.specs.Prelude.{ℕ, ◌+◌, ◌*◌, ◌/◌, ◌%◌}
use Rattle.isa.specs.Wait.{wait_clocks}
use Rattle.isa.specs.declared.instructions.Instruction.{Instruction}
use Rattle.machine_actions.specs.declared.actions.Action.{Action}
use Rattle.machine_flags.specs.declared.flags.Change.{Change}
use Rattle.machine_actions.specs.declared.actions.Part.{Part}

abbrev pub action_of : Instruction → Action
action_of (Instruction.Wait length shift) = Action.Wait (wait_clocks length shift)
action_of (Instruction.AddrLo low) = Action.Poke Part.Low low
action_of (Instruction.DataLo low) = Action.Load Part.Low low
action_of (Instruction.Ewait event value) = Action.Ewait event value
action_of Instruction.Exit = Action.Exit
action_of (Instruction.Unset flag) = Action.Flag Change.Unset flag
action_of (Instruction.Set1 flag) = Action.Flag Change.Set1 flag
action_of (Instruction.Set0 flag) = Action.Flag Change.Set0 flag
action_of (Instruction.Addr address) = Action.Poke Part.Whole address.0
action_of (Instruction.Data word) = Action.Load Part.Whole word

-- a word after an operand: the whole of it, or its low half, the high half kept
abbrev pub merge_of : Part → ℕ → ℕ → ℕ
merge_of Part.Whole old operand = operand
merge_of Part.Low old operand = old / 65536 * 65536 + operand % 65536
