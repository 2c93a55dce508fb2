-- What reader and writer answer.
use Rattle.std.specs.Prelude.{ℕ, Result}
use Rattle.isa.specs.declared.instructions.Instruction.{Instruction}
use Rattle.refusals.specs.declared.refusals.Unreadable.{Unreadable}
use Rattle.refusals.specs.declared.refusals.Unwritable.{Unwritable}

-- the instruction and how many bytes it takes, or why there is none
abbrev pub Decoded : Type 0
Decoded = Result (Instruction × ℕ) Unreadable

-- how many bytes were written, or why none
abbrev pub Encoded : Type 0
Encoded = Result ℕ Unwritable
