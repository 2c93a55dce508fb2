-- The instruction writer (01, "Instructions" and "Other refusals").
use Rattle.std.specs.Prelude.{ℕ, zero, suc, ◌+◌, ◌*◌, ◌/◌, ◌%◌, Bool, true, false, cond, not, List, [], ◌∷◌, ◌++◌, length, drop, leb, ltb, Ok, Err}
use Rattle.refusals.specs.Number.{unwritable_number}
use Rattle.families.specs.Family.{known_family}
use Rattle.isa.specs.Wait.{wait_fits}
use Rattle.isa.specs.Answers.{Encoded}
use Rattle.isa.specs.declared.instructions.Instruction.{Instruction}
use Rattle.isa.specs.declared.opcodes.Opcode.{Opcode}
use Rattle.refusals.specs.declared.refusals.Unwritable.{Unwritable}

abbrev pub opcode_of : Instruction → Opcode
opcode_of (Instruction.Wait len shift) = Opcode.Wait
opcode_of (Instruction.AddrLo low) = Opcode.AddrLo
opcode_of (Instruction.DataLo low) = Opcode.DataLo
opcode_of (Instruction.Ewait event value) = Opcode.Ewait
opcode_of Instruction.Exit = Opcode.Exit
opcode_of (Instruction.Unset flag) = Opcode.Unset
opcode_of (Instruction.Set1 flag) = Opcode.Set1
opcode_of (Instruction.Set0 flag) = Opcode.Set0
opcode_of (Instruction.Addr address) = Opcode.Addr
opcode_of (Instruction.Data word) = Opcode.Data

-- family 1 has waits, flags and exit alone
abbrev pub on_family : ℕ → Opcode → Bool
on_family f Opcode.Wait = true
on_family f Opcode.AddrLo = leb 2 f
on_family f Opcode.DataLo = leb 2 f
on_family f Opcode.Ewait = leb 2 f
on_family f Opcode.Exit = true
on_family f Opcode.Unset = true
on_family f Opcode.Set1 = true
on_family f Opcode.Set0 = true
on_family f Opcode.Addr = leb 2 f
on_family f Opcode.Data = leb 2 f
on_family f Opcode.Unknown = false

-- no length above 3, shift above 15 or flag above 31; every other operand can be spelled
abbrev pub operands_fit : Instruction → Bool
operands_fit (Instruction.Wait len shift) = wait_fits len shift
operands_fit (Instruction.AddrLo low) = true
operands_fit (Instruction.DataLo low) = true
operands_fit (Instruction.Ewait event value) = true
operands_fit Instruction.Exit = true
operands_fit (Instruction.Unset flag) = leb flag 31
operands_fit (Instruction.Set1 flag) = leb flag 31
operands_fit (Instruction.Set0 flag) = leb flag 31
operands_fit (Instruction.Addr address) = true
operands_fit (Instruction.Data word) = true

-- the n little-endian bytes of a number
abbrev pub le_bytes : ℕ → ℕ → List ℕ
le_bytes zero x = []
le_bytes (suc n) x = x % 256 ∷ le_bytes n (x / 256)

-- the one spelling of an instruction
abbrev pub spell : Instruction → List ℕ
spell (Instruction.Wait len shift) = (len + 4 * shift) ∷ []
spell (Instruction.AddrLo low) = 0x40 ∷ le_bytes 2 low
spell (Instruction.DataLo low) = 0x42 ∷ le_bytes 2 low
spell (Instruction.Ewait event value) = 0x5f ∷ event ∷ value ∷ []
spell Instruction.Exit = 0x7f ∷ []
spell (Instruction.Unset flag) = (0x80 + flag) ∷ []
spell (Instruction.Set1 flag) = (0xa0 + flag) ∷ []
spell (Instruction.Set0 flag) = (0xc0 + flag) ∷ []
spell (Instruction.Addr address) = 0xe0 ∷ le_bytes 4 address.0
spell (Instruction.Data word) = 0xe2 ∷ le_bytes 4 word

-- the writer's tests in their order, where so many bytes are lent: the family, the instruction on it, its operands, room
unfoldable pub encode_of : ℕ → Instruction → ℕ → Encoded
encode_of family instruction lent =
    cond (known_family family)
    (cond (on_family family (opcode_of instruction))
    (cond (operands_fit instruction)
    (cond (leb (length (spell instruction)) lent) (Ok (length (spell instruction))) (Err Unwritable.Room))
    (Err Unwritable.Operand))
    (Err Unwritable.NotOnFamily))
    (Err Unwritable.Family)

-- what the lent bytes hold after the answer: the spelling and then the old bytes, or after a refusal the old bytes alone
abbrev pub written_over : List ℕ → Instruction → Encoded → List ℕ
written_over old instruction (Ok n) = spell instruction ++ drop n old
written_over old instruction (Err why) = old

-- the number that the writer's answer stands for, 0 where it wrote
abbrev pub encoded_number : Encoded → ℕ
encoded_number (Ok n) = 0
encoded_number (Err why) = unwritable_number why

-- which number it must be: 9 family, 11 not on it, 12 an operand too large, 13 too few bytes lent, tested in this order
unfoldable pub encode_refusal : ℕ → Instruction → ℕ → ℕ
encode_refusal family instruction lent =
    cond (not (known_family family)) 9
    (cond (not (on_family family (opcode_of instruction))) 11
    (cond (not (operands_fit instruction)) 12
    (cond (ltb lent (length (spell instruction))) 13
    0)))
