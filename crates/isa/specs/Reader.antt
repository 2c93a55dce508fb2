-- The instruction reader (01, "Instructions" and "Other refusals").
use Rattle.std.specs.Prelude.{ℕ, ◌+◌, ◌*◌, ◌/◌, ◌%◌, cond, not, List, [], ◌∷◌, length, get_or, take, drop, leb, ltb, eqb, Ok, Err}
use Rattle.refusals.specs.Number.{unreadable_number}
use Rattle.families.specs.Family.{known_family}
use Rattle.isa.specs.Opcode.{opcode_at, size_of, is_unknown_opcode}
use Rattle.isa.specs.declared.instructions.Instruction.{Instruction}
use Rattle.isa.specs.declared.opcodes.Opcode.{Opcode}
use Rattle.isa.specs.Answers.{Decoded}
use Rattle.refusals.specs.declared.refusals.Unreadable.{Unreadable}

-- the number whose little-endian bytes are the list
abbrev pub le_number : List ℕ → ℕ
le_number [] = 0
le_number (x ∷ xs) = x + 256 * le_number xs

-- the n operand bytes after the first byte, as a number
abbrev pub operand : ℕ → List ℕ → ℕ
operand n bytes = le_number (take n (drop 1 bytes))

-- the instruction with an opcode: fields of the first byte, or operands after it
abbrev pub read_as : Opcode → List ℕ → Decoded
read_as Opcode.Wait bytes = Ok (Instruction.Wait (get_or bytes 0 0 % 4) (get_or bytes 0 0 / 4), 1)
read_as Opcode.AddrLo bytes = Ok (Instruction.AddrLo (operand 2 bytes), 3)
read_as Opcode.DataLo bytes = Ok (Instruction.DataLo (operand 2 bytes), 3)
read_as Opcode.Ewait bytes = Ok (Instruction.Ewait (get_or bytes 1 0) (get_or bytes 2 0), 3)
read_as Opcode.Exit bytes = Ok (Instruction.Exit, 1)
read_as Opcode.Unset bytes = Ok (Instruction.Unset (get_or bytes 0 0 % 32), 1)
read_as Opcode.Set1 bytes = Ok (Instruction.Set1 (get_or bytes 0 0 % 32), 1)
read_as Opcode.Set0 bytes = Ok (Instruction.Set0 (get_or bytes 0 0 % 32), 1)
read_as Opcode.Addr bytes = Ok (Instruction.Addr (record { 0 = operand 4 bytes }), 5)
read_as Opcode.Data bytes = Ok (Instruction.Data (operand 4 bytes), 5)
read_as Opcode.Unknown bytes = Err Unreadable.Unknown

-- the reader's tests in their order: the family, a first byte, a known opcode (which takes one byte if it is not), all operands
unfoldable pub decode_of : ℕ → List ℕ → Decoded
decode_of family bytes =
    cond (known_family family)
    (cond (leb 1 (length bytes))
    (let opcode = opcode_at family (get_or bytes 0 0) in
    cond (leb (size_of opcode) (length bytes)) (read_as opcode bytes) (Err Unreadable.Short))
    (Err Unreadable.Empty))
    (Err Unreadable.Family)

-- the number that the reader's answer stands for, 0 where it is an instruction
abbrev pub decoded_number : Decoded → ℕ
decoded_number (Ok (instruction, n)) = 0
decoded_number (Err why) = unreadable_number why

-- which number it must be: 9 family, 1 no byte, 3 unknown, 1 missing operands, tested in this order
unfoldable pub decode_refusal : ℕ → List ℕ → ℕ
decode_refusal family bytes =
    let opcode = opcode_at family (get_or bytes 0 0) in
    cond (not (known_family family)) 9
    (cond (eqb (length bytes) 0) 1
    (cond (is_unknown_opcode opcode) 3
    (cond (ltb (length bytes) (size_of opcode)) 1
    0)))
