-- What a first byte stands for (01, "Instructions"; 004, "Opcodes").
use Rattle.std.specs.Prelude.{ℕ, Bool, true, false, cond, leb, eqb}
use Rattle.families.specs.Family.{within}
use Rattle.isa.specs.declared.opcodes.Opcode.{Opcode}

-- pokes, their data and event waits: family 1 does not know them
abbrev pub later_only : ℕ → Opcode → Opcode
later_only f k = cond (leb 2 f) k Opcode.Unknown

-- the opcode of a first byte on a family
unfoldable pub opcode_at : ℕ → ℕ → Opcode
opcode_at f b =
    cond (within 0x00 b 0x3f) Opcode.Wait
    (cond (eqb b 0x40) (later_only f Opcode.AddrLo)
    (cond (eqb b 0x42) (later_only f Opcode.DataLo)
    (cond (eqb b 0x5f) (later_only f Opcode.Ewait)
    (cond (eqb b 0x7f) Opcode.Exit
    (cond (within 0x80 b 0x9f) Opcode.Unset
    (cond (within 0xa0 b 0xbf) Opcode.Set1
    (cond (within 0xc0 b 0xdf) Opcode.Set0
    (cond (eqb b 0xe0) (later_only f Opcode.Addr)
    (cond (eqb b 0xe2) (later_only f Opcode.Data)
    Opcode.Unknown)))))))))

-- how many bytes the instruction takes, its first one included
abbrev pub size_of : Opcode → ℕ
size_of Opcode.Wait = 1
size_of Opcode.AddrLo = 3
size_of Opcode.DataLo = 3
size_of Opcode.Ewait = 3
size_of Opcode.Exit = 1
size_of Opcode.Unset = 1
size_of Opcode.Set1 = 1
size_of Opcode.Set0 = 1
size_of Opcode.Addr = 5
size_of Opcode.Data = 5
size_of Opcode.Unknown = 1

abbrev pub is_unknown_opcode : Opcode → Bool
is_unknown_opcode Opcode.Wait = false
is_unknown_opcode Opcode.AddrLo = false
is_unknown_opcode Opcode.DataLo = false
is_unknown_opcode Opcode.Ewait = false
is_unknown_opcode Opcode.Exit = false
is_unknown_opcode Opcode.Unset = false
is_unknown_opcode Opcode.Set1 = false
is_unknown_opcode Opcode.Set0 = false
is_unknown_opcode Opcode.Addr = false
is_unknown_opcode Opcode.Data = false
is_unknown_opcode Opcode.Unknown = true
