-- The writer's instruction and answer as numbers.
use Rattle.std.specs.Prelude.{ℕ, ◌≡◌, cond, List, length, ltb, leb, eqb, Result, Ok, Err}
use Rattle.families.specs.Family.{known_family}
use Rattle.refusals.specs.Number.{unwritable_number}
use Rattle.isa.specs.Writer.{encode_of}
use Rattle.isa.specs.Codec.{Writes}
use Rattle.isa.specs.declared.instructions.Instruction.{Instruction}
use Rattle.isa.specs.Answers.{Encoded}
use Rattle.capi_codec.specs.declared.encoding.EncodeReply.{EncodeReply}
use Rattle.capi_codec.specs.declared.encoding.Unnamed.{Unnamed}

-- what a kind and two operands name, or why nothing
abbrev pub Named : Type 0
Named = Result Instruction Unnamed

-- a length, shift or flag that no byte holds stands as 255, which the writer refuses as it would that
abbrev pub capped_byte : ℕ → ℕ
capped_byte x = cond (ltb x 256) x 255

abbrev pub named_ewait : ℕ → ℕ → Named
named_ewait event value = cond (ltb event 256) (Ok (Instruction.Ewait event value)) (Err Unnamed.Wide)

abbrev pub named_half : ℕ → ℕ → Named
named_half kind half =
    cond (leb 65536 half) (Err Unnamed.Wide)
    (cond (eqb kind 2) (Ok (Instruction.AddrLo half))
    (Ok (Instruction.DataLo half)))

-- the reader's kinds; an operand that the instruction lacks is not looked at
unfoldable pub named_by : ℕ → ℕ → ℕ → Named
named_by kind first second =
    cond (eqb kind 1) (Ok (Instruction.Wait (capped_byte first) second))
    (cond (eqb kind 2) (named_half 2 first)
    (cond (eqb kind 3) (named_half 3 first)
    (cond (eqb kind 4) (named_ewait first second)
    (cond (eqb kind 5) (Ok Instruction.Exit)
    (cond (eqb kind 6) (Ok (Instruction.Unset (capped_byte first)))
    (cond (eqb kind 7) (Ok (Instruction.Set1 (capped_byte first)))
    (cond (eqb kind 8) (Ok (Instruction.Set0 (capped_byte first)))
    (cond (eqb kind 9) (Ok (Instruction.Addr (record { 0 = first })))
    (cond (eqb kind 10) (Ok (Instruction.Data first))
    (Err Unnamed.Unknown))))))))))

-- the writer's order: 9 family, 11 an instruction that it lacks, one of no kind too, 12 an operand too large
abbrev pub unnamed_number : ℕ → ℕ
unnamed_number family = cond (known_family family) 11 9

-- addrlo, datalo and ewait are of families 2 to 4
abbrev pub wide_number : ℕ → ℕ
wide_number family = cond (leb 2 family) (cond (known_family family) 12 9) (unnamed_number family)

abbrev pub unwritten_reply : ℕ → EncodeReply
unwritten_reply number = record { refusal = number; length = 0 }

abbrev pub encoded_reply : Encoded → EncodeReply
encoded_reply (Ok n) = record { refusal = 0; length = n }
encoded_reply (Err why) = unwritten_reply (unwritable_number why)

abbrev pub encode_reply : ℕ → Named → ℕ → EncodeReply
encode_reply family (Ok instruction) lent = encoded_reply (encode_of family instruction lent)
encode_reply family (Err Unnamed.Wide) lent = unwritten_reply (wide_number family)
encode_reply family (Err Unnamed.Unknown) lent = unwritten_reply (unnamed_number family)

-- all that the writer promises of the instruction and of the lent bytes; where none is named they stay as lent
abbrev pub WritesNamed : ℕ → Named → List ℕ → List ℕ → Type 0
WritesNamed family (Ok instruction) old new = Writes family instruction old new (encode_of family instruction (length old))
WritesNamed family (Err Unnamed.Wide) old new = new ≡ old
WritesNamed family (Err Unnamed.Unknown) old new = new ≡ old

pub record HwsqEncode (family kind first second : ℕ) (old new : List ℕ) (reply : EncodeReply) : Type 0 where
  pub answered : reply ≡ encode_reply family (named_by kind first second) (length old)
  pub writes : WritesNamed family (named_by kind first second) old new
