-- What reader and writer promise, and how they fit together (demand 2: one spelling, which reads back as itself).
use Rattle.std.specs.Prelude.{ℕ, ◌^◌, ◌<◌, ◌≤◌, ◌≡◌, List, ◌++◌, length, take, Ok, Err}
use Rattle.isa.specs.Reader.{decode_of, decoded_number, decode_refusal}
use Rattle.isa.specs.Writer.{encode_of, encoded_number, encode_refusal, written_over, spell}
use Rattle.isa.specs.declared.instructions.Instruction.{Instruction}
use Rattle.isa.specs.Answers.{Decoded}
use Rattle.isa.specs.Answers.{Encoded}

-- the words of an instruction fit their types
abbrev pub InType : Instruction → Type 0
InType (Instruction.Wait len shift) = Unit {0}
InType (Instruction.AddrLo low) = low < 2 ^ 16
InType (Instruction.DataLo low) = low < 2 ^ 16
InType (Instruction.Ewait event value) = Unit {0}
InType Instruction.Exit = Unit {0}
InType (Instruction.Unset flag) = Unit {0}
InType (Instruction.Set1 flag) = Unit {0}
InType (Instruction.Set0 flag) = Unit {0}
InType (Instruction.Addr address) = address.0 < 2 ^ 32
InType (Instruction.Data word) = word < 2 ^ 32

-- bytes that were read are the one spelling of what they read as: the writer takes that instruction on this family and writes just these bytes
abbrev pub OneSpelling : ℕ → List ℕ → Decoded → Type 0
OneSpelling family bytes (Ok (instruction, n)) =
    (spell instruction ≡ take n bytes) × (encode_of family instruction n ≡ Ok n) × (0 < n) × (n ≤ length bytes)
OneSpelling family bytes (Err why) = Unit {0}

-- bytes that were written read back as the instruction, whatever bytes stand after them
abbrev pub ReadsBack : ℕ → Instruction → List ℕ → Encoded → Type 0
ReadsBack family instruction new (Ok n) =
    (after : List ℕ) → decode_of family (take n new ++ after) ≡ Ok (instruction, n)
ReadsBack family instruction new (Err why) = Unit {0}

-- what the reader promises of its answer to a family and bytes
pub record Reads (family : ℕ) (bytes : List ℕ) (answer : Decoded) : Type 0 where
  pub answered : answer ≡ decode_of family bytes
  pub numbered : decoded_number answer ≡ decode_refusal family bytes
  pub spelled_so : OneSpelling family bytes answer

-- what the writer promises of its answer and of the lent bytes, old and new
pub record Writes (family : ℕ) (instruction : Instruction) (old new : List ℕ) (answer : Encoded) : Type 0 where
  pub answered : answer ≡ encode_of family instruction (length old)
  pub numbered : encoded_number answer ≡ encode_refusal family instruction (length old)
  pub lent : new ≡ written_over old instruction answer
  pub reads_back : ReadsBack family instruction new answer
