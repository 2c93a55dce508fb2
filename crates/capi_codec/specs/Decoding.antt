-- The reader's answer as numbers.
use Rattle.std.specs.Prelude.{ℕ, ◌≡◌, List, Ok, Err}
use Rattle.refusals.specs.Number.{unreadable_number}
use Rattle.isa.specs.Reader.{decode_of}
use Rattle.isa.specs.Codec.{Reads}
use Rattle.isa.specs.declared.instructions.Instruction.{Instruction}
use Rattle.isa.specs.Answers.{Decoded}
use Rattle.capi_codec.specs.declared.decoding.DecodeReply.{DecodeReply}

abbrev pub decoded_reply : ℕ → ℕ → ℕ → ℕ → DecodeReply
decoded_reply kind first second n = record { refusal = 0; kind = kind; first = first; second = second; length = n }

abbrev pub unread_reply : ℕ → DecodeReply
unread_reply number = record { refusal = number; kind = 0; first = 0; second = 0; length = 0 }

-- kinds count from 1, so that zeros name no instruction; an operand that an instruction lacks is 0
abbrev pub instruction_reply : Instruction → ℕ → DecodeReply
instruction_reply (Instruction.Wait length shift) n = decoded_reply 1 length shift n
instruction_reply (Instruction.AddrLo low) n = decoded_reply 2 low 0 n
instruction_reply (Instruction.DataLo low) n = decoded_reply 3 low 0 n
instruction_reply (Instruction.Ewait event value) n = decoded_reply 4 event value n
instruction_reply Instruction.Exit n = decoded_reply 5 0 0 n
instruction_reply (Instruction.Unset flag) n = decoded_reply 6 flag 0 n
instruction_reply (Instruction.Set1 flag) n = decoded_reply 7 flag 0 n
instruction_reply (Instruction.Set0 flag) n = decoded_reply 8 flag 0 n
instruction_reply (Instruction.Addr address) n = decoded_reply 9 address.0 0 n
instruction_reply (Instruction.Data word) n = decoded_reply 10 word 0 n

abbrev pub decode_reply : Decoded → DecodeReply
decode_reply (Ok (instruction, n)) = instruction_reply instruction n
decode_reply (Err why) = unread_reply (unreadable_number why)

-- the reply tells the reader's answer, of which all holds that the reader promises
pub record HwsqDecode (family : ℕ) (bytes : List ℕ) (reply : DecodeReply) : Type 0 where
  pub answered : reply ≡ decode_reply (decode_of family bytes)
  pub reads : Reads family bytes (decode_of family bytes)
