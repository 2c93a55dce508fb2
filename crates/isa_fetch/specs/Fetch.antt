-- Fetching an instruction from code RAM (01, "Steps and time", and the auditor's order at one place: first byte 1, 2, 3, then
-- operands 1, 2).
use Rattle.std.specs.Prelude.{ℕ, zero, suc, ◌+◌, ◌<◌, ◌≤◌, ◌≡◌, Bool, true, cond, not, ◌&&◌, List, [], ◌∷◌, length, get_or, take, drop, leb, ltb, eqb, Ok, Err}
use Rattle.families.specs.Family.{code_size, max_code}
use Rattle.isa.specs.Opcode.{opcode_at, size_of, is_unknown_opcode}
use Rattle.isa.specs.Reader.{decode_of, decoded_number}
use Rattle.isa.specs.Writer.{operands_fit}
use Rattle.isa.specs.Answers.{Decoded}
use Rattle.refusals.specs.declared.refusals.Unreadable.{Unreadable}
use Rattle.refusals.specs.Listing.{Test, test, first_of}

-- the family's code RAM: bytes past its size are no part of it, whatever holds them
abbrev pub code_ram_of : ℕ → List ℕ → List ℕ
code_ram_of family code = take (code_size family) code

-- each of the n bytes from a place on is marked 1
unfoldable pub all_marked : ℕ → List ℕ → ℕ → Bool
all_marked zero marks at = true
all_marked (suc n) marks at = let later = all_marked n marks (at + 1) in eqb (get_or marks at 0) 1 && later

-- an instruction stands only if all its bytes were uploaded
abbrev pub check_marks : List ℕ → ℕ → Decoded → Decoded
check_marks marks at (Ok (instruction, n)) =
    cond (all_marked n marks at) (Ok (instruction, n)) (Err Unreadable.NotUploaded)
check_marks marks at (Err why) = Err why

-- the first byte lies in the RAM and was uploaded; then what the reader says of the code from there on, if all of it was uploaded
unfoldable pub fetch_of : ℕ → List ℕ → List ℕ → ℕ → Decoded
fetch_of family code marks at =
    cond (ltb at (length (code_ram_of family code)))
    (cond (eqb (get_or marks at 0) 1)
    (check_marks marks at (decode_of family (drop at (code_ram_of family code))))
    (Err Unreadable.NotUploaded))
    (Err Unreadable.Empty)

-- its tests, in the order of 01: the opcode past the code RAM, never uploaded or unknown, then an operand past the code RAM or never uploaded; a family that
-- there is not has no code RAM
abbrev pub fetch_tests : ℕ → List ℕ → List ℕ → ℕ → List Test
fetch_tests family code marks at =
    let ram = code_ram_of family code in
    let opcode = opcode_at family (get_or ram at 0) in
    test (leb (length ram) at) 1
    ∷ test (not (eqb (get_or marks at 0) 1)) 2
    ∷ test (is_unknown_opcode opcode) 3
    ∷ test (ltb (length ram) (at + size_of opcode)) 1
    ∷ test (not (all_marked (size_of opcode) marks at)) 2
    ∷ []

-- which number its answer must have
unfoldable pub fetch_refusal : ℕ → List ℕ → List ℕ → ℕ → ℕ
fetch_refusal family code marks at = first_of (fetch_tests family code marks at)

-- why nothing was fetched; an instruction has no reason, and stands for an empty place
abbrev pub reason_of : Decoded → Unreadable
reason_of (Ok (instruction, n)) = Unreadable.Empty
reason_of (Err why) = why

-- the place past an opcode of one byte, which lies in a code RAM of 512 bytes at most
abbrev pub past_opcode : ℕ → ℕ
past_opcode at = cond (ltb at max_code) (at + 1) at

-- a fetched instruction lies in the code RAM, takes 1 to 5 bytes, and has no length above 3, shift above 15 or flag above 31
abbrev pub Inside : ℕ → List ℕ → ℕ → Decoded → Type 0
Inside family code at (Ok (instruction, n)) =
    (0 < n) × (n ≤ 5) × (at + n ≤ length (code_ram_of family code)) × (operands_fit instruction ≡ true)
Inside family code at (Err why) = Unit {0}

pub record Fetches (family : ℕ) (code marks : List ℕ) (at : ℕ) (answer : Decoded) : Type 0 where
  pub answered : answer ≡ fetch_of family code marks at
  pub numbered : decoded_number answer ≡ fetch_refusal family code marks at
  pub inside : Inside family code at answer
