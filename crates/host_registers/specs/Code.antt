-- Code RAM as the host sees it (01, "Host registers"; 004, "Code space").
use Rattle.std.specs.Prelude.{ℕ, ◌+◌, ◌*◌, cond, List, [], ◌∷◌, eqb, get_or}
use Rattle.std.proofs.lemmas.List.Edits.{sets}
use Rattle.isa.specs.Writer.{le_bytes}
use Rattle.machine_state.specs.declared.state.State.{State}

-- the state with other code and marks
abbrev pub with_code : State → List ℕ → List ℕ → State
with_code s code marks = record {
  family = s.family;
  code = code;
  marks = marks;
  flags = s.flags;
  enable = s.enable;
  override_mode = s.override_mode;
  entries = s.entries;
  entries_high = s.entries_high;
  a = s.a;
  b = s.b;
}

abbrev pub four_marks : List ℕ
four_marks = 1 ∷ 1 ∷ 1 ∷ 1 ∷ []

-- a word uploads its four bytes, the lowest first, and marks them
unfoldable pub after_upload : State → ℕ → ℕ → State
after_upload s at word = with_code s (sets s.code at (le_bytes 4 word)) (sets s.marks at four_marks)

-- a byte reads as it was uploaded, and as 0 where it never was, whatever stands there
abbrev pub byte_in : List ℕ → List ℕ → ℕ → ℕ
byte_in code marks at = cond (eqb (get_or marks at 0) 1) (get_or code at 0) 0

unfoldable pub uploaded_byte : State → ℕ → ℕ
uploaded_byte s at = byte_in s.code s.marks at

abbrev pub code_word : State → ℕ → ℕ
code_word s at = uploaded_byte s at + 256 * uploaded_byte s (at + 1) + 65536 * uploaded_byte s (at + 2) + 16777216 * uploaded_byte s (at + 3)
