-- The four card families (01, "Four card families"). A number that names no family has no code RAM and no slots.
use Rattle.std.specs.Prelude.{ℕ, ◌≡◌, Bool, true, false, cond, ◌&&◌, ◌||◌, leb, eqb}

-- low ≤ n ≤ high
abbrev pub within : ℕ → ℕ → ℕ → Bool
within low n high = leb low n && leb n high

-- families are numbered 1 to 4
abbrev pub known_family : ℕ → Bool
known_family f = within 1 f 4

-- the family's value among one for each, and 0 for a number that names none
unfoldable pub by_family : ℕ → ℕ → ℕ → ℕ → ℕ → ℕ
by_family f one two three four = cond (eqb f 1) one (cond (eqb f 2) two (cond (eqb f 3) three (cond (eqb f 4) four 0)))

-- the most bytes that a family's code RAM has
abbrev pub max_code : ℕ
max_code = 512

-- bytes of code RAM
abbrev pub code_size : ℕ → ℕ
code_size f = by_family f 64 128 256 max_code

-- slots A and B, or A alone
abbrev pub slot_count : ℕ → ℕ
slot_count f = by_family f 2 2 2 1

-- an unknown opcode hangs the slot; elsewhere it is a nop of one byte
abbrev pub unknown_hangs : ℕ → Bool
unknown_hangs f = eqb f 2 || eqb f 3

-- flag 16 pauses memory on families 2 to 4 (01, "Steps and time")
abbrev pub pauses_memory : ℕ → Bool
pauses_memory f = within 2 f 4

-- the highest entry point: 255, and 511 on family 4, whose entry points have a ninth bit (01, the auditor's row 9)
abbrev pub highest_entry : ℕ → ℕ
highest_entry f = by_family f 255 255 255 511

-- ---- 01's table, with what its other sections say of a family

-- a row: bytes of code RAM, slots, whether an unknown opcode hangs, whether flag 16 pauses memory, the highest entry point
pub record FamilyRow : Type 0 where
  pub code_ram : ℕ
  pub slots : ℕ
  pub hangs : Bool
  pub pauses : Bool
  pub highest : ℕ

abbrev pub family_row : ℕ → ℕ → Bool → Bool → ℕ → FamilyRow
family_row code_ram slots hangs pauses highest = record { code_ram = code_ram; slots = slots; hangs = hangs; pauses = pauses; highest = highest }

-- the row of a family; a number that names none has an empty one
unfoldable pub row_of : ℕ → FamilyRow
row_of f =
    cond (eqb f 1) (family_row 64 2 false false 255)
    (cond (eqb f 2) (family_row 128 2 true true 255)
    (cond (eqb f 3) (family_row 256 2 true true 255)
    (cond (eqb f 4) (family_row 512 1 false true 511)
    (family_row 0 0 false false 0))))

-- what is told of a family: the defined fact, and that is the family's row in this column of the table
pub record Tells {A : Type 0} (fact : ℕ → A) (column : FamilyRow → A) (family : ℕ) (answer : A) : Type 0 where
  pub answered : answer ≡ fact family
  pub tabled : answer ≡ column (row_of family)
