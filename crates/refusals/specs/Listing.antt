-- Tests in the order in which 01 lists them, and the number of the first that fails (the auditor's order at one place; a job's listing).
use Rattle.std.specs.Prelude.{ℕ, Bool, cond, List, [], ◌∷◌}

-- a test, and the number of the refusal or fault where it fails
pub record Test : Type 0 where
  pub fails : Bool
  pub number : ℕ

abbrev pub test : Bool → ℕ → Test
test fails number = record { fails = fails; number = number }

-- several at once: the first in the listing; 0 where there is none
abbrev pub first_of : List Test → ℕ
first_of [] = 0
first_of (t ∷ later) = cond t.fails t.number (first_of later)
