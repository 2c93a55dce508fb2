-- What may be audited (01, the auditor's row 9), and which addresses the ranges list.
use Rattle.std.specs.Prelude.{ℕ, ◌*◌, Bool, true, false, ◌&&◌, ◌||◌, List, [], ◌∷◌, length, leb, eqb}
use Rattle.families.specs.Family.{known_family, code_size, highest_entry, within}
use Rattle.script.specs.Script.{Script}

-- an address is listed if a range holds it, first and last included
abbrev pub listed_in : List ℕ → ℕ → Bool
listed_in [] address = false
listed_in (first ∷ []) address = false
listed_in (first ∷ last ∷ ranges) address = within first address last || listed_in ranges address

-- ranges come in pairs: each first has its last and is not above it
abbrev pub ranges_paired : List ℕ → Bool
ranges_paired [] = true
ranges_paired (first ∷ []) = false
ranges_paired (first ∷ last ∷ ranges) = leb first last && ranges_paired ranges

-- marks are plain: each is 0 or 1
abbrev pub marks_plain : List ℕ → Bool
marks_plain [] = true
marks_plain (m ∷ marks) = leb m 1 && marks_plain marks

-- a known family, code and marks of its size, plain marks, an entry that its registers can hold; such an entry may lie past the code RAM
unfoldable pub script_fits : Script → Bool
script_fits script =
    known_family script.family
    && (eqb (length script.code) (code_size script.family)
    && (eqb (length script.marks) (code_size script.family)
    && (marks_plain script.marks
    && leb script.entry (highest_entry script.family))))

-- the most ranges of a script
abbrev pub max_ranges : ℕ
max_ranges = 64

-- at most so many ranges, two entries each
unfoldable pub ranges_fit : List ℕ → Bool
ranges_fit ranges = leb (length ranges) (2 * max_ranges) && ranges_paired ranges

-- what is not refused with 9
abbrev pub input_fits : Script → List ℕ → Bool
input_fits script ranges = script_fits script && ranges_fit ranges
