-- A fetch reads marks and marked bytes alone: bytes that were never uploaded do not matter. Assumes nothing.
use Rattle.std.specs.Prelude.{Err}
use Prim.Native.Nat.{ℕ, zero, suc, ◌+◌, ◌<◌, ◌≤◌}
use mathlib.Core.Path.{◌≡◌, refl, ap, ap₂, sym, ◌∙◌}
use mathlib.Core.Bool.{Bool, true, false, cond, ◌&&◌}
use mathlib.Core.List.{List}
use native.Mathlib.Nat.{add-zero}
use native.Mathlib.Omega.{arith}
use lib.Dec.{leb, ltb, eqb}
use lib.ListN.{length, get_or, drop, length-take, length-drop}
use lib.Seq.{get_or-drop, get_or-take}
use borrow.Author.Tests.{ltb-true, leb-true, eqb-true}
use Rattle.families.specs.Family.{known_family, code_size}
use Rattle.isa.specs.Opcode.{opcode_at, size_of, is_unknown_opcode}
use Rattle.isa.specs.Reader.{read_as, decode_of}
use Rattle.isa.specs.declared.opcodes.Opcode.{Opcode}
use Rattle.isa.specs.Answers.{Decoded}
use Rattle.refusals.specs.declared.refusals.Unreadable.{Unreadable}
use Rattle.isa.proofs.Reading.{same_read}
use Rattle.isa_fetch.specs.Fetch.{code_ram_of, all_marked, check_marks, fetch_of}
use Rattle.isa_fetch.proofs.Marks.{marked_at, read_checked}

-- equal tests, and equal answers where they hold
same_test : {b b' : Bool} {d d' : Decoded} (why : Unreadable) → b ≡ b' → (b ≡ true → d ≡ d') → cond b d (Err why) ≡ cond b' d' (Err why)
same_test {b = true} why e h = rw (← e) (h refl)
same_test {b = false} why e h = rw (← e)

-- the reader's tests before it reads
same_tests : (marks marks' : List ℕ) (at : ℕ) (family first whole : Bool) (d d' : Decoded) → (whole ≡ true → check_marks marks at d ≡ check_marks marks' at d')
    → check_marks marks at (cond family (cond first (cond whole d (Err Unreadable.Short)) (Err Unreadable.Empty))
    (Err Unreadable.Family))
    ≡ check_marks marks' at (cond family (cond first (cond whole d' (Err Unreadable.Short)) (Err Unreadable.Empty))
    (Err Unreadable.Family))
same_tests marks marks' at true true true d d' h = h refl
same_tests marks marks' at true true false d d' h = refl
same_tests marks marks' at true false whole d d' h = refl
same_tests marks marks' at false first whole d d' h = refl

-- the reader's answer, by the opcode and the length of other bytes that begin alike
decoded_by : (family : ℕ) (bytes bytes' : List ℕ) → length bytes ≡ length bytes' → get_or bytes 0 0 ≡ get_or bytes' 0 0
    → decode_of family bytes'
    ≡ cond (known_family family)
    (cond (leb 1 (length bytes))
    (cond (leb (size_of (opcode_at family (get_or bytes 0 0))) (length bytes)) (read_as (opcode_at family (get_or bytes 0 0)) bytes')
    (Err Unreadable.Short))
    (Err Unreadable.Empty))
    (Err Unreadable.Family)
unfolding decode_of
decoded_by family bytes bytes' l e = simp (l, e)

-- two codes with the same bytes marked, and equal in these
module _ (family : ℕ) (code marks code' marks' : List ℕ) (room : code_size family ≤ length code) (room' : code_size family ≤ length code')
    (same_marks : (i : ℕ) → i < code_size family → eqb (get_or marks' i 0) 1 ≡ eqb (get_or marks i 0) 1)
    (same_bytes : (i : ℕ) → i < code_size family → get_or marks i 0 ≡ 1 → get_or code' i 0 ≡ get_or code i 0) where
  abbrev ram : List ℕ
  ram = code_ram_of family code

  abbrev ram' : List ℕ
  ram' = code_ram_of family code'

  ram_size : length ram ≡ code_size family
  ram_size = length-take (code_size family) code ∙ omega arith

  size' : length ram' ≡ code_size family
  size' = length-take (code_size family) code' ∙ omega arith

  same_marked : (n at : ℕ) → at + n ≤ code_size family → all_marked n marks' at ≡ all_marked n marks at
  unfolding all_marked
  same_marked zero at h = refl
  same_marked (suc n) at h = ap₂ ◌&&◌ (same_marks at (omega arith)) (same_marked n (at + 1) (omega arith))

  module _ (at : ℕ) (inside : at < code_size family) (marked : get_or marks at 0 ≡ 1) where
    same_length : length (drop at ram) ≡ length (drop at ram')
    same_length = omega (arith, ram_size, size', length-drop at ram, length-drop at ram')

    same_byte : (j : ℕ) → at + j < code_size family → get_or marks (at + j) 0 ≡ 1 → get_or (drop at ram') j 0 ≡ get_or (drop at ram) j 0
    same_byte j h m =
        rw (
          get_or-drop at ram' j 0,
          get_or-drop at ram j 0,
          get_or-take (code_size family) code' (at + j) 0 h,
          get_or-take (code_size family) code (at + j) 0 h,
        ) (same_bytes (at + j) h m)

    same_checked : (k : Opcode) → size_of k ≤ length (drop at ram)
        → check_marks marks' at (read_as k (drop at ram')) ≡ check_marks marks at (read_as k (drop at ram))
    same_checked k h =
        let l : at + size_of k ≤ code_size family = omega (arith, ram_size, length-drop at ram) in
        let same = same_marked (size_of k) at l in
        rw (read_checked k (drop at ram') marks' at, read_checked k (drop at ram) marks at)
        (ap (cond (is_unknown_opcode k) (Err Unreadable.Unknown))
        (same_test Unreadable.NotUploaded same
        (λ m. same_read k (drop at ram) (drop at ram') (λ j i. same_byte j (omega arith) (marked_at (size_of k) marks at (sym same ∙ m) j i)))))

    same_decoded : check_marks marks' at (decode_of family (drop at ram')) ≡ check_marks marks at (decode_of family (drop at ram))
    same_decoded =
        let k = opcode_at family (get_or (drop at ram) 0 0) in
        let first = same_byte 0 (omega arith) (rw add-zero marked) in
        ap (check_marks marks' at) (decoded_by family (drop at ram) (drop at ram') same_length (sym first))
        ∙ same_tests marks' marks at (known_family family) (leb 1 (length (drop at ram))) (leb (size_of k) (length (drop at ram))) (read_as k (drop at ram'))
        (read_as k (drop at ram))
        (λ w. same_checked k (leb-true (size_of k) (length (drop at ram)) w))
        ∙ ap (check_marks marks at) (sym (decoded_by family (drop at ram) (drop at ram) refl refl))

  -- a fetch at every place is the same
  pub same_fetch : (at : ℕ) → fetch_of family code' marks' at ≡ fetch_of family code marks at
  unfolding fetch_of
  same_fetch at =
      same_test _ (ap (ltb at) (size' ∙ sym ram_size))
      (λ l. let h : at < code_size family = omega (arith, size', ltb-true at (length ram') l) in
      same_test _ (same_marks at h)
      (λ m. same_decoded at h (eqb-true (get_or marks at 0) 1 (sym (same_marks at h) ∙ m))))
