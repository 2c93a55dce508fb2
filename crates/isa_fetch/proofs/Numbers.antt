-- The number of a fetch is that of the first of its tests which fails. Assumes nothing.
use Prim.Native.Nat.{ℕ, ◌+◌, ◌<◌}
use mathlib.Core.Path.{◌≡◌, refl, ap, sym, ◌∙◌}
use mathlib.Core.Bool.{Bool, true, false, cond, not}
use mathlib.Core.List.{List}
use native.Mathlib.Nat.{add-zero}
use native.Mathlib.Omega.{arith}
use lib.Dec.{leb, ltb, eqb}
use lib.ListN.{length, get_or, drop, length-drop}
use lib.Seq.{get_or-drop}
use borrow.Author.Tests.{ltb-true, ltb-false, leb-true, leb-false, le-leb, lt-leb, le-ltb, lt-ltb}
use Rattle.families.specs.Family.{known_family, code_size}
use Rattle.isa.specs.Opcode.{opcode_at, size_of, is_unknown_opcode}
use Rattle.isa.specs.Reader.{read_as, decode_of, decoded_number}
use Rattle.isa.specs.declared.opcodes.Opcode.{Opcode}
use Rattle.isa.specs.Answers.{Decoded}
use Rattle.isa.proofs.Reading.{read_number, long_known, short, all_there}
use Rattle.families.proofs.Tests.{cond_elim, by_no_family}
use Rattle.isa_fetch.specs.Fetch.{code_ram_of, all_marked, check_marks, fetch_of, fetch_refusal}
use Rattle.isa_fetch.proofs.Marks.{read_checked}
use Rattle.isa_fetch.proofs.Places.{ram_most}

-- code RAM belongs to a family that there is
ram_known : (family : ℕ) (b : Bool) → known_family family ≡ b → 0 < code_size family → b ≡ true
ram_known family true e h = refl
ram_known family false e h = absurd (omega (arith, by_no_family family 64 128 256 512 e))

module _ (marks : List ℕ) (at : ℕ) (bytes : List ℕ) (k : Opcode) where
  -- the number of what was read, once its marks are looked at
  checked_read : decoded_number (check_marks marks at (read_as k bytes)) ≡ cond (is_unknown_opcode k) 3 (cond (not (all_marked (size_of k) marks at)) 2 0)
  checked_read =
      rw (read_checked k bytes marks at)
      (cond_elim P (is_unknown_opcode k) (λ u. simp u)
      (λ u. cond_elim P (all_marked (size_of k) marks at) (λ m. read_number k bytes ∙ simp (u, m)) (λ m. simp (u, m))))
    where
      P : Decoded → Type 0
      P d = decoded_number d ≡ cond (is_unknown_opcode k) 3 (cond (not (all_marked (size_of k) marks at)) 2 0)

-- the number of what the reader says of bytes, once its marks are looked at
module _ (family : ℕ) (marks : List ℕ) (at : ℕ) (bytes : List ℕ) (k : Opcode) (u : known_family family ≡ true) (h : 0 < length bytes) (e : k
    ≡ opcode_at family (get_or bytes 0 0)) where
  checked_number : decoded_number (check_marks marks at (decode_of family bytes))
      ≡ cond (is_unknown_opcode k) 3 (cond (ltb (length bytes) (size_of k)) 1 (cond (not (all_marked (size_of k) marks at)) 2 0))
  checked_number =
      elim (leb (size_of k) (length bytes)) as (λ b. leb (size_of k) (length bytes) ≡ b → Numbered) [
        | true ↦ λ l. let fits = leb-true (size_of k) (length bytes) l in
            ap (λ (d : Decoded). decoded_number (check_marks marks at d)) (sym (all_there family bytes k u h e fits))
            ∙ checked_read marks at bytes k
            ∙ simp (le-ltb (length bytes) (size_of k) fits)
        | false ↦ λ l. let cut = leb-false (size_of k) (length bytes) l in
            ap (λ (d : Decoded). decoded_number (check_marks marks at d)) (sym (short family bytes k u h e cut))
            ∙ simp (long_known k (omega arith), lt-ltb (length bytes) (size_of k) cut)
      ] refl
    where
      Numbered : Type 0
      Numbered = decoded_number (check_marks marks at (decode_of family bytes))
          ≡ cond (is_unknown_opcode k) 3 (cond (ltb (length bytes) (size_of k)) 1 (cond (not (all_marked (size_of k) marks at)) 2 0))

-- too few bytes from a place on are too few for what begins there
same_cut : (ram : List ℕ) (at n : ℕ) → at < length ram → ltb (length (drop at ram)) n ≡ ltb (length ram) (at + n)
same_cut ram at n h =
    elim (ltb (length ram) (at + n)) as (λ b. ltb (length ram) (at + n) ≡ b → ltb (length (drop at ram)) n ≡ b) [
      | true ↦ λ l. lt-ltb (length (drop at ram)) n (omega (arith, length-drop at ram, ltb-true (length ram) (at + n) l))
      | false ↦ λ l. le-ltb (length (drop at ram)) n (omega (arith, length-drop at ram, ltb-false (length ram) (at + n) l))
    ] refl

pub fetch_numbered : (family : ℕ) (code marks : List ℕ) (at : ℕ) → decoded_number (fetch_of family code marks at) ≡ fetch_refusal family code marks at
unfolding fetch_of fetch_refusal
fetch_numbered family code marks at =
    cond_elim P (ltb at (length ram))
    (λ l. let within = ltb-true at (length ram) l in
    cond_elim P (eqb (get_or marks at 0) 1)
    (λ m.
    checked_number family marks at (drop at ram) k (ram_known family (known_family family) refl (omega (arith, ram_most family code))) (omega (
      arith,
      length-drop at ram,
    )) first
    ∙ simp (lt-leb (length ram) at within, m, same_cut ram at (size_of k) within))
    (λ m. simp (lt-leb (length ram) at within, m)))
    (λ l. simp (le-leb (length ram) at (ltb-false at (length ram) l)))
  where
    ram : List ℕ
    ram = code_ram_of family code

    k : Opcode
    k = opcode_at family (get_or ram at 0)

    first : k ≡ opcode_at family (get_or (drop at ram) 0 0)
    first = rw (get_or-drop at ram 0 0, add-zero)

    P : Decoded → Type 0
    P d = decoded_number d ≡ fetch_refusal family code marks at
