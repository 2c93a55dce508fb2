-- Upload marks, one byte at a time. Assumes nothing.
use Rattle.std.specs.Prelude.{Err}
use Prim.Native.Nat.{ℕ, zero, suc, ◌+◌, ◌-◌, ◌≤◌, ◌<◌}
use mathlib.Core.Path.{◌≡◌, refl, sym, ◌∙◌}
use mathlib.Core.Bool.{true, false, cond, ◌&&◌}
use mathlib.Core.List.{List}
use native.Mathlib.Omega.{arith}
use native.Mathlib.Decide.{dec_lt}
use lib.ListN.{length, get_or, get_or-eq_default}
use lib.Dec.{eqb}
use borrow.Author.Tests.{eq-eqb, ne_eqb, eqb-true}
use Rattle.isa.specs.Opcode.{size_of, is_unknown_opcode}
use Rattle.isa.specs.Reader.{read_as}
use Rattle.isa.specs.declared.opcodes.Opcode.{Opcode}
use Rattle.refusals.specs.declared.refusals.Unreadable.{Unreadable}
use Rattle.families.proofs.Tests.{both_left, both_right}
use Rattle.isa_fetch.specs.Fetch.{all_marked, check_marks}

-- a byte that has a mark lies within the marks
pub marked_within : (marks : List ℕ) (i : ℕ) → get_or marks i 0 ≡ 1 → i < length marks
marked_within marks i e =
    elim (dec_lt i (length marks)) as (λ _. i < length marks) [
      | yes l ↦ l
      | no l ↦ absurd (omega (arith, get_or-eq_default marks 0 (let h : length marks ≤ i = omega arith in h)))
    ]

module _ (marks : List ℕ) (i left : ℕ) where
  pub marked_none : left ≤ 0 → true ≡ all_marked left marks i
  unfolding all_marked
  marked_none h = let z : left ≡ 0 = omega arith in rw z

  step : (m : ℕ) → left ≡ suc m → all_marked left marks i ≡ eqb (get_or marks i 0) 1 && all_marked m marks (i + 1)
  unfolding all_marked
  step m z = rw z

  pub marked_next : 0 < left → get_or marks i 0 ≡ 1 → all_marked (left - 1) marks (i + 1) ≡ all_marked left marks i
  marked_next h e = sym (step (left - 1) (omega arith) ∙ rw (eq-eqb (get_or marks i 0) 1 e))

  pub marked_not : 0 < left → (get_or marks i 0 ≡ 1 → ⊥) → false ≡ all_marked left marks i
  marked_not h e = sym (step (left - 1) (omega arith) ∙ rw (ne_eqb (get_or marks i 0) 1 e))

  -- one byte at most, the first of which has its mark
  pub marked_first : left < 2 → get_or marks i 0 ≡ 1 → all_marked left marks i ≡ true
  unfolding all_marked
  marked_first h e = one left h
    where
      one : (n : ℕ) → n < 2 → all_marked n marks i ≡ true
      one zero l = refl
      one (suc zero) l = rw (eq-eqb (get_or marks i 0) 1 e)
      one (suc (suc n)) l = absurd (omega arith)

-- each of the bytes has its mark
pub marked_at : (n : ℕ) (marks : List ℕ) (i : ℕ) → all_marked n marks i ≡ true → (j : ℕ) → j < n → get_or marks (i + j) 0 ≡ 1
unfolding all_marked
marked_at zero marks i e j h = absurd (omega arith)
marked_at (suc n) marks i e zero h =
    let z : i + 0 ≡ i = omega arith in
    rw z (eqb-true (get_or marks i 0) 1 (both_left (eqb (get_or marks i 0) 1) (all_marked n marks (i + 1)) e))
marked_at (suc n) marks i e (suc j) h =
    let z : i + suc j ≡ i + 1 + j = omega arith in
    rw z (marked_at n marks (i + 1) (both_right (eqb (get_or marks i 0) 1) (all_marked n marks (i + 1)) e) j (omega arith))

-- what the check of the marks leaves of what was read
pub read_checked : (k : Opcode) (bytes marks : List ℕ) (at : ℕ)
    → check_marks marks at (read_as k bytes)
    ≡ cond (is_unknown_opcode k) (Err Unreadable.Unknown) (cond (all_marked (size_of k) marks at) (read_as k bytes)
    (Err Unreadable.NotUploaded))
read_checked Opcode.Wait bytes marks at = refl
read_checked Opcode.AddrLo bytes marks at = refl
read_checked Opcode.DataLo bytes marks at = refl
read_checked Opcode.Ewait bytes marks at = refl
read_checked Opcode.Exit bytes marks at = refl
read_checked Opcode.Unset bytes marks at = refl
read_checked Opcode.Set1 bytes marks at = refl
read_checked Opcode.Set0 bytes marks at = refl
read_checked Opcode.Addr bytes marks at = refl
read_checked Opcode.Data bytes marks at = refl
read_checked Opcode.Unknown bytes marks at = refl
