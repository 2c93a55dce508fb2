-- Which case of `encode_of` holds, and what operands that fit are. Assumes nothing.
use Rattle.std.specs.Prelude.{Ok, Err}
use Prim.Native.Nat.{ℕ, ◌<◌, ◌≤◌}
use mathlib.Core.Path.{◌≡◌, sym, ap, ◌∙◌}
use mathlib.Core.Bool.{true, false}
use lib.ListN.{length}
use lib.Dec.{leb}
use borrow.Author.Tests.{le-leb, lt-leb, le-ltb, lt-ltb, leb-true, leb-false}
use Rattle.families.specs.Family.{known_family}
use Rattle.isa.specs.Wait.{wait_fits}
use Rattle.isa.specs.Writer.{opcode_of, on_family, operands_fit, spell, encode_of, encoded_number, encode_refusal}
use Rattle.isa.specs.declared.instructions.Instruction.{Instruction}
use Rattle.isa.specs.Answers.{Encoded}
use Rattle.refusals.specs.declared.refusals.Unwritable.{Unwritable}
use Rattle.families.proofs.Tests.{both_left, both_right, cond_elim}

pub wait_fits_lem : (length shift : ℕ) → wait_fits length shift ≡ true → (length ≤ 3) × (shift ≤ 15)
wait_fits_lem length shift e =
    (leb-true length 3 (both_left (leb length 3) (leb shift 15) e), leb-true shift 15 (both_right (leb length 3) (leb shift 15) e))

pub wait : (i : Instruction) (length shift : ℕ) → operands_fit i ≡ true → i ≡ Instruction.Wait length shift → (length ≤ 3) × (shift ≤ 15)
wait i length shift p e = wait_fits_lem length shift (ap operands_fit (sym e) ∙ p)

pub flag : (i j : Instruction) (n : ℕ) → operands_fit i ≡ true → i ≡ j → operands_fit j ≡ leb n 31 → n ≤ 31
flag i j n p e q = leb-true n 31 (sym q ∙ ap operands_fit (sym e) ∙ p)

module _ (f : ℕ) (i : Instruction) (n : ℕ) where
  pub no_family : known_family f ≡ false → Err Unwritable.Family ≡ encode_of f i n
  unfolding encode_of
  no_family u = simp u

  module _ (u : known_family f ≡ true) where
    pub not_on : on_family f (opcode_of i) ≡ false → Err Unwritable.NotOnFamily ≡ encode_of f i n
    unfolding encode_of
    not_on v = simp (u, v)

    module _ (v : on_family f (opcode_of i) ≡ true) where
      pub bad_operand : operands_fit i ≡ false → Err Unwritable.Operand ≡ encode_of f i n
      unfolding encode_of
      bad_operand w = simp (u, v, w)

      pub no_room : operands_fit i ≡ true → n < length (spell i) → Err Unwritable.Room ≡ encode_of f i n
      unfolding encode_of
      no_room w h = simp (u, v, w, lt-leb (length (spell i)) n h)

      pub written : operands_fit i ≡ true → length (spell i) ≤ n → Ok (length (spell i)) ≡ encode_of f i n
      unfolding encode_of
      written w h = simp (u, v, w, le-leb (length (spell i)) n h)

-- the tests in their order give the refusal's number
pub write_numbered : (f : ℕ) (i : Instruction) (n : ℕ) → encoded_number (encode_of f i n) ≡ encode_refusal f i n
unfolding encode_of encode_refusal
write_numbered f i n =
    cond_elim P (known_family f)
    (λ u. cond_elim P (on_family f (opcode_of i))
    (λ v. cond_elim P (operands_fit i)
    (λ w. cond_elim P (leb (length (spell i)) n)
    (λ h. simp (u, v, w, le-ltb n (length (spell i)) (leb-true (length (spell i)) n h)))
    (λ h. simp (u, v, w, lt-ltb n (length (spell i)) (leb-false (length (spell i)) n h))))
    (λ w. simp (u, v, w)))
    (λ v. simp (u, v)))
    (λ u. simp u)
  where
    P : Encoded → Type 0
    P e = encoded_number e ≡ encode_refusal f i n
