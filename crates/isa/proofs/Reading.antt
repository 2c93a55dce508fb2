-- Which case of `decode_of` holds, and which bytes a reading depends on. Assumes nothing.
use Rattle.std.specs.Prelude.{Err}
use Prim.Native.Nat.{ℕ, ◌<◌, ◌≤◌}
use mathlib.Core.Path.{◌≡◌, refl}
use mathlib.Core.Bool.{true, false, cond}
use mathlib.Core.List.{List}
use lib.ListN.{length, get_or}
use native.Mathlib.Omega.{arith}
use lib.Dec.{leb}
use borrow.Author.Tests.{le-leb, lt-leb, le-ltb, lt-ltb, eq-eqb, ne_eqb, leb-true, leb-false}
use Rattle.families.specs.Family.{known_family}
use Rattle.isa.specs.Opcode.{opcode_at, size_of, is_unknown_opcode}
use Rattle.isa.specs.Reader.{read_as, decode_of, decoded_number, decode_refusal}
use Rattle.isa.specs.declared.opcodes.Opcode.{Opcode}
use Rattle.isa.specs.Answers.{Decoded}
use Rattle.refusals.specs.declared.refusals.Unreadable.{Unreadable}
use Rattle.isa.proofs.Bytes.{two_bytes, four}
use Rattle.families.proofs.Tests.{cond_elim}

module _ (f : ℕ) (bs : List ℕ) where
  pub no_family : known_family f ≡ false → Err Unreadable.Family ≡ decode_of f bs
  unfolding decode_of
  no_family u = simp u

  pub no_byte : known_family f ≡ true → length bs ≡ 0 → Err Unreadable.Empty ≡ decode_of f bs
  unfolding decode_of
  no_byte u e = simp (u, lt-leb 1 (length bs) (omega arith))

  module _ (k : Opcode) (u : known_family f ≡ true) (h : 0 < length bs) (e : k ≡ opcode_at f (get_or bs 0 0)) where
    pub short : length bs < size_of k → Err Unreadable.Short ≡ decode_of f bs
    unfolding decode_of
    short l = simp (u, le-leb 1 (length bs) h, ← e, lt-leb (size_of k) (length bs) l)

    pub all_there : size_of k ≤ length bs → read_as k bs ≡ decode_of f bs
    unfolding decode_of
    all_there l = simp (u, le-leb 1 (length bs) h, ← e, le-leb (size_of k) (length bs) l)

-- a reading depends on the bytes that it takes
pub same_read : (k : Opcode) (bytes other : List ℕ) → ((i : ℕ) → i < size_of k → get_or other i 0 ≡ get_or bytes i 0) → read_as k other ≡ read_as k bytes
same_read Opcode.Wait bytes other h = rw (h 0 (omega arith))
same_read Opcode.AddrLo bytes other h = rw (← two_bytes other, ← two_bytes bytes, h 1 (omega arith), h 2 (omega arith))
same_read Opcode.DataLo bytes other h = rw (← two_bytes other, ← two_bytes bytes, h 1 (omega arith), h 2 (omega arith))
same_read Opcode.Ewait bytes other h = rw (h 1 (omega arith), h 2 (omega arith))
same_read Opcode.Exit bytes other h = refl
same_read Opcode.Unset bytes other h = rw (h 0 (omega arith))
same_read Opcode.Set1 bytes other h = rw (h 0 (omega arith))
same_read Opcode.Set0 bytes other h = rw (h 0 (omega arith))
same_read Opcode.Addr bytes other h = rw (← four other, ← four bytes, h 1 (omega arith), h 2 (omega arith), h 3 (omega arith), h 4 (omega arith))
same_read Opcode.Data bytes other h = rw (← four other, ← four bytes, h 1 (omega arith), h 2 (omega arith), h 3 (omega arith), h 4 (omega arith))
same_read Opcode.Unknown bytes other h = refl

-- ---- the refusals' numbers

pub read_number : (k : Opcode) (bs : List ℕ) → decoded_number (read_as k bs) ≡ cond (is_unknown_opcode k) 3 0
read_number Opcode.Wait bs = refl
read_number Opcode.AddrLo bs = refl
read_number Opcode.DataLo bs = refl
read_number Opcode.Ewait bs = refl
read_number Opcode.Exit bs = refl
read_number Opcode.Unset bs = refl
read_number Opcode.Set1 bs = refl
read_number Opcode.Set0 bs = refl
read_number Opcode.Addr bs = refl
read_number Opcode.Data bs = refl
read_number Opcode.Unknown bs = refl

-- an opcode that takes more than a byte is a known one
pub long_known : (k : Opcode) → 1 < size_of k → is_unknown_opcode k ≡ false
long_known Opcode.Wait h = refl
long_known Opcode.AddrLo h = refl
long_known Opcode.DataLo h = refl
long_known Opcode.Ewait h = refl
long_known Opcode.Exit h = refl
long_known Opcode.Unset h = refl
long_known Opcode.Set1 h = refl
long_known Opcode.Set0 h = refl
long_known Opcode.Addr h = refl
long_known Opcode.Data h = refl
long_known Opcode.Unknown h = absurd (omega arith)

pub read_numbered : (f : ℕ) (bs : List ℕ) → decoded_number (decode_of f bs) ≡ decode_refusal f bs
unfolding decode_of decode_refusal
read_numbered f bs =
    cond_elim P (known_family f)
    (λ u. cond_elim P (leb 1 (length bs))
    (λ h. let some = leb-true 1 (length bs) h in cond_elim P (leb (size_of k) (length bs))
    (λ l. rw read_number (simp (u, ne_eqb (length bs) 0 (omega arith), le-ltb (length bs) (size_of k) (leb-true (size_of k) (length bs) l))))
    (λ l. let m = leb-false (size_of k) (length bs) l in simp (
      u,
      ne_eqb (length bs) 0 (omega arith),
      long_known k (omega arith),
      lt-ltb (length bs) (size_of k) m,
    )))
    (λ h. let none = leb-false 1 (length bs) h in simp (u, eq-eqb (length bs) 0 (omega arith))))
    (λ u. simp u)
  where
    k : Opcode
    k = opcode_at f (get_or bs 0 0)

    P : Decoded → Type 0
    P d = decoded_number d ≡ decode_refusal f bs
