-- Reader and writer are inverse to each other, on every family. Assumes nothing.
use Rattle.std.specs.Prelude.{Ok, Err}
use Prim.Native.Nat.{ℕ, suc, ◌+◌, ◌*◌, ◌/◌, ◌%◌, ◌<◌, ◌≤◌}
use mathlib.Core.Path.{◌≡◌, refl, ap, ap₂, sym, ◌∙◌}
use mathlib.Core.Bool.{true}
use mathlib.Core.List.{List, [], ◌∷◌, ◌++◌}
use lib.ListN.{length, get_or, take}
use lib.Dec.{leb, eqb}
use native.Mathlib.Omega.{arith}
use borrow.Author.Tests.{leb-true, le-leb, eqb-true}
use Rattle.families.specs.Family.{within, known_family}
use Rattle.isa.specs.Opcode.{opcode_at, later_only, size_of}
use Rattle.isa.specs.Reader.{le_number, read_as, decode_of}
use Rattle.isa.specs.Writer.{opcode_of, on_family, operands_fit, le_bytes, spell}
use Rattle.isa.specs.Codec.{InType, OneSpelling}
use Rattle.isa.specs.declared.instructions.Instruction.{Instruction}
use Rattle.isa.specs.declared.opcodes.Opcode.{Opcode}
use Rattle.isa.specs.Answers.{Decoded}
use Rattle.families.proofs.Tests.{cond_elim, bounds}
use Rattle.isa.proofs.Bytes.{respell, reread}
use Rattle.isa.proofs.OpcodeLaws as op
use Rattle.isa.proofs.Reading.{all_there}
use Rattle.isa.proofs.Writing.{written, wait_fits_lem}

-- ---- what was read has one spelling

-- what an opcode says of the family and of the first byte
abbrev FirstByte : ℕ → Opcode → ℕ → Type 0
FirstByte f Opcode.Wait b = b ≤ 0x3f
FirstByte f Opcode.AddrLo b = (b ≡ 0x40) × (leb 2 f ≡ true)
FirstByte f Opcode.DataLo b = (b ≡ 0x42) × (leb 2 f ≡ true)
FirstByte f Opcode.Ewait b = (b ≡ 0x5f) × (leb 2 f ≡ true)
FirstByte f Opcode.Exit b = b ≡ 0x7f
FirstByte f Opcode.Unset b = (0x80 ≤ b) × (b ≤ 0x9f)
FirstByte f Opcode.Set1 b = (0xa0 ≤ b) × (b ≤ 0xbf)
FirstByte f Opcode.Set0 b = (0xc0 ≤ b) × (b ≤ 0xdf)
FirstByte f Opcode.Addr b = (b ≡ 0xe0) × (leb 2 f ≡ true)
FirstByte f Opcode.Data b = (b ≡ 0xe2) × (leb 2 f ≡ true)
FirstByte f Opcode.Unknown b = Unit {0}

first_byte : (f b : ℕ) → FirstByte f (opcode_at f b) b
unfolding opcode_at
first_byte f b =
    cond_elim P (within 0x00 b 0x3f) (λ e. (bounds 0x00 b 0x3f e).1) (λ _.
    cond_elim P (eqb b 0x40) (λ e. cond_elim P (leb 2 f) (λ t. (eqb-true b 0x40 e, t)) (λ _. tt)) (λ _.
    cond_elim P (eqb b 0x42) (λ e. cond_elim P (leb 2 f) (λ t. (eqb-true b 0x42 e, t)) (λ _. tt)) (λ _.
    cond_elim P (eqb b 0x5f) (λ e. cond_elim P (leb 2 f) (λ t. (eqb-true b 0x5f e, t)) (λ _. tt)) (λ _.
    cond_elim P (eqb b 0x7f) (λ e. eqb-true b 0x7f e) (λ _.
    cond_elim P (within 0x80 b 0x9f) (λ e. bounds 0x80 b 0x9f e) (λ _.
    cond_elim P (within 0xa0 b 0xbf) (λ e. bounds 0xa0 b 0xbf e) (λ _.
    cond_elim P (within 0xc0 b 0xdf) (λ e. bounds 0xc0 b 0xdf e) (λ _.
    cond_elim P (eqb b 0xe0) (λ e. cond_elim P (leb 2 f) (λ t. (eqb-true b 0xe0 e, t)) (λ _. tt)) (λ _.
    cond_elim P (eqb b 0xe2) (λ e. cond_elim P (leb 2 f) (λ t. (eqb-true b 0xe2 e, t)) (λ _. tt)) (λ _.
    tt))))))))))
  where
    P : Opcode → Type 0
    P k = FirstByte f k b

-- an instruction of a family whose spelling is the first n bytes
record Spelled (f : ℕ) (bs : List ℕ) (i : Instruction) (n : ℕ) : Type 0 where
  bytes : spell i ≡ take n bs
  on : on_family f (opcode_of i) ≡ true
  fit : operands_fit i ≡ true
  width : length (spell i) ≡ n
  some : 0 < n
  room : n ≤ length bs

abbrev SpelledAs : ℕ → List ℕ → Decoded → Type 0
SpelledAs f bs (Ok (i, n)) = Spelled f bs i n
SpelledAs f bs (Err why) = Unit {0}

abbrev AreBytes : List ℕ → Type 0
AreBytes bs = (j : ℕ) → get_or bs j 0 < 256

-- an instruction that its first byte holds whole
one_byte : (f : ℕ) (i : Instruction) (x : ℕ) (xs : List ℕ) → spell i ≡ x ∷ [] → on_family f (opcode_of i) ≡ true → operands_fit i ≡ true
    → Spelled f (x ∷ xs) i 1
one_byte f i x xs e o w = record { bytes = e; on = o; fit = w; width = ap length e; some = omega arith; room = omega arith }

-- a first byte and a number of n bytes after it
word : (n b x : ℕ) (xs : List ℕ) → x ≡ b → n ≤ length xs → AreBytes (x ∷ xs) → b ∷ le_bytes n (le_number (take n xs)) ≡ x ∷ take n xs
word n b x xs e h a = ap₂ (λ (y : ℕ) (ys : List ℕ). y ∷ ys) (sym e) (respell n xs h (λ j. a (suc j)))

read_spelled : (f : ℕ) (k : Opcode) (bs : List ℕ) → FirstByte f k (get_or bs 0 0) → AreBytes bs → size_of k ≤ length bs → SpelledAs f bs (read_as k bs)
read_spelled f Opcode.Wait [] r a h = absurd (omega arith)
read_spelled f Opcode.Wait (x ∷ xs) r a h =
    one_byte f (Instruction.Wait (x % 4) (x / 4)) x xs (ap (λ (y : ℕ). y ∷ []) (omega arith)) refl (simp (
      le-leb (x % 4) 3 (omega arith),
      le-leb (x / 4) 15 (omega arith),
    ))
read_spelled f Opcode.AddrLo [] r a h = absurd (omega arith)
read_spelled f Opcode.AddrLo (x ∷ xs) r a h =
    record { bytes = word 2 0x40 x xs r.0 (omega arith) a; on = r.1; fit = refl; width = refl; some = omega arith; room = h }
read_spelled f Opcode.DataLo [] r a h = absurd (omega arith)
read_spelled f Opcode.DataLo (x ∷ xs) r a h =
    record { bytes = word 2 0x42 x xs r.0 (omega arith) a; on = r.1; fit = refl; width = refl; some = omega arith; room = h }
read_spelled f Opcode.Ewait [] r a h = absurd (omega arith)
read_spelled f Opcode.Ewait (x ∷ []) r a h = absurd (omega arith)
read_spelled f Opcode.Ewait (x ∷ y ∷ []) r a h = absurd (omega arith)
read_spelled f Opcode.Ewait (x ∷ y ∷ z ∷ xs) r a h =
    record { bytes = ap (λ (w : ℕ). w ∷ y ∷ z ∷ []) (sym r.0); on = r.1; fit = refl; width = refl; some = omega arith; room = h }
read_spelled f Opcode.Exit [] r a h = absurd (omega arith)
read_spelled f Opcode.Exit (x ∷ xs) r a h = one_byte f Instruction.Exit x xs (ap (λ (y : ℕ). y ∷ []) (sym r)) refl refl
read_spelled f Opcode.Unset [] r a h = absurd (omega arith)
read_spelled f Opcode.Unset (x ∷ xs) r a h =
    one_byte f (Instruction.Unset (x % 32)) x xs (ap (λ (y : ℕ). y ∷ []) (omega arith)) refl (le-leb (x % 32) 31 (omega arith))
read_spelled f Opcode.Set1 [] r a h = absurd (omega arith)
read_spelled f Opcode.Set1 (x ∷ xs) r a h =
    one_byte f (Instruction.Set1 (x % 32)) x xs (ap (λ (y : ℕ). y ∷ []) (omega arith)) refl (le-leb (x % 32) 31 (omega arith))
read_spelled f Opcode.Set0 [] r a h = absurd (omega arith)
read_spelled f Opcode.Set0 (x ∷ xs) r a h =
    one_byte f (Instruction.Set0 (x % 32)) x xs (ap (λ (y : ℕ). y ∷ []) (omega arith)) refl (le-leb (x % 32) 31 (omega arith))
read_spelled f Opcode.Addr [] r a h = absurd (omega arith)
read_spelled f Opcode.Addr (x ∷ xs) r a h =
    record { bytes = word 4 0xe0 x xs r.0 (omega arith) a; on = r.1; fit = refl; width = refl; some = omega arith; room = h }
read_spelled f Opcode.Data [] r a h = absurd (omega arith)
read_spelled f Opcode.Data (x ∷ xs) r a h =
    record { bytes = word 4 0xe2 x xs r.0 (omega arith) a; on = r.1; fit = refl; width = refl; some = omega arith; room = h }
read_spelled f Opcode.Unknown bs r a h = tt

rewritten : (f : ℕ) (bs : List ℕ) (d : Decoded) → known_family f ≡ true → SpelledAs f bs d → OneSpelling f bs d
rewritten f bs (Ok (i, n)) u s =
    (s.bytes, sym (written f i n u s.on s.fit (omega (arith, s.width))) ∙ ap Ok s.width, s.some, s.room)
rewritten f bs (Err why) u s = tt

-- bytes that read as an instruction are the spelling that the writer gives it
pub one_spelling : (f : ℕ) (bs : List ℕ) → AreBytes bs → OneSpelling f bs (decode_of f bs)
unfolding decode_of
one_spelling f bs a =
    cond_elim P (known_family f)
    (λ u. cond_elim P (leb 1 (length bs))
    (λ _. cond_elim P (leb (size_of k) (length bs))
    (λ l. rewritten f bs (read_as k bs) u (read_spelled f k bs (first_byte f (get_or bs 0 0)) a (leb-true (size_of k) (length bs) l)))
    (λ _. tt))
    (λ _. tt))
    (λ _. tt)
  where
    P : Decoded → Type 0
    P d = OneSpelling f bs d

    k : Opcode
    k = opcode_at f (get_or bs 0 0)

-- ---- what was written reads back

-- an instruction that can be written on a family
pub record Writable (f : ℕ) (i : Instruction) : Type 0 where
  pub family : known_family f ≡ true
  pub on : on_family f (opcode_of i) ≡ true
  pub fit : operands_fit i ≡ true
  pub in_type : InType i

-- on a family that has it, a later opcode stands for itself
known_later : (f : ℕ) (k : Opcode) → leb 2 f ≡ true → k ≡ later_only f k
known_later f k e = simp e

opcode_back : (f : ℕ) (i : Instruction) → on_family f (opcode_of i) ≡ true → operands_fit i ≡ true → opcode_of i ≡ opcode_at f (get_or (spell i) 0 0)
opcode_back f (Instruction.Wait l s) o w = op.wait f (l + 4 * s) (omega (arith, wait_fits_lem l s w))
opcode_back f (Instruction.AddrLo a) o w = known_later f Opcode.AddrLo o ∙ op.addr_lo f 0x40 refl
opcode_back f (Instruction.DataLo d) o w = known_later f Opcode.DataLo o ∙ op.data_lo f 0x42 refl
opcode_back f (Instruction.Ewait e v) o w = known_later f Opcode.Ewait o ∙ op.ewait f 0x5f refl
opcode_back f Instruction.Exit o w = op.exit f 0x7f refl
opcode_back f (Instruction.Unset n) o w = op.unset f (0x80 + n) (omega arith) (omega (arith, leb-true n 31 w))
opcode_back f (Instruction.Set1 n) o w = op.set1 f (0xa0 + n) (omega arith) (omega (arith, leb-true n 31 w))
opcode_back f (Instruction.Set0 n) o w = op.set0 f (0xc0 + n) (omega arith) (omega (arith, leb-true n 31 w))
opcode_back f (Instruction.Addr a) o w = known_later f Opcode.Addr o ∙ op.addr f 0xe0 refl
opcode_back f (Instruction.Data d) o w = known_later f Opcode.Data o ∙ op.data32 f 0xe2 refl

operands_back : (i : Instruction) (after : List ℕ) → operands_fit i ≡ true → InType i
    → read_as (opcode_of i) (spell i ++ after) ≡ Ok (i, (length (spell i)))
operands_back (Instruction.Wait l s) after w t =
    let h = wait_fits_lem l s w in
    let p : (l + 4 * s) % 4 ≡ l = omega arith in
    let q : (l + 4 * s) / 4 ≡ s = omega arith in
    cc
operands_back (Instruction.AddrLo a) after w t = ap (λ (x : ℕ). Ok (Instruction.AddrLo x, 3)) (reread 2 a after t)
operands_back (Instruction.DataLo d) after w t = ap (λ (x : ℕ). Ok (Instruction.DataLo x, 3)) (reread 2 d after t)
operands_back (Instruction.Ewait e v) after w t = refl
operands_back Instruction.Exit after w t = refl
operands_back (Instruction.Unset n) after w t = ap (λ (x : ℕ). Ok (Instruction.Unset x, 1)) (omega (arith, leb-true n 31 w))
operands_back (Instruction.Set1 n) after w t = ap (λ (x : ℕ). Ok (Instruction.Set1 x, 1)) (omega (arith, leb-true n 31 w))
operands_back (Instruction.Set0 n) after w t = ap (λ (x : ℕ). Ok (Instruction.Set0 x, 1)) (omega (arith, leb-true n 31 w))
operands_back (Instruction.Addr a) after w t =
    ap (λ (x : ℕ). Ok (Instruction.Addr (record { 0 = x }), 5)) (reread 4 a.0 after t)
operands_back (Instruction.Data d) after w t = ap (λ (x : ℕ). Ok (Instruction.Data x, 5)) (reread 4 d after t)

-- a spelling is as long as its opcode says, and its first byte stands first
front : (i : Instruction) (after : List ℕ)
    → (size_of (opcode_of i) ≤ length (spell i ++ after)) × (0 < length (spell i ++ after)) × (get_or (spell i) 0 0 ≡ get_or (spell i ++ after) 0 0)
front (Instruction.Wait l s) after = (omega arith, omega arith, refl)
front (Instruction.AddrLo a) after = (omega arith, omega arith, refl)
front (Instruction.DataLo d) after = (omega arith, omega arith, refl)
front (Instruction.Ewait e v) after = (omega arith, omega arith, refl)
front Instruction.Exit after = (omega arith, omega arith, refl)
front (Instruction.Unset n) after = (omega arith, omega arith, refl)
front (Instruction.Set1 n) after = (omega arith, omega arith, refl)
front (Instruction.Set0 n) after = (omega arith, omega arith, refl)
front (Instruction.Addr a) after = (omega arith, omega arith, refl)
front (Instruction.Data d) after = (omega arith, omega arith, refl)

-- a spelling, with any bytes after it, reads as its instruction
pub reads_back : (f : ℕ) (i : Instruction) (after : List ℕ) → Writable f i → decode_of f (spell i ++ after) ≡ Ok (i, (length (spell i)))
reads_back f i after w =
    let s = front i after in
    sym (all_there f (spell i ++ after) (opcode_of i) w.family s.1 (opcode_back f i w.on w.fit ∙ ap (opcode_at f) s.2) s.0)
    ∙ operands_back i after w.fit w.in_type
