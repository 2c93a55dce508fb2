-- Places in code RAM, and what is fetched there. Assumes nothing.
use Rattle.std.specs.Prelude.{Ok, Err}
use Prim.Native.Nat.{ℕ, zero, suc, ◌+◌, ◌-◌, ◌≤◌, ◌<◌}
use mathlib.Core.Path.{◌≡◌, refl, ap, ◌∙◌}
use mathlib.Core.Bool.{true, false}
use mathlib.Core.List.{List, [], ◌∷◌}
use native.Mathlib.Omega.{arith}
use lib.ListN.{length, get_or, take, drop, length-take, length-drop}
use lib.Dec.{leb, ltb, eqb}
use lib.Seq.{get_or-drop}
use borrow.Author.Tests.{ltb-true, leb-true, le-ltb}
use Rattle.families.specs.Family.{known_family, code_size}
use Rattle.isa.specs.Opcode.{opcode_at, size_of}
use Rattle.isa.specs.Reader.{read_as, decode_of}
use Rattle.isa.specs.Codec.{OneSpelling}
use Rattle.isa.specs.Writer.{opcode_of, on_family, operands_fit, spell, encode_of}
use Rattle.isa.specs.declared.instructions.Instruction.{Instruction}
use Rattle.isa.specs.declared.opcodes.Opcode.{Opcode}
use Rattle.isa.specs.Answers.{Decoded}
use Rattle.refusals.specs.declared.refusals.Unreadable.{Unreadable}
use Rattle.isa.specs.Answers.{Encoded}
use Rattle.isa.proofs.Codec.{one_spelling}
use Rattle.families.proofs.Tests.{cond_elim, by_family_elim}
use Rattle.isa_fetch.specs.Fetch.{all_marked, check_marks, code_ram_of, fetch_of, Inside}

take_own : (s : ℕ) (xs : List ℕ) → take (length (take s xs)) xs ≡ take s xs
take_own zero xs = refl
take_own (suc s) [] = refl
take_own (suc s) (x ∷ xs) = ap (λ (l : List ℕ). x ∷ l) (take_own s xs)

-- the part of the code from a place to the RAM's end is the RAM from there on
pub part : (s at : ℕ) (xs : List ℕ) → take (length (take s xs) - at) (drop at xs) ≡ drop at (take s xs)
part s zero xs = let z : length (take s xs) - 0 ≡ length (take s xs) = omega arith in rw z (take_own s xs)
part zero (suc at) xs = let z : 0 - suc at ≡ 0 = omega arith in rw z
part (suc s) (suc at) [] = let z : 0 - suc at ≡ 0 = omega arith in rw z
part (suc s) (suc at) (x ∷ xs) =
    let z : suc (length (take s xs)) - suc at ≡ length (take s xs) - at = omega arith in
    rw z (part s at xs)

spelled_short : (i : Instruction) → length (spell i) ≤ 5
spelled_short (Instruction.Wait l s) = omega arith
spelled_short (Instruction.AddrLo a) = omega arith
spelled_short (Instruction.DataLo d) = omega arith
spelled_short (Instruction.Ewait e v) = omega arith
spelled_short Instruction.Exit = omega arith
spelled_short (Instruction.Unset n) = omega arith
spelled_short (Instruction.Set1 n) = omega arith
spelled_short (Instruction.Set0 n) = omega arith
spelled_short (Instruction.Addr a) = omega arith
spelled_short (Instruction.Data d) = omega arith

abbrev Fits : Instruction → Encoded → Type 0
Fits i (Ok n) = operands_fit i ≡ true
Fits i (Err why) = Unit {0}

-- what the writer takes has operands that fit
written_fits : (f : ℕ) (i : Instruction) (lent : ℕ) → Fits i (encode_of f i lent)
unfolding encode_of
written_fits f i lent =
    cond_elim (Fits i) (known_family f)
    (λ _. cond_elim (Fits i) (on_family f (opcode_of i))
    (λ _. cond_elim (Fits i) (operands_fit i)
    (λ w. cond_elim (Fits i) (leb (length (spell i)) lent) (λ _. w) (λ _. tt))
    (λ _. tt))
    (λ _. tt))
    (λ _. tt)

-- what the reader finds in the RAM from a place on lies in the RAM
pub inside_of : (family : ℕ) (code marks : List ℕ) (at : ℕ) (d : Decoded) → at ≤ length (code_ram_of family code)
    → OneSpelling family (drop at (code_ram_of family code)) d → Inside family code at (check_marks marks at d)
inside_of family code marks at (Err why) h s = tt
inside_of family code marks at (Ok (i, n)) h s =
    let ram = code_ram_of family code in
    let room : n ≤ length ram - at = omega (arith, length-drop at ram) in
    let long : length (spell i) ≡ n = ap length s.0 ∙ length-take n (drop at ram) ∙ omega (arith, length-drop at ram) in
    let fit : operands_fit i ≡ true = rw s.1 at (written_fits family i n) in
    cond_elim (Inside family code at) (all_marked n marks at) (λ _. (s.2, omega (arith, spelled_short i), omega arith, fit)) (λ _. tt)

take_bytes : (n : ℕ) (l : List ℕ) → ((i : ℕ) → get_or l i 0 < 256) → (i : ℕ) → get_or (take n l) i 0 < 256
take_bytes zero l b i = omega arith
take_bytes (suc n) [] b i = omega arith
take_bytes (suc n) (x ∷ l) b zero = b 0
take_bytes (suc n) (x ∷ l) b (suc i) = take_bytes n l (λ j. b (suc j)) i

-- so does what is fetched from bytes
pub fetch_inside : (family : ℕ) (code marks : List ℕ) (at : ℕ) → ((i : ℕ) → get_or code i 0 < 256) → Inside family code at (fetch_of family code marks at)
unfolding fetch_of
fetch_inside family code marks at b =
    let ram = code_ram_of family code in
    cond_elim (Inside family code at) (ltb at (length ram))
    (λ l. cond_elim (Inside family code at) (eqb (get_or marks at 0) 1)
    (λ _. inside_of family code marks at (decode_of family (drop at ram)) (omega (arith, ltb-true at (length ram) l))
    (one_spelling family (drop at ram) (λ j. rw (get_or-drop at ram j 0) (take_bytes (code_size family) code b (at + j)))))
    (λ _. tt))
    (λ _. tt)

-- no family has more than 512 bytes of code RAM
pub size_small : (family : ℕ) → code_size family ≤ 512
size_small family = by_family_elim (λ (n : ℕ). n ≤ 512) family 64 128 256 512 (omega arith) (omega arith) (omega arith) (omega arith) (λ _. omega arith)

pub ram_most : (family : ℕ) (code : List ℕ) → length (code_ram_of family code) ≤ code_size family
ram_most family code = omega (arith, length-take (code_size family) code)

pub ram_small : (family : ℕ) (code : List ℕ) → length (code_ram_of family code) ≤ 512
ram_small family code = omega (arith, ram_most family code, size_small family)

-- ---- where what is fetched lies, whatever numbers the code holds

-- an instruction has its opcode's size and lies in the code RAM, and so does an unknown opcode; a known family is not refused
abbrev pub Lies : ℕ → ℕ → Decoded → Type 0
Lies family at (Ok (i, n)) = (n ≡ size_of (opcode_of i)) × (0 < n) × (at + n ≤ code_size family)
Lies family at (Err Unreadable.Family) = known_family family ≡ false
Lies family at (Err Unreadable.Empty) = Unit {0}
Lies family at (Err Unreadable.Unknown) = at < code_size family
Lies family at (Err Unreadable.Short) = Unit {0}
Lies family at (Err Unreadable.NotUploaded) = Unit {0}

read_lies : (family at : ℕ) (opcode : Opcode) (bytes : List ℕ) → at + size_of opcode ≤ code_size family → Lies family at (read_as opcode bytes)
read_lies family at Opcode.Wait bytes h = (refl, omega arith, h)
read_lies family at Opcode.AddrLo bytes h = (refl, omega arith, h)
read_lies family at Opcode.DataLo bytes h = (refl, omega arith, h)
read_lies family at Opcode.Ewait bytes h = (refl, omega arith, h)
read_lies family at Opcode.Exit bytes h = (refl, omega arith, h)
read_lies family at Opcode.Unset bytes h = (refl, omega arith, h)
read_lies family at Opcode.Set1 bytes h = (refl, omega arith, h)
read_lies family at Opcode.Set0 bytes h = (refl, omega arith, h)
read_lies family at Opcode.Addr bytes h = (refl, omega arith, h)
read_lies family at Opcode.Data bytes h = (refl, omega arith, h)
read_lies family at Opcode.Unknown bytes h = omega arith

checked_lies : (family at : ℕ) (marks : List ℕ) (d : Decoded) → Lies family at d → Lies family at (check_marks marks at d)
checked_lies family at marks (Ok (i, n)) h = cond_elim (Lies family at) (all_marked n marks at) (λ _. h) (λ _. tt)
checked_lies family at marks (Err why) h = h

decoded_lies : (family at : ℕ) (bytes : List ℕ) → at + length bytes ≤ code_size family → Lies family at (decode_of family bytes)
unfolding decode_of
decoded_lies family at bytes h =
    let opcode = opcode_at family (get_or bytes 0 0) in
    cond_elim (Lies family at) (known_family family)
    (λ _. cond_elim (Lies family at) (leb 1 (length bytes))
    (λ _. cond_elim (Lies family at) (leb (size_of opcode) (length bytes))
    (λ l. read_lies family at opcode bytes (omega (arith, leb-true (size_of opcode) (length bytes) l)))
    (λ _. tt))
    (λ _. tt))
    (λ unknown. unknown)

module _ (family : ℕ) (code marks : List ℕ) (at : ℕ) where
  pub fetch_lies : Lies family at (fetch_of family code marks at)
  unfolding fetch_of
  fetch_lies =
      let ram = code_ram_of family code in
      cond_elim (Lies family at) (ltb at (length ram))
      (λ l. cond_elim (Lies family at) (eqb (get_or marks at 0) 1)
      (λ _. checked_lies family at marks (decode_of family (drop at ram))
      (decoded_lies family at (drop at ram) (omega (arith, ltb-true at (length ram) l, length-drop at ram, ram_most family code))))
      (λ _. tt))
      (λ _. tt)

  -- past the code RAM there is nothing to fetch
  pub fetch_past : code_size family ≤ at → fetch_of family code marks at ≡ Err Unreadable.Empty
  unfolding fetch_of
  fetch_past h = simp (le-ltb at (length (code_ram_of family code)) (omega (arith, ram_most family code)))

pub unknown_within : (family : ℕ) (code marks : List ℕ) (at : ℕ) → fetch_of family code marks at ≡ Err Unreadable.Unknown → at < 512
unknown_within family code marks at e = let h : at < code_size family = rw e at (fetch_lies family code marks at) in omega (arith, size_small family)
