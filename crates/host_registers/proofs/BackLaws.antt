-- What was written to a register reads back. Assumes nothing.
use Prim.Native.Nat.{ℕ, ◌+◌, ◌*◌, ◌/◌, ◌%◌, ◌^◌, ◌≤◌, ◌<◌}
use mathlib.Core.Path.{◌≡◌, refl, subst}
use mathlib.Core.Bool.{true, false}
use Rattle.std.specs.Prelude.{Ok}
use mathlib.Core.List.{List, ◌++◌, append_assoc}
use native.Mathlib.Omega.{arith}
use lib.Dec.{eqb}
use lib.ListN.{length, get_or, take, drop}
use lib.Seq.{sets, sets-eq, get_or-append-add, length-take-le}
use borrow.Author.Tests.{eqb-true, eqb-false}
use Rattle.families.proofs.Tests.{cond_elim}
use Rattle.isa.specs.Writer.{le_bytes}
use Rattle.machine_flags.specs.Flags.{flags_word0, flags_word1, flags_from_words}
use Rattle.machine_flags.specs.declared.flags.Flags.{Flags}
use Rattle.machine_state.specs.declared.state.State.{State}
use Rattle.host_registers.specs.Access.{after_write, control_word, reading_of}
use Rattle.host_registers.specs.Code.{four_marks, after_upload, uploaded_byte, code_word}
use Rattle.host_registers.specs.Entry.{entry_bits}
use Rattle.host_registers.specs.Promises.{is_readable, kept_bits}
use Rattle.host_registers.specs.Register.{InRoom, is_writable}
use Rattle.host_registers.specs.Status.{bit_if}
use Rattle.host_registers.specs.declared.registers.Register.{Register}

never : {A : Type 0} → false ≡ true → A
never e = let z : ◌≡◌ {A = ℕ} 0 1 = cc in absurd (omega arith)

bit_of_lem : (n weight : ℕ) → bit_if (eqb (n % 2) 1) weight ≡ n % 2 * weight
bit_of_lem n weight =
    cond_elim (λ (r : ℕ). r ≡ n % 2 * weight) (eqb (n % 2) 1)
    (λ h. let e : n % 2 ≡ 1 = eqb-true (n % 2) 1 h in rw e (omega arith))
    (λ h. let e : n % 2 ≡ 0 = omega (arith, eqb-false (n % 2) 1 h) in rw e (omega arith))

control_back : (word : ℕ) → control_word (eqb (word / 8 % 2) 1) (eqb (word / 16 % 2) 1) ≡ word / 8 % 4 * 8
control_back word = rw (bit_of_lem (word / 8) 8, bit_of_lem (word / 16) 16) (omega arith)

flags_0_back : (word other : ℕ) → word < 2 ^ 32 → flags_word0 (flags_from_words word other) ≡ word
flags_0_back word other h = omega arith

flags_1_back : (flags : Flags) (word : ℕ) → word < 2 ^ 32 → flags_word1 (flags_from_words (flags_word0 flags) word) ≡ word
flags_1_back flags word h = omega arith

entry_back : (word : ℕ) → entry_bits (entry_bits word) ≡ entry_bits word
entry_back word = same (word % 2) (word / 256 % 2) (word / 65536 % 2) (word / 16777216 % 2) (omega arith) (omega arith) (omega arith) (omega arith)
  where
    same : (a b c d : ℕ) → a < 2 → b < 2 → c < 2 → d < 2 → entry_bits (a + 256 * b + 65536 * c + 16777216 * d) ≡ a + 256 * b + 65536 * c + 16777216 * d
    same a b c d p q r s =
        let w = a + 256 * b + 65536 * c + 16777216 * d in
        let e : w % 2 ≡ a = omega arith in
        let f' : w / 256 ≡ b + 256 * c + 65536 * d = omega arith in
        let f : w / 256 % 2 ≡ b = rw f' (omega arith) in
        let g' : w / 65536 ≡ c + 256 * d = omega arith in
        let g : w / 65536 % 2 ≡ c = rw g' (omega arith) in
        let h' : w / 16777216 ≡ d = omega arith in
        let h : w / 16777216 % 2 ≡ d = rw h' (omega arith) in
        rw (e, f, g, h)

-- values stored from a place on, read from there on
stored : (l vs : List ℕ) (at : ℕ) → at + length vs ≤ length l → (k : ℕ) → get_or (sets l at vs) (at + k) 0 ≡ get_or (vs ++ drop (at + length vs) l) k 0
stored l vs at fits k =
    let e : length (take at l) ≡ at = length-take-le at l (omega arith) in
    rw (sets-eq vs l at fits, append_assoc)
    (subst (λ (n : ℕ). get_or (take at l ++ (vs ++ drop (at + length vs) l)) (n + k) 0 ≡ get_or (vs ++ drop (at + length vs) l) k 0) e (get_or-append-add
    (take at l) (vs ++ drop (at + length vs) l) k 0))

-- a state has room for 512 bytes of code and their marks
pub record Roomy (s : State) : Type 0 where
  pub code : length s.code ≡ 512
  pub marks : length s.marks ≡ 512

module _ (s : State) (roomy : Roomy s) (at word : ℕ) (fits : at + 4 ≤ 512) where
  byte_back : (k : ℕ) → get_or (four_marks ++ drop (at + 4) s.marks) k 0 ≡ 1
      → uploaded_byte (after_upload s at word) (at + k) ≡ get_or (le_bytes 4 word ++ drop (at + 4) s.code) k 0
  unfolding uploaded_byte after_upload
  byte_back k h =
      let m = stored s.marks four_marks at (omega (arith, roomy.marks)) k in
      let c = stored s.code (le_bytes 4 word) at (omega (arith, roomy.code)) k in
      rw (m, h) c

  code_back : word < 2 ^ 32 → code_word (after_upload s at word) at ≡ word
  code_back small =
      let z : at + 0 ≡ at = omega arith in
      rw (rw z at (byte_back 0 refl), byte_back 1 refl, byte_back 2 refl, byte_back 3 refl) (omega arith)

pub word_back : (s : State) → Roomy s → (register : Register) (word : ℕ) → word < 2 ^ 32 → InRoom register → is_writable register ≡ true
    → is_readable register ≡ true
    → reading_of (after_write s register word) register ≡ Ok (kept_bits register word)
word_back s roomy Register.Control word h room w r = rw (control_back word)
word_back s roomy Register.EntryPoint word h room w r = refl
word_back s roomy Register.Status word h room w r = never (cc)
word_back s roomy Register.Trigger word h room w r = never (cc)
word_back s roomy Register.Flags0 word h room w r = rw (flags_0_back word (flags_word1 s.flags) h)
word_back s roomy Register.Flags1 word h room w r = rw (flags_1_back s.flags word h)
word_back s roomy Register.EntryPointHigh word h room w r = rw (entry_back word)
word_back s roomy (Register.Code at) word h room w r = rw (code_back s roomy at.0 word room h)
word_back s roomy Register.Events word h room w r = never (cc)
word_back s roomy Register.Unlisted word h room w r = never (cc)
