-- A script that is audited: what row 9's tests say of it, and the action read at a place. Assumes nothing.
use Rattle.std.specs.Prelude.{Ok}
use Prim.Native.Nat.{ℕ, ◌+◌, ◌^◌, ◌≤◌, ◌<◌}
use mathlib.Core.Path.{◌≡◌, refl}
use mathlib.Core.Bool.{true}
use native.Mathlib.Omega.{arith}
use lib.Dec.{leb, eqb}
use lib.ListN.{length, get_or}
use borrow.Author.Tests.{leb-true, eqb-true}
use Rattle.families.specs.Family.{known_family, code_size, highest_entry}
use Rattle.isa.specs.Writer.{operands_fit}
use Rattle.isa.specs.declared.instructions.Instruction.{Instruction}
use Rattle.isa.specs.Answers.{Decoded}
use Rattle.isa.proofs.Clocks.{wait_most}
use Rattle.families.proofs.Tests.{both_left, both_right, by_family_elim}
use Rattle.isa_fetch.proofs.Places.{fetch_inside, fetch_lies}
use Rattle.machine_actions.specs.Action.{action_of}
use Rattle.machine_actions.specs.declared.actions.Action.{Action}
use Rattle.script.specs.Script.{Script, fetch_at}
use Rattle.script.specs.Input.{marks_plain, script_fits}

-- ---- row 9's tests of a script, as facts

pub record Fits (x : Script) : Type 0 where
  pub known : known_family x.family ≡ true
  pub code_sized : length x.code ≡ code_size x.family
  pub marks_sized : length x.marks ≡ code_size x.family
  pub plain : marks_plain x.marks ≡ true
  pub entry_low : x.entry ≤ 511

entry_most : (family : ℕ) → highest_entry family ≤ 511
entry_most family = by_family_elim (λ (n : ℕ). n ≤ 511) family 255 255 255 511 (omega arith) (omega arith) (omega arith) (omega arith) (λ _. omega arith)

pub fits_script : (x : Script) → script_fits x ≡ true → Fits x
unfolding script_fits
fits_script x e =
    let size = code_size x.family in
    let low = leb x.entry (highest_entry x.family) in
    let one = both_right (known_family x.family) _ e in
    let two = both_right (eqb (length x.code) size) _ one in
    let three = both_right (eqb (length x.marks) size) _ two in
    let four = both_right (marks_plain x.marks) low three in
    record {
      known = both_left (known_family x.family) _ e;
      code_sized = eqb-true (length x.code) size (both_left (eqb (length x.code) size) _ one);
      marks_sized = eqb-true (length x.marks) size (both_left (eqb (length x.marks) size) _ two);
      plain = both_left (marks_plain x.marks) low three;
      entry_low = omega (arith, leb-true x.entry (highest_entry x.family) four, entry_most x.family);
    }

-- a script that fits, of bytes
pub record Auditable (x : Script) : Type 0 where
  pub fits : Fits x
  pub bytes : (i : ℕ) → get_or x.code i 0 < 2 ^ 8

-- ---- the action at a place

-- the operands that an instruction of a few bytes can have
abbrev pub Formed : Action → Type 0
Formed (Action.Wait n) = n ≤ 103079215104
Formed (Action.Ewait event value) = Unit {0}
Formed (Action.Flag change flag) = flag < 32
Formed (Action.Load part word) = Unit {0}
Formed (Action.Poke part word) = Unit {0}
Formed Action.Exit = Unit {0}

formed : (i : Instruction) → operands_fit i ≡ true → Formed (action_of i)
formed (Instruction.Wait l s) w = wait_most l s
formed (Instruction.AddrLo a) w = tt
formed (Instruction.DataLo d) w = tt
formed (Instruction.Ewait e v) w = tt
formed Instruction.Exit w = tt
formed (Instruction.Unset f) w = omega (arith, leb-true f 31 w)
formed (Instruction.Set1 f) w = omega (arith, leb-true f 31 w)
formed (Instruction.Set0 f) w = omega (arith, leb-true f 31 w)
formed (Instruction.Addr a) w = tt
formed (Instruction.Data d) w = tt

-- the action at a place, n bytes long
pub record Reads (x : Script) (p : ℕ) (action : Action) (n : ℕ) : Type 0 where
  pub instruction : Instruction
  pub found : fetch_at x p ≡ Ok (instruction, n)
  pub acts : action_of instruction ≡ action
  pub some : 0 < n
  pub inside : p + n ≤ code_size x.family
  pub formed : Formed action

pub fetch_reads : (x : Script) → ((i : ℕ) → get_or x.code i 0 < 2 ^ 8) → (p : ℕ) (i : Instruction) (n : ℕ)
    → fetch_at x p ≡ Ok (i, n) → Reads x p (action_of i) n
fetch_reads x bytes p i n e =
    let inside = rw e at (fetch_inside x.family x.code x.marks p bytes) in
    let lies = rw e at (fetch_lies x.family x.code x.marks p) in
    record { instruction = i; found = e; acts = refl; some = lies.1; inside = lies.2; formed = formed i inside.3 }
