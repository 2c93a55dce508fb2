use Rattle.std.specs.Prelude.{Ok, Err}
use Prim.Native.Nat.{ℕ}
use mathlib.Core.Path.{◌≡◌, refl, sym, ap, ◌∙◌}
use mathlib.Core.Bool.{true}
use mathlib.Core.List.{List, ◌++◌}
use lib.ListN.{length, drop, take}
use lib.Seq.{take_at}
use native.Mathlib.Omega.{arith}
use Rattle.families.specs.Family.{known_family}
use Rattle.isa.specs.Reader.{decode_of}
use Rattle.isa.specs.Writer.{opcode_of, on_family, operands_fit, spell, encode_of, encoded_number}
use Rattle.isa.specs.Codec.{Writes}
use Rattle.isa.specs.declared.instructions.Instruction.{Instruction}
use Rattle.refusals.specs.declared.refusals.Unwritable.{Unwritable}
use Rattle.isa.proofs.Codec.{Writable, reads_back}
use Rattle.isa.proofs.Writing.{no_family, not_on, bad_operand, no_room, written, write_numbered}
use Rattle.isa_writer.proofs.writer.encode.Goals as goal

-- a refusal leaves the lent bytes as they were
refused : {f : ℕ} {i : Instruction} {old : List ℕ} (why : Unwritable) → Err why ≡ encode_of f i (length old)
    → Writes f i old old (Err why)
refused {f} {i} {old} why e = record { answered = e; numbered = ap encoded_number e ∙ write_numbered f i (length old); lent = refl; reads_back = tt }

pub returns-then-not-known_family : goal.returns-then-not-known_family
returns-then-not-known_family c = refused Unwritable.Family (no_family _ _ _ (sym c.known_family.ensures ∙ c.if-not-known_family.true))

pub returns-then-not-on_family : goal.returns-then-not-on_family
returns-then-not-on_family c =
    let family : known_family c.args.family ≡ true = sym c.known_family.ensures ∙ c.if-not-known_family.false in
    let on_is : let a = c.args in c.on_family.result ≡ on_family a.family (opcode_of a.instruction)
    = c.on_family.ensures ∙ ap (on_family c.args.family) c.opcode_of.ensures in
    refused Unwritable.NotOnFamily (not_on _ _ _ family (sym on_is ∙ c.if-not-on_family.true))

pub returns-then-not-operands_fit : goal.returns-then-not-operands_fit
returns-then-not-operands_fit c =
    let family : known_family c.args.family ≡ true = sym c.known_family.ensures ∙ c.if-not-known_family.false in
    let on_is : let a = c.args in c.on_family.result ≡ on_family a.family (opcode_of a.instruction)
    = c.on_family.ensures ∙ ap (on_family c.args.family) c.opcode_of.ensures in
    let on : let a = c.args in on_family a.family (opcode_of a.instruction) ≡ true = sym on_is ∙ c.if-not-on_family.false in
    refused Unwritable.Operand (bad_operand _ _ _ family on
    (sym c.operands_fit.ensures ∙ c.if-not-operands_fit.true))

pub returns : goal.returns
returns c =
    let family : known_family c.args.family ≡ true = sym c.known_family.ensures ∙ c.if-not-known_family.false in
    let on_is : let a = c.args in c.on_family.result ≡ on_family a.family (opcode_of a.instruction)
    = c.on_family.ensures ∙ ap (on_family c.args.family) c.opcode_of.ensures in
    let on : let a = c.args in on_family a.family (opcode_of a.instruction) ≡ true = sym on_is ∙ c.if-not-on_family.false in
    let fit : operands_fit c.args.instruction ≡ true = sym c.operands_fit.ensures ∙ c.if-not-operands_fit.false in
    let width_is : c.width-n.result ≡ length (spell c.args.instruction) = c.width-n.ensures ∙ ap length c.spelled-spelling.ensures.0 in
    let w = width_is in
    let a = c.args in
    let n = c.width-n.result in
    let s = spell a.instruction in
    let new = c.put.new.out in
    let e : new ≡ s ++ drop n a.out.now = cc in
    let front : take n new ≡ s = ap (take n) e ∙ take_at s (drop n a.out.now) n (sym w) in
    let ok : Writable a.family a.instruction = record {
      family = family;
      on = on;
      fit = fit;
      in_type = c.spelled-spelling.ensures.1;
    } in
    let answered : Ok n ≡ encode_of a.family a.instruction (length a.out.now) = ap Ok w
    ∙ written _ _ _ ok.family ok.on ok.fit (omega (arith, w)) in
    record {
      answered = answered;
      numbered = ap encoded_number answered ∙ write_numbered a.family a.instruction (length a.out.now);
      lent = e;
      reads_back = λ (after : List ℕ). ap (λ (b : List ℕ). decode_of a.family (b ++ after)) front ∙ reads_back a.family a.instruction after ok
          ∙ ap (λ (n : ℕ). Ok (a.instruction, n)) (sym w);
    }

pub returns-then-out-n : goal.returns-then-out-n
returns-then-out-n c =
    let family : known_family c.args.family ≡ true = sym c.known_family.ensures ∙ c.if-not-known_family.false in
    let on_is : let a = c.args in c.on_family.result ≡ on_family a.family (opcode_of a.instruction)
    = c.on_family.ensures ∙ ap (on_family c.args.family) c.opcode_of.ensures in
    let on : let a = c.args in on_family a.family (opcode_of a.instruction) ≡ true = sym on_is ∙ c.if-not-on_family.false in
    let fit : operands_fit c.args.instruction ≡ true = sym c.operands_fit.ensures ∙ c.if-not-operands_fit.false in
    let width_is : c.width-n.result ≡ length (spell c.args.instruction) = c.width-n.ensures ∙ ap length c.spelled-spelling.ensures.0 in
    refused Unwritable.Room (no_room _ _ _ family on fit (omega (arith, width_is)))
