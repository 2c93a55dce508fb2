use Rattle.std.proofs.Common.{◌≡◌, ℕ, ◌∙◌, List, Fits, w8, get_or, sym, ap, subst, arith}
use Rattle.isa.specs.Reader.{decode_of, decoded_number}
use Rattle.isa.specs.Codec.{OneSpelling, Reads}
use Rattle.isa.specs.Answers.{Decoded}
use Rattle.isa.proofs.Codec.{one_spelling}
use Rattle.isa.proofs.Reading.{no_family, no_byte, short, all_there, read_numbered}
use Rattle.isa_reader.proofs.decoding.decode.Goals as goal

module _ (family : ℕ) (bytes : List ℕ) (fits : (j : ℕ) → Fits w8 (get_or bytes j 0)) where
  spelled_so : {r : Decoded} → r ≡ decode_of family bytes → Reads family bytes r
  spelled_so e = record {
    answered = e;
    numbered = ap decoded_number e ∙ read_numbered family bytes;
    spelled_so = subst (OneSpelling family bytes) (sym e) (one_spelling family bytes (λ j. (fits j).fits));
  }

pub returns-then-not-known_family : goal.returns-then-not-known_family
returns-then-not-known_family c =
    spelled_so c.args.family c.args.bytes.now c.type_inv.bytes (no_family _ _ (sym c.known_family.ensures ∙ c.if-not-known_family.true))

pub returns-then-bytes-eq0 : goal.returns-then-bytes-eq0
returns-then-bytes-eq0 c =
    spelled_so c.args.family c.args.bytes.now c.type_inv.bytes
    (no_byte _ _ (sym c.known_family.ensures ∙ c.if-not-known_family.false) (omega arith))

pub returns : goal.returns
returns c =
    spelled_so c.args.family c.args.bytes.now c.type_inv.bytes
    (c.read_as.ensures
    ∙ all_there _ _ _ (sym c.known_family.ensures ∙ c.if-not-known_family.false) (omega arith) c.opcode_at-opcode.ensures (omega arith))

pub returns-then-bytes-size_of : goal.returns-then-bytes-size_of
returns-then-bytes-size_of c =
    spelled_so c.args.family c.args.bytes.now c.type_inv.bytes
    (short _ _ c.opcode_at-opcode.result (sym c.known_family.ensures ∙ c.if-not-known_family.false) (omega arith) c.opcode_at-opcode.ensures
    (omega arith))
