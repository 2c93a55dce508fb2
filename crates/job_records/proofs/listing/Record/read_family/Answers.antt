use Prim.Native.Nat.{ℕ}
use mathlib.Core.Path.{◌≡◌, refl, ap, sym, ◌∙◌}
use mathlib.Core.Bool.{true, false}
use mathlib.Core.List.{List}
use Rattle.std.proofs.lemmas.Result.{err_from_is_err_and}
use Rattle.families.specs.Family.{known_family}
use Rattle.host_registers.specs.Access.{fresh_of}
use Rattle.words.specs.Numbers.{byte_at}
use Rattle.job_records.proofs.KindTests.{shape_told, unstored, family_own, family_stored}
use Rattle.job_records.proofs.listing.Record.read_family.Goals as goal

pub returns-in_err-test_shape : goal.returns-in_err-test_shape
returns-in_err-test_shape c =
    let state = c.args.state.now in
    let p = err_from_is_err_and c.from_residual.result c.from_residual.ensures.1 in
    let why = c.in_err-test_shape.field-0.0 in
    rw (p.1, p.2) (record {
      tested = λ m. shape_told c.args.self.rest.now c.args.self.counts 4 c.requires why c.in_err-test_shape.ensures.number m state;
      state = unstored why _ state;
    })

pub returns-then-not-known_family : goal.returns-then-not-known_family
returns-then-not-known_family c =
    let rest : List ℕ = c.args.self.rest.now in
    let state = c.args.state.now in
    let unknown : known_family (byte_at rest 1) ≡ false =
    sym (c.known_family.ensures ∙ ap known_family c.byte_at-family.ensures) ∙ c.if-not-known_family.true in
    record {
      tested = λ m. sym (family_own rest c.args.self.counts c.requires (sym c.in_ok-test_shape.ensures.number) m state ∙ rw unknown);
      state = refl;
    }

pub returns : goal.returns
returns c =
    let rest : List ℕ = c.args.self.rest.now in
    let state = c.args.state.now in
    let known : known_family (byte_at rest 1) ≡ true =
    sym (c.known_family.ensures ∙ ap known_family c.byte_at-family.ensures) ∙ c.if-not-known_family.false in
    record {
      tested = λ m. sym (family_own rest c.args.self.counts c.requires (sym c.in_ok-test_shape.ensures.number) m state ∙ rw known);
      state = family_stored rest state c.requires (c.fresh_state.ensures.answered ∙ ap fresh_of c.byte_at-family.ensures);
    }
