use mathlib.Core.Path.{sym, ap, ◌∙◌}
use native.Mathlib.Omega.{arith}
use Rattle.audit_verdict.specs.Witness.{place_of}
use Rattle.audit_witness.proofs.Answers.{nine_input, else_fits, refuses_input, refuses_room, rows_few, answers}
use Rattle.audit_witness.proofs.showing.witness.Goals as goal

pub returns-then-is_input-clause-witnesses : goal.returns-then-is_input-clause-witnesses
returns-then-is_input-clause-witnesses c = refuses_input _ _ _ (nine_input _ _ c.audit-verdict.ensures (sym c.is_input.ensures ∙ c.if-is_input.true))

pub returns-then-not-has_room-clause-witnesses : goal.returns-then-not-has_room-clause-witnesses
returns-then-not-has_room-clause-witnesses c =
    refuses_room _ _ _ (else_fits _ _ c.audit-verdict.ensures (sym c.is_input.ensures ∙ c.if-is_input.false))
    (sym c.has_room.ensures ∙ c.if-not-has_room.true)

pub follow-made-requires : goal.follow-made-requires
follow-made-requires c = (
  else_fits _ _ c.audit-verdict.ensures (sym c.is_input.ensures ∙ c.if-is_input.false),
  c.place_of.ensures ∙ ap place_of c.audit-verdict.ensures.answered,
  sym c.has_room.ensures ∙ c.if-not-has_room.false,
  c.are_bytes.ensures,
)

pub overflow_add-result : goal.overflow_add-result
overflow_add-result c =
    let fits = else_fits _ _ c.audit-verdict.ensures (sym c.is_input.ensures ∙ c.if-is_input.false) in
    omega (arith, rows_few _ _ _ fits (sym c.has_room.ensures ∙ c.if-not-has_room.false) c.audit-verdict.ensures c.follow-made.ensures.follows)

pub returns-clause-witnesses : goal.returns-clause-witnesses
returns-clause-witnesses c =
    answers _ _ _ (else_fits _ _ c.audit-verdict.ensures (sym c.is_input.ensures ∙ c.if-is_input.false))
    (sym c.has_room.ensures ∙ c.if-not-has_room.false)
    c.audit-verdict.ensures c.follow-made.ensures.follows
