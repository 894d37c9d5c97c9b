use Rattle.std.proofs.Common.{sym, ◌∙◌}
use Rattle.std.specs.Prelude.{codes}
use Rattle.session_script.proofs.WordAgain.{edit_spelled, no_edit, no_mask_rect, no_unmask_rect, not_stripped, stripped}
use Rattle.session_script.proofs.line.edit_of.Goals as goal

pub returns-in-Some : goal.returns-in-Some
returns-in-Some c = edit_spelled (codes "mask") c.args.line.now c.in-Some.fields.now c.in_ok-rect_of.field-0 (stripped c.args.line.now (codes "mask") c.in-Some.fields c.in-Some.ensures.cases) (sym c.rect_of.ensures ∙ c.in_ok-rect_of.was {u = tt})

pub returns : goal.returns
returns c = edit_spelled (codes "unmask") c.args.line.now c.in_ok-fields.fields.now c.in_ok-rect_of-2.field-0 (stripped c.args.line.now (codes "unmask") c.in_ok-fields.fields c.in_ok-fields.ensures.cases) (sym c.rect_of-2.ensures ∙ c.in_ok-rect_of-2.was {u = tt})

pub returns-in_err-rect_of : goal.returns-in_err-rect_of
returns-in_err-rect_of c = rw c.from_residual.ensures (no_mask_rect c.args.line.now c.in-Some.fields.now (stripped c.args.line.now (codes "mask") c.in-Some.fields c.in-Some.ensures.cases) (sym c.rect_of.ensures ∙ c.in_err-rect_of.was {u = tt}))

pub returns-in_err-fields : goal.returns-in_err-fields
returns-in_err-fields c = rw c.from_residual-in_err-fields.ensures (no_edit c.args.line.now (not_stripped c.args.line.now (codes "mask") c.in_default.ensures.cases) (not_stripped c.args.line.now (codes "unmask") c.in_err-fields.ensures.cases))

pub returns-in_err-rect_of-2 : goal.returns-in_err-rect_of-2
returns-in_err-rect_of-2 c =
    rw c.from_residual-in_err-rect_of-2.ensures (no_unmask_rect c.args.line.now c.in_ok-fields.fields.now (not_stripped c.args.line.now (codes "mask") c.in_default.ensures.cases) (stripped c.args.line.now (codes "unmask") c.in_ok-fields.fields c.in_ok-fields.ensures.cases) (sym c.rect_of-2.ensures ∙ c.in_err-rect_of-2.was {u = tt}))
