use Rattle.displacement.specs.Blocks.{has_value}
use Rattle.displacement.proofs.DisplacingLemmas.{cause_is, displacement_is, fault_known, few_blocks, no_wide}
use Rattle.displacement.proofs.displacing.displace.Goals as goal
use Rattle.grid_writer.specs.Grids.{grid_of}
use Rattle.grid_writer.proofs.SizeLemmas.{sized_parts}
use Rattle.std.proofs.Common.{FitsSigned, ap, arith, inl, inr, refl, rules, w64, ◌∙◌}
use Rattle.std.specs.Prelude.{Err}
use Rattle.std.proofs.lemmas.Int.{to_z-of_z}
use Rattle.std.proofs.lemmas.Result.{err_from_is_err_and}
use Rattle.sums_and_lists.proofs.Tests.{true_and_false}

pub returns-in_default-clause-refused : goal.returns-in_default-clause-refused
returns-in_default-clause-refused c = c.in_default.ensures

pub returns-in_default-clause-reference : goal.returns-in_default-clause-reference
returns-in_default-clause-reference c = λ h. refl

pub returns-in_default-clause-wide : goal.returns-in_default-clause-wide
returns-in_default-clause-wide c =
    λ x y has w. absurd (true_and_false (has_value (grid_of c.args.grid.now) c.args.sight.x c.args.sight.y) has c.in_default.ensures)

pub div_ceil-width-requires : goal.div_ceil-width-requires
div_ceil-width-requires c = c.requires.blocks.0

pub div_ceil-height-requires : goal.div_ceil-height-requires
div_ceil-height-requires c = c.requires.blocks.0

pub overflow_mul-width : goal.overflow_mul-width
overflow_mul-width c =
    let few = (sized_parts c.div_ceil-width.result c.div_ceil-height.result (few_blocks c.args.sight.block c.args.grid.now.width c.args.grid.now.height c.div_ceil-width.result c.div_ceil-height.result c.requires.blocks.0 c.args.grid.now.sized c.div_ceil-width.ensures c.div_ceil-height.ensures)).few in omega (arith, few)

pub returns-in_err-room-clause-displaced : goal.returns-in_err-room-clause-displaced
returns-in_err-room-clause-displaced c = search rules

pub returns-in_err-room-clause-refused : goal.returns-in_err-room-clause-refused
returns-in_err-room-clause-refused c =
    let p = err_from_is_err_and c.from_residual.result c.from_residual.ensures.1 in rw (p.1, p.2) tt

pub returns-in_err-room-clause-reference : goal.returns-in_err-room-clause-reference
returns-in_err-room-clause-reference c =
    λ h. absurd (true_and_false (has_value (grid_of c.args.grid.now) c.args.sight.x c.args.sight.y) c.in-Some.ensures.0 h)

pub returns-in_err-room-clause-wide : goal.returns-in_err-room-clause-wide
returns-in_err-room-clause-wide c =
    let p = err_from_is_err_and c.from_residual.result c.from_residual.ensures.1 in λ x y has w. inr (p.1 ∙ ap Err p.2)

pub block_values-requires-clause-wave : goal.block_values-requires-clause-wave
block_values-requires-clause-wave c = c.requires.wave

pub block_values-requires-clause-blocks : goal.block_values-requires-clause-blocks
block_values-requires-clause-blocks c = c.requires.blocks

pub block_values-requires-clause-reference : goal.block_values-requires-clause-reference
block_values-requires-clause-reference c =
    let fits : FitsSigned w64 c.in-Some.reference = search rules in to_z-of_z w64 c.in-Some.reference fits ∙ c.in-Some.ensures.1

pub block_values-requires-clause-width : goal.block_values-requires-clause-width
block_values-requires-clause-width c = c.div_ceil-width.ensures

pub block_values-requires-clause-height : goal.block_values-requires-clause-height
block_values-requires-clause-height c = c.div_ceil-height.ensures

pub block_values-requires-clause-room : goal.block_values-requires-clause-room
block_values-requires-clause-room c = c.in_ok-room.ensures.len

pub returns-in_err-values-clause-displaced : goal.returns-in_err-values-clause-displaced
returns-in_err-values-clause-displaced c = search rules

pub returns-in_err-values-clause-refused : goal.returns-in_err-values-clause-refused
returns-in_err-values-clause-refused c =
    let p = err_from_is_err_and c.from_residual-in_err-values.result c.from_residual-in_err-values.ensures.1 in rw (p.1, p.2) (cause_is c.args.sight (grid_of c.args.grid.now) c.in_err-values.field-0.0 c.in-Some.ensures.0 c.in_err-values.ensures.refused)

pub returns-in_err-values-clause-reference : goal.returns-in_err-values-clause-reference
returns-in_err-values-clause-reference c =
    λ h. absurd (true_and_false (has_value (grid_of c.args.grid.now) c.args.sight.x c.args.sight.y) c.in-Some.ensures.0 h)

pub returns-in_err-values-clause-wide : goal.returns-in_err-values-clause-wide
returns-in_err-values-clause-wide c =
    let p = err_from_is_err_and c.from_residual-in_err-values.result c.from_residual-in_err-values.ensures.1 in
    λ x y has w. inl (p.1 ∙ ap Err (p.2 ∙ fault_known c.args.sight (grid_of c.args.grid.now) c.in_err-values.field-0.0 x y c.in_err-values.ensures.refused w))

pub invariant_of-result : goal.invariant_of-result
invariant_of-result c =
    record {
      sized = few_blocks c.args.sight.block c.args.grid.now.width c.args.grid.now.height c.div_ceil-width.result c.div_ceil-height.result c.requires.blocks.0 c.args.grid.now.sized c.div_ceil-width.ensures c.div_ceil-height.ensures;
      full = c.in_ok-values.ensures.full;
    }

pub returns-clause-displaced : goal.returns-clause-displaced
returns-clause-displaced c =
    displacement_is c.args.sight (grid_of c.args.grid.now) c.div_ceil-width.result c.div_ceil-height.result c.in_ok-values.values.items c.in-Some.ensures.0 c.div_ceil-width.ensures c.div_ceil-height.ensures c.in_ok-values.ensures.values

pub returns-clause-reference : goal.returns-clause-reference
returns-clause-reference c =
    λ h. absurd (true_and_false (has_value (grid_of c.args.grid.now) c.args.sight.x c.args.sight.y) c.in-Some.ensures.0 h)

pub returns-clause-wide : goal.returns-clause-wide
returns-clause-wide c =
    λ x y has w. absurd (no_wide c.args.sight (grid_of c.args.grid.now) c.div_ceil-width.result c.div_ceil-height.result c.in_ok-values.values.items x y c.div_ceil-width.ensures c.div_ceil-height.ensures c.in_ok-values.ensures.values w)
