use Rattle.displacement.proofs.BlockLemmas.{below_grid, has_a_value, has_no_value, right_of_grid}
use Rattle.displacement.proofs.displacing.value_of.Goals as goal
use Rattle.displacement.proofs.displacing.value_of.Goals.{then-x-grid-via-then-x-grid, then-x-grid-via-else-x-grid+then-y-grid}
use Rattle.grid_writer.specs.Grids.{grid_of}
use Rattle.grid_writer.proofs.SizeLemmas.{sized_parts}
use Rattle.grid_writer.specs.Values.{is_value}
use Rattle.grid_writer.proofs.NoData.{a_value, is_no_data, no_bits, no_value}
use Rattle.std.proofs.Common.{FitsSigned, ap, arith, pos, rules, sym, vec_len, w64, ◌*◌, ◌+◌, ◌∙◌}
use Rattle.std.proofs.lemmas.Int.{to_z-of_z}
use Rattle.std.proofs.lemmas.List.{get_or_read_under}
use Rattle.std.proofs.lemmas.Nat.{mul-add-lt}

pub returns-then-x-grid : goal.returns-then-x-grid
returns-then-x-grid c = elim c.then-x-grid.branch [
  | then-x-grid-via-then-x-grid w ↦ right_of_grid (grid_of c.args.grid.now) c.args.x c.args.y w.if-x-grid.true
  | then-x-grid-via-else-x-grid+then-y-grid w ↦ below_grid (grid_of c.args.grid.now) c.args.x c.args.y w.if-y-grid.true
]

pub overflow_mul-y : goal.overflow_mul-y
overflow_mul-y c =
    let m = mul-add-lt c.args.y c.args.grid.now.width c.args.x c.args.grid.now.height c.if-y-grid.false c.if-x-grid.false in let few = (sized_parts c.args.grid.now.width c.args.grid.now.height c.args.grid.now.sized).few in omega (arith, m, few)

pub overflow_add-y : goal.overflow_add-y
overflow_add-y c =
    let m = mul-add-lt c.args.y c.args.grid.now.width c.args.x c.args.grid.now.height c.if-y-grid.false c.if-x-grid.false in let few = (sized_parts c.args.grid.now.width c.args.grid.now.height c.args.grid.now.sized).few in omega (arith, m, few)

pub index-value-requires : goal.index-value-requires
index-value-requires c =
    let m = mul-add-lt c.args.y c.args.grid.now.width c.args.x c.args.grid.now.height c.if-y-grid.false c.if-x-grid.false in let few = (sized_parts c.args.grid.now.width c.args.grid.now.height c.args.grid.now.sized).few in let n = c.args.grid.now.full in omega (arith, m, n)

pub returns-then-value : goal.returns-then-value
returns-then-value c =
    let m = mul-add-lt c.args.y c.args.grid.now.width c.args.x c.args.grid.now.height c.if-y-grid.false c.if-x-grid.false in
    let n = c.args.grid.now.full in
    let same = get_or_read_under c.args.grid.now.values.items (c.args.y * c.args.grid.now.width + c.args.x) (vec_len c.args.grid.now.values) c.index-value.result.now (pos 0) c.index-value.ensures (omega (arith, m, n)) c.args.grid.now.values.ok.0 in
    let fits : FitsSigned w64 c.index-value.result.now = search rules in
    has_no_value (grid_of c.args.grid.now) c.args.x c.args.y c.if-x-grid.false c.if-y-grid.false (ap is_value (sym same) ∙ no_value c.index-value.result.now (is_no_data c.index-value.result.now fits c.if-value.true))

pub returns-else-value : goal.returns-else-value
returns-else-value c =
    let m = mul-add-lt c.args.y c.args.grid.now.width c.args.x c.args.grid.now.height c.if-y-grid.false c.if-x-grid.false in
    let n = c.args.grid.now.full in
    let same = get_or_read_under c.args.grid.now.values.items (c.args.y * c.args.grid.now.width + c.args.x) (vec_len c.args.grid.now.values) c.index-value.result.now (pos 0) c.index-value.ensures (omega (arith, m, n)) c.args.grid.now.values.ok.0 in
    let fits : FitsSigned w64 c.index-value.result.now = search rules in
    (has_a_value (grid_of c.args.grid.now) c.args.x c.args.y c.if-x-grid.false c.if-y-grid.false (ap is_value (sym same) ∙ a_value c.index-value.result.now (no_bits c.index-value.result.now c.if-value.false)), to_z-of_z w64 c.index-value.result.now fits ∙ same)
