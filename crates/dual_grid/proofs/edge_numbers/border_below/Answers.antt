use Rattle.std.proofs.Common.{◌+◌, ◌-◌, ◌*◌, ◌≤◌, ◌<◌, arith, ℕ}
use Rattle.dual_grid.specs.Nodes.{cells_of}
use Rattle.dual_grid.proofs.EdgeNumberLemmas.{at_first_row, at_last_row, nothing_between, one_found, outside_at_none}
use Rattle.dual_grid.proofs.NumberLemmas.{rights_are}
use Rattle.dual_grid.proofs.edge_numbers.border_below.Goals as goal

pub returns-then-outside-high : goal.returns-then-outside-high
returns-then-outside-high c =
    let v = c.args.window in
    one_found v (cells_of v) c.args.high (c.args.high - 1) (omega arith) (at_last_row v (c.args.high - 1) (omega arith) (omega arith))
    (nothing_between v (cells_of v) (c.args.high - 1 + 1) c.args.high (omega arith))

pub returns-then-across-high : goal.returns-then-across-high
returns-then-across-high c =
    let v = c.args.window in
    let wide = wide_is (v.x1 - v.x0) (v.y1 - v.y0) c.args.high c.if-across-high.true (omega arith) in
    one_found v (cells_of v) c.args.high (v.x1 - v.x0 - 1) (omega arith) (at_first_row v (v.x1 - v.x0 - 1) (omega (arith, rights_are v, wide)) (omega (arith, wide)))
    (outside_at_none v (v.x1 - v.x0 - 1 + 1) c.args.high (omega arith) (omega arith))
  where
    -- there is a cell, so there is a column
    wide_is : (a h n : ℕ) → a < n → n ≤ h * a → 0 < a
    wide_is a h n l m = grind arith

pub returns-then-high-gt0 : goal.returns-then-high-gt0
returns-then-high-gt0 c =
    let v = c.args.window in
    one_found v (cells_of v) c.args.high (c.args.high - 1) (omega arith) (at_first_row v (c.args.high - 1) (omega (arith, rights_are v)) (omega arith))
    (nothing_between v (cells_of v) (c.args.high - 1 + 1) c.args.high (omega arith))
