use Rattle.std.proofs.Common.{◌+◌, ◌-◌, ◌/◌, arith, subst, ℕ}
use Rattle.std.specs.Prelude.{Some}
use Rattle.dual_grid.specs.Building.{IsEdgeBelow}
use Rattle.dual_grid.specs.Nodes.{rights_of}
use Rattle.dual_grid.proofs.EdgeNumberLemmas.{at_bottom, at_left, at_right, at_top, cell_at_none, in_order, none_found, one_found}
use Rattle.dual_grid.proofs.edge_numbers.cell_edge_below.Goals as goal

pub returns-then-left-high : goal.returns-then-left-high
returns-then-left-high c =
    let v = c.args.window in
    let u = c.args.cell in
    let n = rights_of v + (u + u / (v.x1 - v.x0) + 1) in
    let order = in_order v u c.requires.cell in
    subst (λ (k : ℕ). IsEdgeBelow v u c.args.high (Some k)) (omega arith)
    (one_found v u c.args.high n (omega arith) (at_right v u c.requires.cell (omega arith))
    (cell_at_none v u c.requires.cell (n + 1) c.args.high c.requires.high (λ l. omega (arith, l, order)) (λ l. omega (arith, l, order)) (λ l. omega (arith, l)) (λ l. omega (arith, l))))

pub returns-then-left-high-2 : goal.returns-then-left-high-2
returns-then-left-high-2 c =
    let v = c.args.window in
    let u = c.args.cell in
    let n = rights_of v + (u + u / (v.x1 - v.x0)) in
    let order = in_order v u c.requires.cell in
    subst (λ (k : ℕ). IsEdgeBelow v u c.args.high (Some k)) (omega arith)
    (one_found v u c.args.high n (omega arith) (at_left v u c.requires.cell (omega arith))
    (cell_at_none v u c.requires.cell (n + 1) c.args.high c.requires.high (λ l. omega (arith, l, order)) (λ l. omega (arith, l, order)) (λ l. omega (arith, l)) (λ l. omega arith)))

pub returns-then-cell-across : goal.returns-then-cell-across
returns-then-cell-across c =
    let v = c.args.window in
    let u = c.args.cell in
    let order = in_order v u c.requires.cell in
    one_found v u c.args.high (u + (v.x1 - v.x0)) c.if-cell-across.true (at_bottom v u c.requires.cell)
    (cell_at_none v u c.requires.cell (u + (v.x1 - v.x0) + 1) c.args.high c.requires.high (λ l. omega (arith, l)) (λ l. omega (arith, l)) (λ l. omega arith) (λ l. omega arith))

pub returns-then-cell-high : goal.returns-then-cell-high
returns-then-cell-high c =
    let v = c.args.window in
    let u = c.args.cell in
    one_found v u c.args.high u c.if-cell-high.true (at_top v u c.requires.cell)
    (cell_at_none v u c.requires.cell (u + 1) c.args.high c.requires.high (λ l. omega (arith, l)) (λ l. omega arith) (λ l. omega arith) (λ l. omega arith))

pub returns-else-cell-high : goal.returns-else-cell-high
returns-else-cell-high c =
    let v = c.args.window in
    let u = c.args.cell in
    none_found v u c.args.high (cell_at_none v u c.requires.cell 0 c.args.high c.requires.high (λ l. omega arith) (λ l. omega arith) (λ l. omega arith) (λ l. omega arith))
