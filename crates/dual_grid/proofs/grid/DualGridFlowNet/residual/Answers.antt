use Rattle.std.proofs.Common.{◌/◌, ◌%◌, ◌∙◌, ap, ap₂, arith, rules, FitsSigned, to_z, of_z, w32, ℕ, ℤ}
use Rattle.dual_grid.specs.Grids.{arc_capacity, residual_at}
use Rattle.dual_grid.specs.Layout.{weight_in}
use Rattle.dual_grid.proofs.ArcLemmas.{arc_below}
use Rattle.dual_grid.proofs.EdgeLemmas.{capacity_few}
use Rattle.dual_grid.proofs.PushLemmas.{within_all}
use Rattle.dual_grid.proofs.ReadLemmas.{read_32}
use Rattle.dual_grid.proofs.grid.DualGridFlowNet.residual.Goals as goal

pub residual_at-requires-clause-most : goal.residual_at-requires-clause-most
residual_at-requires-clause-most c = rw c.capacity.ensures (capacity_few c.args.self.now.window c.args.self.now.limited)

pub residual_at-requires-clause-flow : goal.residual_at-requires-clause-flow
residual_at-requires-clause-flow c =
    let g = c.args.self.now in
    let l = arc_below g.window g.steep (weight_in g.weights.items) c.args.arc c.requires in
    let fits : FitsSigned w32 c.index.result.now = search rules in
    rw (read_32 g.flows.items (c.args.arc / 8) c.index.result.now fits (omega (arith, l, g.fit.by_edge)) c.index.ensures) (within_all g.window g.limited g.steep g.weights.items g.flows.items g.within (c.args.arc / 8))

pub returns : goal.returns
returns c =
    let g = c.args.self.now in
    let l = arc_below g.window g.steep (weight_in g.weights.items) c.args.arc c.requires in
    let fits : FitsSigned w32 c.index.result.now = search rules in
    c.residual_at.ensures ∙ ap (λ (most : ℕ). residual_at most g.steep c.weight.result (to_z w32 (of_z w32 c.index.result.now)) (c.args.arc % 8)) c.capacity.ensures
    ∙ ap₂ (λ (w : ℕ) (q : ℤ). residual_at (arc_capacity g.window) g.steep w q (c.args.arc % 8)) c.weight.ensures (read_32 g.flows.items (c.args.arc / 8) c.index.result.now fits (omega (arith, l, g.fit.by_edge)) c.index.ensures)
