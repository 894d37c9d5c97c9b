use Rattle.std.proofs.Common.{ℕ, arith, get_or, rules, subst, FitsSigned, w32}
use Rattle.std.specs.Prelude.{ℤ, pos, ◌-ℤ◌}
use Rattle.std.proofs.lemmas.Int.{to_z-of_z}
use Rattle.dual_grid.specs.Building.{IsHeldAt, IsHeldBy}
use Rattle.dual_grid.specs.Layout.{number_or_zero, weight_in}
use Rattle.dual_grid.specs.Nodes.{edge_of, first_side, other_side}
use Rattle.dual_grid.proofs.CheckLemmas.{one_more}
use Rattle.dual_grid.proofs.grid.DualGrid.is_held.Goals as goal

pub loop-edge-preserved : goal.loop-edge-preserved
loop-edge-preserved c =
    λ n l.
    let g = c.args.self.now in
    let p = c.args.potentials.now in
    let e = edge_of g.window c.loop-edge.edge in
    let q : ℤ = get_or c.args.flows.now c.loop-edge.edge (pos 0) in
    let fits : FitsSigned w32 q = search rules in
    let here = subst (λ (z : ℤ). IsHeldBy g.steep (weight_in g.weights.items c.loop-edge.edge) (number_or_zero p (other_side g.window e) -ℤ number_or_zero p (first_side g.window e)) z) (to_z-of_z w32 q fits) (c.is_held_at.ensures.held c.if-not-is_held_at.false) in
    one_more (λ (n : ℕ). IsHeldAt g.window g.steep (weight_in g.weights.items) (number_or_zero c.args.flows.now) (number_or_zero p) n) 0 c.loop-edge.edge (λ k a b. c.loop-edge.invariant k b) here n (omega arith) l
