use Rattle.std.proofs.Common.{subst, arith, refl, ℕ}
use Rattle.std.specs.Prelude.{◌==◌, Some, None}
use Rattle.dual_grid.specs.Building.{IsPlaceBelow}
use Rattle.dual_grid.specs.Layout.{weight_in}
use Rattle.dual_grid.proofs.EdgeLemmas.{few_edges}
use Rattle.dual_grid.proofs.OutLemmas.{place_found, place_missing}
use Rattle.dual_grid.proofs.grid.DualGrid.out_across.Goals as goal

pub overflow_add-result : goal.overflow_add-result
overflow_add-result c =
    let below = rw c.in-Some.is at c.place_below.ensures in
    let place = (below.found c.in-Some.place refl).0 in
    omega (arith, place, few_edges c.args.self.now.window c.args.self.now.limited)

pub returns-in-Some : goal.returns-in-Some
returns-in-Some c =
    let g = c.args.self.now in
    let below = rw c.in-Some.is at c.place_below.ensures in
    place_found g.window g.steep (weight_in g.weights.items) c.args.node c.args.edge c.requires.edge c.first_at.result c.other_at.result c.first_at.ensures c.other_at.ensures c.args.high c.in-Some.place c.requires.high
    (subst (λ (w : ℕ). IsPlaceBelow g.steep w (c.first_at.result == c.args.node) (c.other_at.result == c.args.node) c.args.high (Some c.in-Some.place)) c.weight.ensures below)

pub returns-in-None : goal.returns-in-None
returns-in-None c =
    let g = c.args.self.now in
    let below = rw c.in-None.is at c.place_below.ensures in
    place_missing g.window g.steep (weight_in g.weights.items) c.args.node c.args.edge c.requires.edge c.first_at.result c.other_at.result c.first_at.ensures c.other_at.ensures c.args.high c.requires.high
    (subst (λ (w : ℕ). IsPlaceBelow g.steep w (c.first_at.result == c.args.node) (c.other_at.result == c.args.node) c.args.high None) c.weight.ensures below)
