use Rattle.std.proofs.Common.{◌≡◌, ◌*◌, ◌+◌, ◌^◌, ◌≤◌, pos}
use Rattle.std.specs.Prelude.{nat_lt}
use Rattle.raster_model.specs.Sums.{right_edge, down_edge}
use Rattle.raster_model.specs.Raster.{edge_cost}
use Rattle.raster_model.proofs.PartLemmas.{taken, left_out}
use Rattle.certificates.specs.TileWords.{held_raster, held_mask, surface_of_cycles}
use Rattle.certificates.proofs.CostLemmas.{right_asks, lower_asks, cost_or_none, no_cost, costs_fit, both_costs}
use Rattle.certificates.proofs.tile.Tile.cost_from.Goals as goal
use Rattle.certificates.proofs.tile.Tile.cost_from.Goals.{then-x-self, else-x-self, then-y-self, else-y-self}
use Rattle.sums_and_lists.specs.Sums.{where_true}

pub edge_cost-to_right-requires : goal.edge_cost-to_right-requires
edge_cost-to_right-requires g c =
    let k = c.args.self.now in
    let a = right_asks k (g.H.Heights.knows c.args.heights.now) c.requires.known c.args.x c.args.y c.requires.within c.if-x-self.true in
    record { same_size = k.same_size; is_edge = a.0; unmasked = λ t. (c.requires.unmasked t).0 c.if-x-self.true; known = a.1 }

pub edge_cost-to_lower-requires : goal.edge_cost-to_lower-requires
edge_cost-to_lower-requires g c =
    let k = c.args.self.now in
    let a = lower_asks k (g.H.Heights.knows c.args.heights.now) c.requires.known c.args.x c.args.y c.requires.within c.if-y-self.true in
    record { same_size = k.same_size; is_edge = a.0; unmasked = λ t. (c.requires.unmasked t).1 c.if-y-self.true; known = a.1 }

pub overflow_add-result : goal.overflow_add-result
overflow_add-result g c =
    let p : c.if-x-self.to_right ≤ 1048560 * (2 ^ 49 + 1) =
    elim c.if-x-self.branch [
      | then-x-self b ↦ cost_or_none _ _ b.to_right-is b.edge_cost-to_right.ensures.small
      | else-x-self b ↦ no_cost _ b.to_right-is
    ] in
    let q : c.if-y-self.to_lower ≤ 1048560 * (2 ^ 49 + 1) =
    elim c.if-y-self.branch [
      | then-y-self b ↦ cost_or_none _ _ b.to_lower-is b.edge_cost-to_lower.ensures.small
      | else-y-self b ↦ no_cost _ b.to_lower-is
    ] in
    (costs_fit c.if-x-self.to_right c.if-y-self.to_lower p q).0

pub returns-clause-small : goal.returns-clause-small
returns-clause-small g c =
    let p : c.if-x-self.to_right ≤ 1048560 * (2 ^ 49 + 1) =
    elim c.if-x-self.branch [
      | then-x-self b ↦ cost_or_none _ _ b.to_right-is b.edge_cost-to_right.ensures.small
      | else-x-self b ↦ no_cost _ b.to_right-is
    ] in
    let q : c.if-y-self.to_lower ≤ 1048560 * (2 ^ 49 + 1) =
    elim c.if-y-self.branch [
      | then-y-self b ↦ cost_or_none _ _ b.to_lower-is b.edge_cost-to_lower.ensures.small
      | else-y-self b ↦ no_cost _ b.to_lower-is
    ] in
    (costs_fit c.if-x-self.to_right c.if-y-self.to_lower p q).1

pub returns-clause-value : goal.returns-clause-value
returns-clause-value g c =
    let k = c.args.self.now in
    let S = surface_of_cycles k (g.H.Heights.cycles_at c.args.heights.now) in
    let p : pos c.if-x-self.to_right ≡ where_true (nat_lt c.args.x k.window.x1) (edge_cost (held_raster k) (held_mask k) S (right_edge c.args.x c.args.y)) =
    elim c.if-x-self.branch [
      | then-x-self b ↦ taken _ _ _ _ _ b.to_right-is b.edge_cost-to_right.ensures.value b.if-x-self.true
      | else-x-self b ↦ left_out _ _ _ _ b.to_right-is b.if-x-self.false
    ] in
    let q : pos c.if-y-self.to_lower ≡ where_true (nat_lt c.args.y k.window.y1) (edge_cost (held_raster k) (held_mask k) S (down_edge c.args.x c.args.y)) =
    elim c.if-y-self.branch [
      | then-y-self b ↦ taken _ _ _ _ _ b.to_lower-is b.edge_cost-to_lower.ensures.value b.if-y-self.true
      | else-y-self b ↦ left_out _ _ _ _ b.to_lower-is b.if-y-self.false
    ] in
    both_costs k (g.H.Heights.cycles_at c.args.heights.now) c.args.x c.args.y c.if-x-self.to_right c.if-y-self.to_lower c.requires.within p q
