use Rattle.std.proofs.Common.{◌≡◌, ◌+◌, pos}
use Rattle.std.specs.Prelude.{nat_lt}
use Rattle.raster_model.specs.Sums.{right_edge, down_edge}
use Rattle.raster_model.specs.Masks.{open_at}
use Rattle.raster_model.specs.Scene.{raster_of}
use Rattle.raster_model.specs.Raster.{lifted}
use Rattle.raster_model.specs.Plain.{part_edge_cost}
use Rattle.raster_model.proofs.PartLemmas.{both_edges, taken, left_out}
use Rattle.raster_model.proofs.plain.cost_from.Goals as goal
use Rattle.raster_model.proofs.plain.cost_from.Goals.{then-x-scene, else-x-scene, then-y-scene, else-y-scene}
use Rattle.sums_and_lists.specs.Sums.{where_true}

pub returns-clause-value : goal.returns-clause-value
returns-clause-value g c =
    let r = raster_of c.args.scene.now in
    let m = open_at c.args.mask.now in
    let S = lifted r (g.H.Heights.cycles_at c.args.heights.now) in
    let w = c.args.scene.now.phase.width in
    let h = c.args.scene.now.phase.height in
    let p : pos c.if-x-scene.to_right ≡ where_true (nat_lt (c.args.x + 1) w) (part_edge_cost r m c.args.part S (right_edge c.args.x c.args.y)) =
    elim c.if-x-scene.branch [
      | then-x-scene b ↦ taken _ _ _ _ _ b.to_right-is b.edge_cost_in-to_right.ensures.value b.if-x-scene.true
      | else-x-scene b ↦ left_out _ _ _ _ b.to_right-is b.if-x-scene.false
    ] in
    let q : pos c.if-y-scene.to_lower ≡ where_true (nat_lt (c.args.y + 1) h) (part_edge_cost r m c.args.part S (down_edge c.args.x c.args.y)) =
    elim c.if-y-scene.branch [
      | then-y-scene b ↦ taken _ _ _ _ _ b.to_lower-is b.edge_cost_in-to_lower.ensures.value b.if-y-scene.true
      | else-y-scene b ↦ left_out _ _ _ _ b.to_lower-is b.if-y-scene.false
    ] in
    both_edges r m c.args.part S c.args.x c.args.y c.if-x-scene.to_right c.if-y-scene.to_lower p q
