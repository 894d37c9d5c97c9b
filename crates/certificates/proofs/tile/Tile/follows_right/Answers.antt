use Rattle.std.proofs.Common.{ℕ}
use Rattle.raster_model.specs.Raster.{departure}
use Rattle.raster_model.specs.Sums.{right_edge}
use Rattle.certificates.specs.TileWords.{held_raster, surface_of_cycles}
use Rattle.certificates.proofs.FreeRows.{one_follows}
use Rattle.certificates.proofs.tile.Tile.follows_right.Goals as goal

pub loop-x-preserved : goal.loop-x-preserved
loop-x-preserved g c =
    let k = c.args.self.now in
    let S = surface_of_cycles k (g.H.Heights.cycles_at c.args.heights.now) in
    one_follows (λ (x : ℕ). departure (held_raster k) S (right_edge x c.args.y)) k.window.x0 c.loop-x.x c.loop-x.departs c.departure.result (record { sfits = c.departure.type_inv }) c.departure.ensures.value c.loop-x.invariant
