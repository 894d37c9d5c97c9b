use Rattle.std.proofs.Common.{arith}
use Rattle.raster_model.specs.Masks.{open_at}
use Rattle.raster_model.specs.Raster.{lifted}
use Rattle.raster_model.specs.Scene.{raster_of}
use Rattle.surface_snapshots.proofs.FreeLemmas.{free_seams, free_tiles, knows_from}
use Rattle.surface_snapshots.proofs.counting.piece_costs.Goals as goal

pub are_open_from-unmasked-requires : goal.are_open_from-unmasked-requires
are_open_from-unmasked-requires g c = record {
  row = omega (arith, c.requires.same_size, c.requires.row);
  piece = (c.requires.piece.0, omega (arith, c.requires.same_size, c.requires.piece));
}

pub follows-requires-clause-known : goal.follows-requires-clause-known
follows-requires-clause-known g c =
    knows_from (raster_of c.args.scene.now) c.args.mask.now (g.H.Heights.knows c.args.heights.now) c.args.y c.args.x0 c.args.end c.requires.same_size.0 c.requires.same_size.1 c.requires.known (c.are_open_from-unmasked.ensures search)

pub returns-clause-tiles : goal.returns-clause-tiles
returns-clause-tiles g c =
    let r = raster_of c.args.scene.now in
    let S = lifted r (g.H.Heights.cycles_at c.args.heights.now) in
    free_tiles r (open_at c.args.mask.now) S c.args.y c.args.x0 c.args.end (c.follows.ensures.right c.if-not-follows.false) (c.follows.ensures.down c.if-not-follows.false) (omega (arith, c.requires.piece))

pub returns-clause-seams : goal.returns-clause-seams
returns-clause-seams g c =
    let r = raster_of c.args.scene.now in
    let S = lifted r (g.H.Heights.cycles_at c.args.heights.now) in
    free_seams r (open_at c.args.mask.now) S c.args.y c.args.x0 c.args.end (c.follows.ensures.right c.if-not-follows.false) (c.follows.ensures.down c.if-not-follows.false) (omega (arith, c.requires.piece))
