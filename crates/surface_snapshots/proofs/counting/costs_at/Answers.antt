use Rattle.std.proofs.Common.{◌+◌, arith, sym}
use Rattle.raster_model.specs.Masks.{open_at}
use Rattle.raster_model.specs.Raster.{lifted}
use Rattle.raster_model.specs.Scene.{raster_of}
use Rattle.surface_snapshots.proofs.FreeLemmas.{knows_from, no_inner, no_seam}
use Rattle.surface_snapshots.proofs.counting.costs_at.Goals as goal

pub follows_at-requires-clause-known : goal.follows_at-requires-clause-known
follows_at-requires-clause-known g c =
    knows_from (raster_of c.args.scene.now) c.args.mask.now (g.H.Heights.knows c.args.heights.now) c.args.y c.args.x (c.args.x + 1) c.requires.same_size.0 c.requires.same_size.1 c.requires.known (c.are_open_at-unmasked.ensures search)

pub returns-clause-tiles : goal.returns-clause-tiles
returns-clause-tiles g c =
    let r = raster_of c.args.scene.now in
    let S = lifted r (g.H.Heights.cycles_at c.args.heights.now) in
    sym (no_inner r (open_at c.args.mask.now) S c.args.y c.args.x (c.args.x + 1) (c.follows_at.ensures.right c.if-not-follows_at.false) (c.follows_at.ensures.down c.if-not-follows_at.false) c.args.x (omega arith) (omega arith))

pub returns-clause-seams : goal.returns-clause-seams
returns-clause-seams g c =
    let r = raster_of c.args.scene.now in
    let S = lifted r (g.H.Heights.cycles_at c.args.heights.now) in
    sym (no_seam r (open_at c.args.mask.now) S c.args.y c.args.x (c.args.x + 1) (c.follows_at.ensures.right c.if-not-follows_at.false) (c.follows_at.ensures.down c.if-not-follows_at.false) c.args.x (omega arith) (omega arith))
