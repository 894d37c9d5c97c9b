use Rattle.std.proofs.Common.{◌≡◌, refl, arith}
use Rattle.raster_model.specs.Scripts.{rect_of}
use Rattle.mask_revisions.specs.Steps.{any_tile, count_met}
use Rattle.mask_revisions.proofs.MetTiles.{listed_none, listed_with, met_all}
use Rattle.mask_revisions.proofs.changes.tiles_met.Goals as goal

pub loop-place-init : goal.loop-place-init
loop-place-init c = rw c.in_ok-tiles.ensures.items (listed_none c.args.tiling.now (rect_of c.args.edit) c.requires any_tile)

pub tile_met-requires-clause-place : goal.tile_met-requires-clause-place
tile_met-requires-clause-place c = rw c.count_met-count.ensures at c.loop-place-test.true

pub loop-place-preserved : goal.loop-place-preserved
loop-place-preserved c = rw (c.in_ok-push.ensures.items, c.tile_met.ensures.value) (listed_with c.args.tiling.now (rect_of c.args.edit) c.requires any_tile c.loop-place.place c.loop-place.tiles.items c.loop-place.invariant refl)

pub returns : goal.returns
returns c =
    let end : c.loop-place.place ≡ count_met c.args.tiling.now (rect_of c.args.edit) = omega (arith, c.count_met-count.ensures) in
    met_all c.args.tiling.now (rect_of c.args.edit) c.requires c.loop-place.tiles.items (rw end at c.loop-place.invariant)
