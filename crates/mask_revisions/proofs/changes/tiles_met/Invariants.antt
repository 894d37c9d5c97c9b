use Rattle.raster_model.specs.Scripts.{rect_of}
use Rattle.mask_revisions.specs.Steps.{AreListedTiles, any_tile}
use Rattle.mask_revisions.proofs.changes.tiles_met.Given as goal

abbrev pub invariant-loop-place : goal.invariant-loop-place
invariant-loop-place l = AreListedTiles l.tiling (rect_of l.edit) any_tile l.place l.tiles.items
