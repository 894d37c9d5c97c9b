use Rattle.std.proofs.Common.{◌≡◌, ◌≤◌, vec_len, vec_capacity}
use Rattle.raster_model.specs.Masks.{open_at, IsMaskOf}
use Rattle.raster_model.specs.Scripts.{rect_of}
use Rattle.mask_revisions.specs.Edits.{differ_in, edited}
use Rattle.mask_revisions.specs.Steps.{AreListedTiles, edited_before, met_tile}
use Rattle.mask_revisions.proofs.changes.set_tiles.Given as goal

abbrev pub invariant-loop-place : goal.invariant-loop-place
invariant-loop-place l = record {
  few : vec_len l.tiles ≤ l.place;
  room : vec_capacity l.tiles ≡ vec_capacity l.fn.tiles;
  mask : IsMaskOf l.mask l.fn.mask.width l.fn.mask.height (edited_before l.tiling (met_tile l.tiling (rect_of l.edit) l.place) l.edit (open_at l.fn.mask));
  listed : AreListedTiles l.tiling (rect_of l.edit) (differ_in l.tiling (open_at l.fn.mask) (edited l.edit (open_at l.fn.mask))) l.place l.tiles.items;
}
