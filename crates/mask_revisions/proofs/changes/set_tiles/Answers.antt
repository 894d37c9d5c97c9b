use Rattle.std.proofs.Common.{◌≡◌, ◌∙◌, ap, sym, refl, length, arith, true, false}
use Rattle.raster_model.specs.Masks.{open_at}
use Rattle.raster_model.specs.Scripts.{rect_of}
use Rattle.mask_revisions.specs.Edits.{differ_in, edited}
use Rattle.mask_revisions.specs.Steps.{met_tile, count_met}
use Rattle.mask_revisions.proofs.MetTiles.{listed_none, listed_without, listed_with, listed_all}
use Rattle.mask_revisions.proofs.Parts.{edited_all, edited_more, edited_none, part_tells}
use Rattle.mask_revisions.proofs.changes.set_tiles.Goals as goal
use Rattle.mask_revisions.proofs.changes.set_tiles.Goals.{then-set_box, else-set_box}

pub loop-place-init : goal.loop-place-init
loop-place-init c = record {
  few = omega (arith, c.args.tiles.now.ok.0, ap length c.requires.none);
  room = refl;
  mask = edited_none c.args.tiling.now c.args.edit c.requires.rect c.args.mask.now;
  listed = rw c.requires.none (listed_none c.args.tiling.now (rect_of c.args.edit) c.requires.rect _);
}

pub tile_met-tile-requires-clause-place : goal.tile_met-tile-requires-clause-place
tile_met-tile-requires-clause-place c = rw c.count_met-place-end.ensures at c.loop-place-test.true

pub part_in-requires-clause-meets : goal.part_in-requires-clause-meets
part_in-requires-clause-meets c = rw c.rect_of-rect.ensures c.tile_met-tile.ensures.meets

pub loop-place-preserved : goal.loop-place-preserved
loop-place-preserved c =
    let g = c.args.tiling.now in
    let m = c.args.mask.now in
    let e = c.args.edit in
    let is = c.requires.rect in
    let l = c.loop-place in
    let p = differ_in g (open_at m) (edited e (open_at m)) in
    let tile : c.tile_met-tile.result ≡ met_tile g (rect_of e) l.place = c.tile_met-tile.ensures.value in
    let part = rw (tile, c.rect_of-rect.ensures) at c.part_in.ensures in
    let told = part_tells g e is m c.requires.across c.requires.along l.mask l.place l.invariant.mask c.part_in.result part c.set_box.result (rw c.opens.ensures at c.set_box.ensures.changed) in
    let mask = edited_more g e is m c.requires.across c.requires.along l.mask l.place l.invariant.mask c.part_in.result part c.set_box.new.mask (rw c.opens.ensures at c.set_box.ensures.set) in
    elim c.if-set_box.branch [
      | then-set_box w ↦ (
          let t : p (met_tile g (rect_of e) l.place) ≡ true = sym told ∙ w.if-set_box.true in
          record {
            few = rw w.tiles-is (omega (arith, w.push_reserved.ensures.len, l.invariant.few));
            room = rw w.tiles-is (w.push_reserved.ensures.capacity ∙ l.invariant.room);
            mask = mask;
            listed = rw (w.tiles-is, w.push_reserved.ensures.items, tile) (listed_with g (rect_of e) is p l.place l.tiles.items l.invariant.listed t);
          })
      | else-set_box w ↦ (
          let t : p (met_tile g (rect_of e) l.place) ≡ false = sym told ∙ w.if-set_box.false in
          record {
            few = rw w.tiles-is (omega (arith, l.invariant.few));
            room = rw w.tiles-is l.invariant.room;
            mask = mask;
            listed = rw w.tiles-is (listed_without g (rect_of e) is p l.place l.tiles.items l.invariant.listed t);
          })
    ]

pub returns-clause-mask : goal.returns-clause-mask
returns-clause-mask c =
    let end : c.loop-place.place ≡ count_met c.args.tiling.now (rect_of c.args.edit) = omega (arith, c.count_met-place-end.ensures) in
    edited_all c.args.tiling.now c.args.edit c.requires.rect c.args.mask.now c.loop-place.mask (rw end at c.loop-place.invariant.mask)

pub returns-clause-changed : goal.returns-clause-changed
returns-clause-changed c =
    let end : c.loop-place.place ≡ count_met c.args.tiling.now (rect_of c.args.edit) = omega (arith, c.count_met-place-end.ensures) in
    listed_all c.args.tiling.now (rect_of c.args.edit) c.requires.rect (open_at c.args.mask.now) c.args.edit refl c.loop-place.tiles.items (rw end at c.loop-place.invariant.listed)
