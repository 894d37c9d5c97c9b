use Rattle.std.proofs.Common.{◌∙◌, ap, arith, to_z, of_z, w64, SFits, rules}
use Rattle.std.proofs.lemmas.Int.{to_z-of_z}
use Rattle.std.proofs.lemmas.List.{length-set}
use Rattle.surface_snapshots.specs.Parts.{value_or}
use Rattle.surface_snapshots.specs.declared.tiled.TiledRegions.{TiledRegions}
use Rattle.surface_snapshots.specs.Tiled.{mask_told, regions_in}
use Rattle.surface_snapshots.specs.Views.{parts_of}
use Rattle.surface_snapshots.proofs.RowLemmas.{level_same, rest_stays, row_more}
use Rattle.surface_snapshots.proofs.snapshot.Snapshot.fill_row.Goals as goal

pub loop-x-init : goal.loop-x-init
loop-x-init c =
    let p = parts_of c.args.self.now in
    let e = c.shifted.ensures in
    record {
      size = c.fill_row.ensures.same;
      front = λ x below. absurd (omega (arith, below));
      rest = λ x from below. c.fill_row.ensures.front x (rw e.scene below) ∙ level_same c.shifted.result p x c.args.y e.scene (ap (λ (r : TiledRegions). mask_told (regions_in r)) e.regions) (ap regions_in e.regions) e.tiles e.offsets;
    }

pub loop-x-preserved : goal.loop-x-preserved
loop-x-preserved c =
    let p = parts_of c.args.self.now in
    let row = c.loop-x.row in
    let f = value_or p (to_z w64 (of_z w64 c.args.masked)) in
    let i = c.loop-x.invariant in
    let fits : SFits w64 c.value_above.result = search rules in
    let plain = to_z-of_z w64 c.value_above.result fits in
    let v = to_z w64 (of_z w64 c.value_above.result) in
    record {
      size = length-set row c.loop-x.x v ∙ i.size;
      front = row_more f c.args.y c.loop-x.x row v (omega (arith, c.loop-x-test.true, i.size, c.requires.room, c.width-x-end.ensures)) i.front (plain ∙ c.value_above.ensures);
      rest = λ a from below. rest_stays f c.args.y c.loop-x.x row v a from ∙ i.rest a (omega (arith, from)) below;
    }
