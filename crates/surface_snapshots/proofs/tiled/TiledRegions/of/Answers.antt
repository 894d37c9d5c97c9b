use Rattle.std.proofs.Common.{◌≡◌, ◌∙◌, ◌+◌, ◌<◌, ◌∷◌, [], ap, arith, inl, inr, length, length-append, subst, sym, List, Some}
use Rattle.std.specs.Arc.{arc_value}
use Rattle.std.specs.Prelude.{map, slice_get}
use Rattle.std.proofs.lemmas.List.{length-map, map-append}
use Rattle.raster_model.specs.Tiles.{tiles_of}
use Rattle.surface_snapshots.specs.declared.runs.TileRuns.{TileRuns}
use Rattle.surface_snapshots.specs.Packing.{TellTiles}
use Rattle.surface_snapshots.specs.Runs.{ArePacked, AreRising, RunsView, runs_of}
use Rattle.surface_snapshots.proofs.TiledLemmas.{last_or_before, regions_same, tile_told, tiles_more}
use Rattle.surface_snapshots.proofs.tiled.TiledRegions.of.Goals as goal

pub loop-tile-preserved : goal.loop-tile-preserved
loop-tile-preserved c =
    let g = c.args.tiling.now in
    let all = c.args.regions.now.labels in
    let i = c.loop-tile.invariant in
    let n = c.loop-tile.tile in
    let k = c.beside-packed.result in
    let exists : n < tiles_of g = omega (arith, c.loop-tile-test.true, c.tile_count-count.ensures.count) in
    let pushed = c.in_ok-push.ensures.items in
    let listed = rw (c.labels-all.ensures.value, c.window.ensures.value) at c.in_ok-list_labels.ensures in
    let list = c.list_labels.new.list.items in
    let packed = subst (λ (r : RunsView). ArePacked c.pack.new.self.labels.items r.first r.runs list (length list)) (sym {A = RunsView} c.beside-packed.ensures) (rw c.deref.ensures.value at c.in_ok-packed.ensures.packed) in
    let new = tile_told g n all c.pack.new.self.labels.items list (runs_of k) exists listed packed in
    record {
      size = ap length pushed ∙ length-append c.loop-tile.tiles.items (k ∷ []) ∙ omega (arith, i.size);
      told = subst (λ (l : List TileRuns). TellTiles g all c.pack.new.self.labels.items (map runs_of l) (n + 1)) (sym {A = List TileRuns} pushed)
          (rw (map-append runs_of c.loop-tile.tiles.items (k ∷ []))
          (tiles_more g all c.loop-tile.packing.labels.items c.pack.new.self.labels.items (map runs_of c.loop-tile.tiles.items) (runs_of k) n (length-map c.loop-tile.tiles.items runs_of ∙ i.size) i.told c.in_ok-packed.ensures.kept new));
      rising = λ t j e.
          elim (last_or_before c.loop-tile.tiles.items k j t (subst (λ (l : List TileRuns). slice_get l t ≡ Some j) pushed e)) [
            | inl before ↦ i.rising t j before
            | inr last ↦ subst (λ (m : TileRuns). AreRising (arc_value m.runs).items) last packed.rising
          ];
    }

pub invariant_of-result : goal.invariant_of-result
invariant_of-result c = record {
  complete = c.loop-tile.invariant.size ∙ omega (arith, c.loop-tile-test.false, c.loop-tile.auto.tile-end, c.tile_count-count.ensures.count);
  rising = c.loop-tile.invariant.rising;
}

pub returns-clause-regions : goal.returns-clause-regions
returns-clause-regions c =
    let g = c.args.tiling.now in
    let v = c.args.regions.now in
    let n : c.loop-tile.tile ≡ tiles_of g = omega (arith, c.loop-tile-test.false, c.loop-tile.auto.tile-end, c.tile_count-count.ensures.count) in
    let told = subst (TellTiles g v.labels c.loop-tile.packing.labels.items (map runs_of c.loop-tile.tiles.items)) n c.loop-tile.invariant.told in
    regions_same g c.loop-tile.packing.labels.items (map runs_of c.loop-tile.tiles.items) c.count-2.result v c.requires.across c.requires.along (ap length (sym c.labels-all.ensures.value) ∙ c.labels-all.ensures.size) c.count-2.ensures.value told
