-- A surface that is put together from good results is certified in each tile: a number added on each region changes no departure inside a tile.
use Rattle.std.proofs.Common.{◌≡◌, ◌∙◌, ℕ, ap, sym, subst, refl, arith, true, false, Bool}
use Rattle.std.specs.Prelude.{◌&&◌, ◌==◌, not, IsTrue, nat_lt, Some, slice_get}
use Rattle.std.proofs.lemmas.Int.{ints}
use Rattle.std.proofs.lemmas.Bool.Decides.{nat_tests}
use Rattle.raster_model.specs.declared.edge.Edge.{Edge}
use Rattle.raster_model.specs.Cells.{IsCertifiedTile}
use Rattle.raster_model.specs.Certificates.{IsTileEdge}
use Rattle.raster_model.specs.Raster.{departure, has_open_ends}
use Rattle.raster_model.specs.Seams.{is_open_inner}
use Rattle.raster_model.specs.Sums.{end_x, end_y, is_edge}
use Rattle.raster_model.specs.Tiles.{tile_at, window_of}
use Rattle.raster_model.proofs.Exact.{cycles_depart}
use Rattle.certificates.specs.declared.results.TileResult.{TileResult}
use Rattle.certificates.specs.declared.verdicts.SeamVerdict.TheVariants.{Good}
use Rattle.certificates.specs.Results.{listed_cycles, result_surface, window_in}
use Rattle.certificates.proofs.CallerLemmas.{certified_same}
use Rattle.seam_regions.specs.Regions.{AreRegionsOf, region_label, offset_at}
use Rattle.seam_regions.proofs.CallerLemmas.{one_label_at_ends, regions_of_scene}
use Rattle.certificates.specs.TileSets.{solved_cycles}
use Rattle.surface_snapshots.specs.Parts.{Parts, AreGoodTiles, IsPublished, cycles_in_parts, faces_in, faces_of, open_in, raster_in, surface_in}
use Rattle.surface_snapshots.specs.Verdicts.{IsPartsVerdict}
use Rattle.surface_snapshots.proofs.ShiftedLemmas.{solved_is}
use Rattle.sums_and_lists.proofs.Lists.{some_at}

-- an edge of a tile has both ends in it, and is an open inner edge where they are open
tiled_ends : (w h x y a b t u v : ℕ) → IsTrue ((nat_lt x w && nat_lt y h) && (nat_lt a w && nat_lt b h) && ((u == t) && (v == t))) → (u ≡ t) × (v ≡ t)
tiled_ends w h x y a b t u v e = (grind (arith, nat_tests), grind (arith, nat_tests))

open_inner : (e o : Bool) (u v t : ℕ) → IsTrue (e && ((u == t) && (v == t))) → IsTrue o → IsTrue ((e && o) && not (not (u == v)))
open_inner true true u v t i o = grind (arith, nat_tests)
open_inner true false u v t i o = cc
open_inner false o u v t i o' = cc

module _ (p : Parts) (tiles : AreGoodTiles p.session.scene (open_in p) p.tiles.results) (regions : AreRegionsOf p.session.scene.tiling p.mask p.regions) where
  offsets_at_ends : (e : Edge) → IsTrue (is_open_inner (raster_in p) (open_in p) e) → offset_at p.regions p.seams.offsets e.x e.y ≡ offset_at p.regions p.seams.offsets (end_x e) (end_y e)
  unfolding offset_at
  offsets_at_ends e i = rw (one_label_at_ends (raster_in p) (open_in p) (region_label p.regions) p.regions.count (regions_of_scene p.session.scene p.mask p.regions regions).labelling e i) refl

  module _ (t : ℕ) (k : TileResult) (there : slice_get p.tiles.results t ≡ Some k) where
    own : k.tile ≡ t
    own = tiles.each.own t k there

    solved_there : (x y : ℕ) → tile_at p.session.scene.tiling x y ≡ t → solved_cycles p.session.scene p.tiles.results x y ≡ listed_cycles (window_in p.session.scene k) k.cycles.items x y
    solved_there x y e = sym (solved_is p.session.scene (open_in p) p.tiles.results tiles x y t k (window_in p.session.scene k) (sym e) there (ap (window_of p.session.scene.tiling) own))

    departs : (e : Edge) → IsTileEdge (raster_in p) t e → IsTrue (has_open_ends (open_in p) e) → departure (raster_in p) (result_surface p.session.scene k) e ≡ departure (raster_in p) (surface_in p) e
    departs e i o =
        let g = p.session.scene.tiling in
        let r = raster_in p in
        let u = tile_at g e.x e.y in
        let v = tile_at g (end_x e) (end_y e) in
        let ends = tiled_ends r.width r.height e.x e.y (end_x e) (end_y e) t u v i in
        let inner = open_inner (is_edge r.width r.height e) (has_open_ends (open_in p) e) u v t i o in
        cycles_depart r (listed_cycles (window_in p.session.scene k) k.cycles.items) e
        ∙ omega (arith, ints, solved_there e.x e.y ends.0, solved_there (end_x e) (end_y e) ends.1, offsets_at_ends e inner)
        ∙ sym (cycles_depart r (cycles_in_parts p) e)

    certified_there : IsCertifiedTile (raster_in p) (open_in p) t (surface_in p) (faces_in p t)
    certified_there =
        subst (λ f. IsCertifiedTile (raster_in p) (open_in p) t (surface_in p) (faces_of f)) (sym there)
        (certified_same (raster_in p) (open_in p) (open_in p) (result_surface p.session.scene k) (surface_in p) t (λ e i. record { ends = refl; departs = departs e i }) k.faces.items
        (subst (λ (n : ℕ). IsCertifiedTile (raster_in p) (open_in p) n (result_surface p.session.scene k) k.faces.items) own (tiles.good t k there).certified))

  pub published : IsPartsVerdict p Good → IsPublished p
  published good = record {
    anchored = good.2.0;
    tiles = λ t l. (let k = some_at p.tiles.results t (omega (arith, l, tiles.each.count)) in certified_there t k.0 k.1);
    seams = good.2.1;
  }
