-- Verdicts on a result under two masks with the same open pixels in its tile's window.
use Rattle.std.proofs.Common.{◌≡◌, ℕ, ◌*◌, ◌<◌, ◌≤◌, ◌∙◌, ap₂, sym, refl, subst, Bool}
use Rattle.std.specs.Prelude.{ℤ, ◌&&◌, if◌then◌else◌, unsigned_abs}
use Rattle.raster_model.specs.declared.edge.Edge.{Edge}
use Rattle.raster_model.specs.declared.scene.Scene.{Scene}
use Rattle.raster_model.specs.Sums.{Field, end_x, end_y}
use Rattle.raster_model.specs.Certificates.{IsTileEdge, FacesFit, face_difference, faces_of_tile}
use Rattle.raster_model.specs.Cells.{face_at}
use Rattle.raster_model.specs.Tiles.{tiles_of, IsWithin}
use Rattle.raster_model.specs.Scene.{raster_of}
use Rattle.raster_model.proofs.TileEdges.{ends_within}
use Rattle.raster_model.proofs.TileLemmas.{scene_window, window_of-pixels}
use Rattle.certificates.specs.declared.results.TileResult.{TileResult}
use Rattle.certificates.specs.declared.verdicts.TileVerdict.{TileVerdict}
use Rattle.certificates.specs.declared.verdicts.TileVerdict.TheVariants.{Good, Shape, Range, FaceAtEdge, CostDiffers}
use Rattle.certificates.specs.Results.{AreInRange, IsFirstOutside, result_surface, window_in}
use Rattle.certificates.specs.Verdicts.{IsTileVerdict}
use Rattle.certificates.proofs.CallerLemmas.{IsSameAt, certified_same, face_bound-same, tile_cost-same}

module _ (s : Scene) (mask mask' : Field Bool) (k : TileResult) (l : k.tile < tiles_of s.tiling) (same : (x y : ℕ) → IsWithin (window_in s k) x y → mask x y ≡ mask' x y) where
  at_edge : (e : Edge) → IsTileEdge (raster_of s) k.tile e → IsSameAt (raster_of s) mask mask' (result_surface s k) (result_surface s k) e
  at_edge e i =
      let w = ends_within (raster_of s) k.tile (window_in s k) (scene_window s k.tile (window_in s k) (window_of-pixels s.tiling k.tile l)) e i in
      record { ends = ap₂ ◌&&◌ (same e.x e.y w.0) (same (end_x e) (end_y e) w.1); departs = λ o. refl }

  fits_same : (f : Field ℤ) (e : Edge) → IsTileEdge (raster_of s) k.tile e → FacesFit (raster_of s) mask k.tile f e → FacesFit (raster_of s) mask' k.tile f e
  fits_same f e i h = subst (λ (b : Bool). unsigned_abs (face_difference (faces_of_tile (raster_of s) k.tile f) e) ≤ (raster_of s).steep * (if b then (raster_of s).weight e else 0)) (at_edge e i).ends h

  fits_back : (f : Field ℤ) (e : Edge) → IsTileEdge (raster_of s) k.tile e → FacesFit (raster_of s) mask' k.tile f e → FacesFit (raster_of s) mask k.tile f e
  fits_back f e i h = subst (λ (b : Bool). unsigned_abs (face_difference (faces_of_tile (raster_of s) k.tile f) e) ≤ (raster_of s).steep * (if b then (raster_of s).weight e else 0)) (sym (at_edge e i).ends) h

  range_same : AreInRange (window_in s k) mask k.cycles.items → AreInRange (window_in s k) mask' k.cycles.items
  range_same all x y o = all x y (o.0, same x y o.0 ∙ o.1)

  outside_same : (x y : ℕ) → IsFirstOutside (window_in s k) mask k.cycles.items x y → IsFirstOutside (window_in s k) mask' k.cycles.items x y
  outside_same x y is = record {
    pixel = (is.pixel.0, sym (same x y is.pixel.0) ∙ is.pixel.1);
    outside = is.outside;
    first = λ a b o before. is.first a b (o.0, same a b o.0 ∙ o.1) before;
  }

  pub verdict_under : (v : TileVerdict) → IsTileVerdict s mask k v → IsTileVerdict s mask' k v
  verdict_under Good is = (is.0, range_same is.1, certified_same (raster_of s) mask mask' (result_surface s k) (result_surface s k) k.tile at_edge k.faces.items is.2)
  verdict_under Shape is = is
  verdict_under (Range x y) is = (is.0, outside_same x y is.1)
  verdict_under (FaceAtEdge e) is =
      let f = face_at (raster_of s) k.tile k.faces.items in (
        is.0,
        range_same is.1,
        (
          is.2.0,
          record {
            edge = is.2.1.edge;
            breaks = λ h. is.2.1.breaks (fits_back f e is.2.1.edge h);
            first = λ d i before. fits_same f d i (is.2.1.first d i before);
          },
        ),
      )
  verdict_under (CostDiffers cost bound) is =
      let f = face_at (raster_of s) k.tile k.faces.items in
      let c = tile_cost-same (raster_of s) mask mask' (result_surface s k) (result_surface s k) k.tile at_edge in
      let b = face_bound-same (raster_of s) mask mask' (result_surface s k) (result_surface s k) k.tile at_edge f in
      (is.0, range_same is.1, (is.2.0, λ e i. fits_same f e i (is.2.1 e i), is.2.2 ∙ c, is.2.3 ∙ b, is.2.4))
