-- For callers: a scene's raster has its tiling's tiles, and numbers by region are one number on each region.
use Rattle.std.proofs.Common.{◌≡◌, ℕ, ◌+◌, ◌<◌, ◌∙◌, sym, ap, subst, refl, Bool, inl, inr}
use Rattle.std.specs.Prelude.{ℤ, IsTrue, Some}
use Rattle.raster_model.specs.declared.edge.Edge.{Edge}
use Rattle.raster_model.specs.declared.scene.Scene.{Scene}
use Rattle.raster_model.specs.declared.tiling.Tiling.{Tiling}
use Rattle.raster_model.specs.MaskView.{MaskView}
use Rattle.raster_model.specs.Masks.{open_at}
use Rattle.raster_model.specs.Scene.{raster_of}
use Rattle.raster_model.specs.Raster.{Raster}
use Rattle.raster_model.specs.Seams.{AreOffsets, AreRegions, IsLabelling, is_open_inner}
use Rattle.raster_model.specs.Seams.AreJoined.{here, rightward, downward}
use Rattle.raster_model.specs.Sums.{Field, at_edge_start, at_edge_end, right_edge, down_edge}
use Rattle.joined_cells.specs.Joining.{tiles_joined}
use Rattle.joined_cells.proofs.EdgeLemmas.{down_is, ends_in, ends_open, right_is}
use Rattle.seam_regions.specs.Regions.{region_label, region_at, IsTiledBy, AreRegionsOf}
use Rattle.seam_regions.specs.RegionsView.{RegionsView}
use Rattle.std.proofs.lemmas.Bool.{cases_Bool}

pub scene_is_tiled : (s : Scene) → IsTiledBy (raster_of s) s.tiling
scene_is_tiled s = record { width = sym s.same_width.1; height = sym s.same_height.1; tile = refl }

pub regions_of_scene : (s : Scene) (m : MaskView) (v : RegionsView) → AreRegionsOf s.tiling m v → AreRegions (raster_of s) (open_at m) (region_label v) v.count
regions_of_scene s m v is = is.regions (raster_of s) (scene_is_tiled s)

-- an open pixel has a region, whose number is its label
pub region_open : (g : Tiling) (m : MaskView) (v : RegionsView) (x y : ℕ) → AreRegionsOf g m v → x < g.width → y < g.height → IsTrue (open_at m x y) → region_at v x y ≡ Some (region_label v x y)
region_open g m v x y is l h o = is.told x y l h ∙ rw o refl

-- the ends of an inner edge with open ends have one label
module _ (r : Raster) (mask : Field Bool) (labels : Field ℕ) (count : ℕ) (is : IsLabelling r mask labels count) where
  right_ends : (x y : ℕ) → IsTrue (is_open_inner r mask (right_edge x y)) → labels x y ≡ labels (x + 1) y
  right_ends x y i =
      let t = ends_in (tiles_joined r mask) (right_edge x y) i in
      let o = ends_open (tiles_joined r mask) (right_edge x y) i in
      (is.same x y (x + 1) y (t.0, t.1, o.0) (t.2, t.3, o.1)).1 (rightward here i)

  down_ends : (x y : ℕ) → IsTrue (is_open_inner r mask (down_edge x y)) → labels x y ≡ labels x (y + 1)
  down_ends x y i =
      let t = ends_in (tiles_joined r mask) (down_edge x y) i in
      let o = ends_open (tiles_joined r mask) (down_edge x y) i in
      (is.same x y x (y + 1) (t.0, t.1, o.0) (t.2, t.3, o.1)).1 (downward here i)

  pub one_label_at_ends : (e : Edge) → IsTrue (is_open_inner r mask e) → at_edge_start labels e ≡ at_edge_end labels e
  one_label_at_ends e i =
      let P : Edge → Type 0 = λ f. at_edge_start labels f ≡ at_edge_end labels f in
      let Q : Edge → Type 0 = λ f. IsTrue (is_open_inner r mask f) in
      elim (cases_Bool e.down) [
        | inl h ↦ (let s = down_is e h in subst P (sym s) (down_ends e.x e.y (subst Q s i)))
        | inr h ↦ (let s = right_is e h in subst P (sym s) (right_ends e.x e.y (subst Q s i)))
      ]

  -- so a number for each label is one number on each region
  pub offsets_by_label : (offset : ℕ → ℤ) → AreOffsets r mask (λ x y. offset (labels x y))
  offsets_by_label offset e i = ap offset (one_label_at_ends e i)
