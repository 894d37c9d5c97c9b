-- Numbers of the trees are the numbers of the regions.
use Rattle.std.proofs.Common.{◌≡◌, ℕ, ◌*◌, ◌<◌, ◌≤◌, sym, ◌∙◌, refl, arith, Bool, List}
use Rattle.raster_model.specs.declared.edge.Edge.{Edge}
use Rattle.raster_model.specs.declared.tiling.Tiling.{Tiling}
use Rattle.raster_model.specs.MaskView.{MaskView}
use Rattle.raster_model.specs.Masks.{open_at}
use Rattle.raster_model.specs.Sums.{Field, right_edge, down_edge}
use Rattle.raster_model.specs.Raster.{Raster}
use Rattle.raster_model.specs.Seams.{IsOpenPixel, IsFirst, AreJoined, AreRegions, is_open_inner}
use Rattle.raster_model.specs.Seams.AreJoined.{here, rightward, leftward, downward, upward}
use Rattle.joined_cells.proofs.RegionLemmas.{are_regions, label_told}
use Rattle.seam_regions.specs.Flood.{HasNumbered, tiled, tiling_joined}
use Rattle.seam_regions.specs.Regions.{IsTiledBy, most_regions, region_label, AreRegionsOf}

-- ---- walks in rasters with one size and the same tiles
module _ (r : Raster) (g : Tiling) (mask : Field Bool) (t : IsTiledBy r g) where
  same_test : (e : Edge) → is_open_inner r mask e ≡ is_open_inner (tiled g) mask e
  same_test e = rw (t.width, t.height, t.tile) refl

  joined_here : {x y a b : ℕ} → AreJoined r mask x y a b → AreJoined (tiled g) mask x y a b
  joined_here here = here
  joined_here (rightward {a = a} {b = b} p i) = rightward (joined_here p) (sym (same_test (right_edge a b)) ∙ i)
  joined_here (leftward {a = a} {b = b} p i) = leftward (joined_here p) (sym (same_test (right_edge a b)) ∙ i)
  joined_here (downward {a = a} {b = b} p i) = downward (joined_here p) (sym (same_test (down_edge a b)) ∙ i)
  joined_here (upward {a = a} {b = b} p i) = upward (joined_here p) (sym (same_test (down_edge a b)) ∙ i)

  joined_there : {x y a b : ℕ} → AreJoined (tiled g) mask x y a b → AreJoined r mask x y a b
  joined_there here = here
  joined_there (rightward {a = a} {b = b} p i) = rightward (joined_there p) (same_test (right_edge a b) ∙ i)
  joined_there (leftward {a = a} {b = b} p i) = leftward (joined_there p) (same_test (right_edge a b) ∙ i)
  joined_there (downward {a = a} {b = b} p i) = downward (joined_there p) (same_test (down_edge a b) ∙ i)
  joined_there (upward {a = a} {b = b} p i) = upward (joined_there p) (same_test (down_edge a b) ∙ i)

  open_here : {x y : ℕ} → IsOpenPixel r mask x y → IsOpenPixel (tiled g) mask x y
  open_here o = (rw t.width at o.0, rw t.height at o.1, o.2)

  open_there : {x y : ℕ} → IsOpenPixel (tiled g) mask x y → IsOpenPixel r mask x y
  open_there o = (rw t.width o.0, rw t.height o.1, o.2)

  first_here : (x y : ℕ) → IsFirst r mask x y → IsFirst (tiled g) mask x y
  first_here x y f = (open_here f.0, λ a b o e j. f.1 a b (open_there o) e (joined_there j))

  -- so they have the same regions
  regions_there : (labels : Field ℕ) (count : ℕ) → AreRegions (tiled g) mask labels count → AreRegions r mask labels count
  regions_there labels count is = record {
    labelling = record {
      below = λ x y o. is.labelling.below x y (open_here o);
      used = λ v l. let u = is.labelling.used v l in (u.0, u.1, open_there u.2, u.3);
      same = λ x y a b o q. (
        λ e. joined_there ((is.labelling.same x y a b (open_here o) (open_here q)).0 e),
        λ j. (is.labelling.same x y a b (open_here o) (open_here q)).1 (joined_here j),
      );
    };
    in_order = λ x y a b f h e. is.in_order x y a b (first_here x y f) (first_here a b h) e;
  }

-- labels as a whole
module _ (g : Tiling) (m : MaskView) (labels : List ℕ) (count : ℕ) (is : HasNumbered g (open_at m) (g.height * g.width) count labels) where
  wide : 0 < g.width
  wide = omega (arith, g.wide)

  pub regions_are : count ≤ most_regions → AreRegionsOf g m (record { width = g.width; height = g.height; labels = labels; count = count })
  regions_are few = record {
    width = refl;
    height = refl;
    regions = λ r t. regions_there r g (open_at m) t (region_label (record { width = g.width; height = g.height; labels = labels; count = count })) count (are_regions (tiled g) (open_at m) labels count wide is);
    told = label_told (tiling_joined g (open_at m)) labels count wide is (omega (arith, few));
    few = few;
  }
