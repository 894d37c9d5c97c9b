-- Labels that are kept tile by tile: what is read at a pixel, and that they are those of a list.
use Rattle.std.proofs.Common.{◌≡◌, ◌∙◌, ℕ, ◌+◌, ◌-◌, ◌*◌, ◌/◌, ◌%◌, ◌<◌, ◌≤◌, zero, suc, ap, sym, subst, refl, arith, inl, inr, List, [], ◌∷◌, ◌++◌, length, Option, Some, None}
use Rattle.std.specs.Prelude.{map, option_map, slice_get, slice_index, slice_index_or, unwrap_or, ◌⊎◌}
use Rattle.std.specs.Arc.{arc_value}
use Rattle.std.proofs.lemmas.Option.{slice_get-map}
use Rattle.std.proofs.lemmas.Bool.{cases_lt}
use Rattle.std.proofs.lemmas.List.{ext_get_or}
use Rattle.std.proofs.lemmas.List.FromFn.{get_or-map-range_with_len, length-map-range_with_len}
use Rattle.std.proofs.Math.Nat.{div-lt_iff_lt-mul, mod-lt}
use Rattle.std.proofs.lemmas.Nat.{div-add-mod', div-mul-add, mod-mul-add, mul-add-lt}
use Rattle.raster_model.specs.declared.tiling.Tiling.{Tiling}
use Rattle.raster_model.specs.Tiles.{IsWithin, height_of, place_in, tile_at, tiles_of, width_of, window_of}
use Rattle.raster_model.proofs.TileLemmas.{tiles_are_numbered, window_of-pixels}
use Rattle.seam_regions.specs.Regions.{region_label}
use Rattle.seam_regions.specs.RegionsView.{RegionsView}
use Rattle.surface_snapshots.specs.declared.runs.Run.{Run}
use Rattle.surface_snapshots.specs.declared.runs.TileRuns.{TileRuns}
use Rattle.surface_snapshots.specs.declared.tiled.TiledRegions.{TiledRegions}
use Rattle.surface_snapshots.specs.Packing.{AreLabelsBefore, TellTiles}
use Rattle.surface_snapshots.specs.Runs.{ArePacked, AreRising, Extends, IsFirstAfter, RunsView, label_by, label_of, label_there, labels_told, run_number, runs_of}
use Rattle.surface_snapshots.specs.Tiled.{regions_in}
use Rattle.surface_snapshots.proofs.LevelLemmas.{its_window, row_reaches, same_tile}
use Rattle.surface_snapshots.proofs.RunLemmas.{first_number, longer_has, no_number}

module _ (g : Tiling) (labels : List ℕ) (tiles : List RunsView) where
  -- what is read at a pixel
  pub label_is : (x y : ℕ) → x < g.width → y < g.height → slice_index (labels_told g labels tiles) (y * g.width + x) ≡ label_there labels tiles (tile_at g x y) (place_in (window_of g (tile_at g x y)) x y)
  unfolding labels_told
  label_is x y across along =
      let below : y * g.width + x < g.width * g.height = mul-add-lt y g.width x g.height along across in
      get_or-map-range_with_len (λ (k : ℕ). label_there labels tiles (tile_at g (k % g.width) (k / g.width)) (place_in (window_of g (tile_at g (k % g.width) (k / g.width))) (k % g.width) (k / g.width))) 0 (g.width * g.height) (y * g.width + x) (y * g.width + x) 0 below (omega arith)
      ∙ rw (mod-mul-add y g.width x across, div-mul-add y g.width x across) refl

  -- they are the labels of a list, if each tile tells its own
  module _ (all : List ℕ) (told : TellTiles g all labels tiles (tiles_of g)) where
    told_there : (x y : ℕ) → x < g.width → y < g.height → label_there labels tiles (tile_at g x y) (place_in (window_of g (tile_at g x y)) x y) ≡ slice_index all (y * g.width + x)
    unfolding label_there
    told_there x y across along =
        ap (λ (o : Option ℕ). unwrap_or o 4294967295) (told (tile_at g x y) (tiles_are_numbered g x y across along) x y across along refl)

    pub labels_same : length all ≡ g.width * g.height → labels_told g labels tiles ≡ all
    unfolding labels_told
    labels_same size =
        let read = λ (k : ℕ). label_there labels tiles (tile_at g (k % g.width) (k / g.width)) (place_in (window_of g (tile_at g (k % g.width) (k / g.width))) (k % g.width) (k / g.width)) in
        let count = length-map-range_with_len read 0 (g.width * g.height) in
        ext_get_or 0 (labels_told g labels tiles) all (count ∙ sym size) (λ i below.
        let inside : i < g.width * g.height = omega (arith, below, count) in
        get_or-map-range_with_len read 0 (g.width * g.height) i i 0 inside (omega arith)
        ∙ told_there (i % g.width) (i / g.width) (column i inside) (row i inside)
        ∙ ap (slice_index all) (div-add-mod' i g.width))
      where
        column : (i : ℕ) → i < g.width * g.height → i % g.width < g.width
        column i inside = mod-lt i (omega (arith, g.wide))

        row : (i : ℕ) → i < g.width * g.height → i / g.width < g.height
        row i inside = (div-lt_iff_lt-mul {k = g.width} {x = i} {y = g.height} (omega (arith, g.wide))).1 (omega (arith, inside))

-- there is a label for each pixel
pub labels_count : (r : TiledRegions) → length (regions_in r).labels ≡ r.tiling.width * r.tiling.height
unfolding labels_told
labels_count r =
    let g = r.tiling in
    length-map-range_with_len (λ (k : ℕ). label_there r.labels.items (map runs_of r.tiles.items) (tile_at g (k % g.width) (k / g.width)) (place_in (window_of g (tile_at g (k % g.width) (k / g.width))) (k % g.width) (k / g.width))) 0 (g.width * g.height)

-- the regions that are kept are those that were given
pub regions_same : (g : Tiling) (labels : List ℕ) (tiles : List RunsView) (count : ℕ) (v : RegionsView) → v.width ≡ g.width → v.height ≡ g.height → length v.labels ≡ v.width * v.height → count ≡ v.count → TellTiles g v.labels labels tiles (tiles_of g) → record { width = g.width; height = g.height; labels = labels_told g labels tiles; count = count } ≡ v
regions_same g labels tiles count v wide high size counted told =
    rw (labels_same g labels tiles v.labels told (size ∙ rw (wide, high) refl), counted, ← wide, ← high) refl

-- ---- one more tile
-- the labels of a window, as they were packed, are told at its pixels
pub tile_told : (g : Tiling) (t : ℕ) (all labels list : List ℕ) (k : RunsView) → t < tiles_of g → AreLabelsBefore all g.width (window_of g t) ((window_of g t).y1 + 1) list → ArePacked labels k.first k.runs list (length list) → (x y : ℕ) → x < g.width → y < g.height → tile_at g x y ≡ t → label_by labels (Some k) (place_in (window_of g t) x y) ≡ Some (slice_index all (y * g.width + x))
tile_told g t all labels list k exists listed packed x y across along of_tile =
    let w = window_of g t in
    let is = window_of-pixels g t exists in
    let inside : IsWithin w x y = (is.pixels x y across along).0 of_tile in
    let high : w.y1 + 1 - w.y0 ≡ height_of w = omega (arith, is.along) in
    let size : length list ≡ width_of w * height_of w = listed.size ∙ rw high (omega arith) in
    let below : place_in w x y < width_of w * height_of w = mul-add-lt (y - w.y0) (width_of w) (x - w.x0) (height_of w) (omega (arith, inside)) (omega (arith, inside)) in
    packed.told (place_in w x y) (omega (arith, size, below)) ∙ ap (λ (l : ℕ). Some l) (listed.each x y inside (omega (arith, inside)))

get_at_end : (tiles : List RunsView) (k : RunsView) → slice_get (tiles ++ k ∷ []) (length tiles) ≡ Some k
get_at_end [] k = refl
get_at_end (x ∷ xs) k = get_at_end xs k

get_before : (tiles : List RunsView) (k : RunsView) (t : ℕ) → t < length tiles → slice_get (tiles ++ k ∷ []) t ≡ slice_get tiles t
get_before [] k t below = absurd (omega (arith, below))
get_before (x ∷ xs) k zero below = refl
get_before (x ∷ xs) k (suc t) below = get_before xs k t (omega (arith, below))

label_kept : (labels rest : List ℕ) (o : Option RunsView) (p l : ℕ) → label_by labels o p ≡ Some l → label_by (labels ++ rest) o p ≡ Some l
label_kept labels rest None p l e = cc
label_kept labels rest (Some k) p l e = go (run_number k.runs p) e
  where
    go : (o : Option ℕ) → label_of labels k.first o ≡ Some l → label_of (labels ++ rest) k.first o ≡ Some l
    go None f = cc
    go (Some n) f = longer_has labels rest (k.first + n) l f

pub tiles_more : (g : Tiling) (all labels longer : List ℕ) (tiles : List RunsView) (k : RunsView) (n : ℕ) → length tiles ≡ n → TellTiles g all labels tiles n → Extends longer labels → ((x y : ℕ) → x < g.width → y < g.height → tile_at g x y ≡ n → label_by longer (Some k) (place_in (window_of g n) x y) ≡ Some (slice_index all (y * g.width + x))) → TellTiles g all longer (tiles ++ k ∷ []) (n + 1)
tiles_more g all labels longer tiles k n size told begins new t below x y across along of_tile =
    elim (cases_lt t n) [
      | inl before ↦ rw (get_before tiles k t (omega (arith, before, size)), begins.1) (label_kept labels begins.0 (slice_get tiles t) (place_in (window_of g t) x y) (slice_index all (y * g.width + x)) (told t before x y across along of_tile))
      | inr after ↦
          (let e : t ≡ n = omega (arith, below, after) in
          let last : slice_get (tiles ++ k ∷ []) n ≡ Some k = subst (λ (m : ℕ). slice_get (tiles ++ k ∷ []) m ≡ Some k) size (get_at_end tiles k) in
          rw (e, last) (new x y across along (of_tile ∙ e)))
    ]

-- one more element of a list
pub last_or_before : {A : Type 0} (xs : List A) (x y : A) (t : ℕ) → slice_get (xs ++ x ∷ []) t ≡ Some y → (slice_get xs t ≡ Some y) ⊎ (x ≡ y)
last_or_before {A} [] x y zero e = inr (ap (λ (o : Option A). unwrap_or o x) e)
last_or_before [] x y (suc t) e = inl e
last_or_before (z ∷ zs) x y zero e = inl e
last_or_before (z ∷ zs) x y (suc t) e = last_or_before zs x y t e

-- runs that rise in each tile
pub shown_rises : (tiles : List TileRuns) (t : ℕ) (r : RunsView) → slice_get (map runs_of tiles) t ≡ Some r → ((u : ℕ) (k : TileRuns) → slice_get tiles u ≡ Some k → AreRising (arc_value k.runs).items) → AreRising r.runs
shown_rises tiles t r e rising = go (slice_get tiles t) refl (sym (slice_get-map runs_of tiles t) ∙ e)
  where
    go : (o : Option TileRuns) → slice_get tiles t ≡ o → option_map runs_of o ≡ Some r → AreRising r.runs
    go None h f = cc
    go (Some k) h f = subst (λ (v : RunsView). AreRising v.runs) (ap (λ (o : Option RunsView). unwrap_or o (runs_of k)) f) (rising t k h)

-- ---- the label at a place, by the first run that ends after an earlier place
module _ (labels : List ℕ) (tiles : List TileRuns) (t : ℕ) (k : TileRuns) (place p at : ℕ) (there : slice_get tiles t ≡ Some k) (is : IsFirstAfter (arc_value k.runs).items place at) (from : place ≤ p) where
  shown_there : slice_get (map runs_of tiles) t ≡ Some (runs_of k)
  shown_there = slice_get-map runs_of tiles t ∙ rw there refl

  pub run_label : (d : Run) → at < length (arc_value k.runs).items → p < (slice_index_or (arc_value k.runs).items at d).end → label_there labels (map runs_of tiles) t p ≡ unwrap_or (slice_get labels (k.first + (slice_index_or (arc_value k.runs).items at d).number)) 4294967295
  unfolding label_there
  run_label d inside below =
      rw (shown_there, first_number (arc_value k.runs).items d place p at (λ j l. is.passed j d l) from inside below) refl

  pub no_label : (d : Run) → length (arc_value k.runs).items ≤ at → 4294967295 ≡ label_there labels (map runs_of tiles) t p
  unfolding label_there
  no_label d past =
      rw (shown_there, no_number (arc_value k.runs).items d place p (λ j l. is.passed j d (omega (arith, l, past))) from) refl

-- ---- pixels of a row that have one label, as their places in the tile tell
module _ (r : TiledRegions) (x y t : ℕ) (across : x < r.tiling.width) (along : y < r.tiling.height) (of_tile : t ≡ tile_at r.tiling x y) where
  pub place_on : (c : ℕ) → x ≤ c → place_in (window_of r.tiling t) c y ≡ place_in (window_of r.tiling t) x y + (c - x)
  place_on c from =
      let inside : IsWithin (window_of r.tiling t) x y = ((its_window r.tiling x y t across along of_tile).pixels x y across along).0 (sym of_tile) in
      omega (arith, inside, from)

  pub span_labels : (n label : ℕ) → x + n ≤ (window_of r.tiling t).x1 + 1 → ((p : ℕ) → place_in (window_of r.tiling t) x y ≤ p → p < place_in (window_of r.tiling t) x y + n → label_there r.labels.items (map runs_of r.tiles.items) t p ≡ label) → (c : ℕ) → x ≤ c → c < x + n → region_label (regions_in r) c y ≡ label
  span_labels n label upto told c from below =
      let g = r.tiling in
      let reach = row_reaches g x y t across along of_tile in
      let same : t ≡ tile_at g c y = same_tile g x y t across along of_tile c from (omega (arith, below, upto)) in
      let place = place_on c from in
      label_is g r.labels.items (map runs_of r.tiles.items) c y (omega (arith, below, upto, reach)) along
      ∙ subst (λ (u : ℕ). label_there r.labels.items (map runs_of r.tiles.items) u (place_in (window_of g u) c y) ≡ label) same (told (place_in (window_of g t) c y) (omega (arith, place)) (omega (arith, place, from, below)))
