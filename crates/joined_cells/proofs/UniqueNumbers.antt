-- There are no two numberings of the trees: they are the regions of a raster whose tiles are the trees.
use Rattle.std.proofs.Common.{◌≡◌, ℕ, ◌+◌, Bool}
use Rattle.std.specs.Prelude.{IsTrue, pos}
use Rattle.raster_model.specs.Raster.{Raster}
use Rattle.raster_model.specs.Seams.{AreJoined, AreRegions, IsFirst, is_open_inner}
use Rattle.raster_model.specs.Seams.AreJoined.{here, rightward, leftward, downward, upward}
use Rattle.raster_model.specs.Sums.{Field, down_edge, right_edge}
use Rattle.raster_model.proofs.RegionNumbers.{region_numbers_are_unique}
use Rattle.joined_cells.specs.Joining.{AreJoinedBy, AreTreeNumbers, IsFirstOf, IsOpenOf, Joining, joins, tiles_joined}
use Rattle.joined_cells.specs.Joining.AreJoinedBy.{here as walk_here, rightward as walk_rightward, leftward as walk_leftward, downward as walk_downward, upward as walk_upward}
use Rattle.joined_cells.proofs.EdgeLemmas.{ends_in, ends_open}
use Rattle.joined_cells.proofs.TileLemmas.{ends_same, inner_open}
use Rattle.joined_cells.proofs.WalkLemmas.{walk_sym, walk_trans}

module _ (joining : Joining) (numbers : Field ℕ) (count : ℕ) (is : AreTreeNumbers joining numbers count) where
  -- its tiles are the trees
  abbrev r : Raster
  r = record { width = joining.width; height = joining.height; phase = λ x y. 0; slope = λ down. pos 0; weight = λ e. 0; tile = numbers; tile_count = 0; steep = 1 }

  abbrev mask : Field Bool
  mask = joining.mask

  right_inner : (a b : ℕ) → IsTrue (joins joining (right_edge a b)) → IsTrue (is_open_inner r mask (right_edge a b))
  right_inner a b t =
      let i = ends_in joining (right_edge a b) t in
      let o = ends_open joining (right_edge a b) t in
      let s = (is.same a b (a + 1) b (i.0, i.1, o.0) (i.2, i.3, o.1)).1 (walk_rightward walk_here t) in
      inner_open r mask (right_edge a b) i.0 i.1 i.2 i.3 s o.0 o.1

  down_inner : (a b : ℕ) → IsTrue (joins joining (down_edge a b)) → IsTrue (is_open_inner r mask (down_edge a b))
  down_inner a b t =
      let i = ends_in joining (down_edge a b) t in
      let o = ends_open joining (down_edge a b) t in
      let s = (is.same a b a (b + 1) (i.0, i.1, o.0) (i.2, i.3, o.1)).1 (walk_downward walk_here t) in
      inner_open r mask (down_edge a b) i.0 i.1 i.2 i.3 s o.0 o.1

  to_tiles : {x y a b : ℕ} → AreJoinedBy joining x y a b → AreJoined r mask x y a b
  to_tiles walk_here = here
  to_tiles (walk_rightward {a = a} {b = b} p i) = rightward (to_tiles p) (right_inner a b i)
  to_tiles (walk_leftward {a = a} {b = b} p i) = leftward (to_tiles p) (right_inner a b i)
  to_tiles (walk_downward {a = a} {b = b} p i) = downward (to_tiles p) (down_inner a b i)
  to_tiles (walk_upward {a = a} {b = b} p i) = upward (to_tiles p) (down_inner a b i)

  right_walk : (a b : ℕ) → IsTrue (is_open_inner r mask (right_edge a b)) → AreJoinedBy joining a b (a + 1) b
  right_walk a b t =
      let i = ends_in (tiles_joined r mask) (right_edge a b) t in
      let o = ends_open (tiles_joined r mask) (right_edge a b) t in
      (is.same a b (a + 1) b (i.0, i.1, o.0) (i.2, i.3, o.1)).0 (ends_same r mask (right_edge a b) t)

  down_walk : (a b : ℕ) → IsTrue (is_open_inner r mask (down_edge a b)) → AreJoinedBy joining a b a (b + 1)
  down_walk a b t =
      let i = ends_in (tiles_joined r mask) (down_edge a b) t in
      let o = ends_open (tiles_joined r mask) (down_edge a b) t in
      (is.same a b a (b + 1) (i.0, i.1, o.0) (i.2, i.3, o.1)).0 (ends_same r mask (down_edge a b) t)

  from_tiles : {x y a b : ℕ} → AreJoined r mask x y a b → AreJoinedBy joining x y a b
  from_tiles here = walk_here
  from_tiles (rightward {a = a} {b = b} p i) = walk_trans (from_tiles p) (right_walk a b i)
  from_tiles (leftward {a = a} {b = b} p i) = walk_trans (from_tiles p) (walk_sym (right_walk a b i))
  from_tiles (downward {a = a} {b = b} p i) = walk_trans (from_tiles p) (down_walk a b i)
  from_tiles (upward {a = a} {b = b} p i) = walk_trans (from_tiles p) (walk_sym (down_walk a b i))

  first_of : {x y : ℕ} → IsFirst r mask x y → IsFirstOf joining x y
  first_of f = (f.0, λ a b o e j. f.1 a b o e (to_tiles j))

  regions : (labels : Field ℕ) (n : ℕ) → AreTreeNumbers joining labels n → AreRegions r mask labels n
  regions labels n told = record {
    labelling = record {
      below = told.below;
      used = told.used;
      same = λ x y a b u v. (let s = told.same x y a b u v in (λ e. to_tiles (s.0 e), λ j. s.1 (from_tiles j)));
    };
    in_order = λ x y a b f g e. told.in_order x y a b (first_of f) (first_of g) e;
  }

  pub numbers_are_unique : (labels : Field ℕ) (n : ℕ) → AreTreeNumbers joining labels n → (count ≡ n) × ((x y : ℕ) → IsOpenOf joining x y → numbers x y ≡ labels x y)
  numbers_are_unique labels n told = region_numbers_are_unique r mask numbers count labels n (regions numbers count is) (regions labels n told)
