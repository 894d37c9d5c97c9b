-- Pixels joined by walks over the edges of a raster that pass a test, and the numbers of the trees that come of it.
use Rattle.std.specs.Prelude.{◌≡◌, ℕ, ◌+◌, ◌<◌, Bool, ◌&&◌, not, ◌↔◌, IsTrue}
use Rattle.raster_model.specs.declared.edge.Edge.{Edge}
use Rattle.raster_model.specs.Raster.{Raster, has_open_ends, is_seam}
use Rattle.raster_model.specs.Seams.{IsEarlier}
use Rattle.raster_model.specs.Sums.{Field, down_edge, is_edge, right_edge}

-- a raster's size, a mask, and a test of edges
pub record Joining : Type 0 where
  pub width : ℕ
  pub height : ℕ
  pub mask : Field Bool
  pub passes : Edge → Bool

-- an edge of the raster joins its ends if they are open and it passes the test
abbrev pub joins : Joining → Edge → Bool
joins joining edge = is_edge joining.width joining.height edge && has_open_ends joining.mask edge && joining.passes edge

-- the pixel (x, y) and another are joined by a walk over such edges, in either direction
pub data AreJoinedBy (joining : Joining) (x y : ℕ) : ℕ → ℕ → Type 0 where
  here : AreJoinedBy joining x y x y
  rightward : {a b : ℕ} → AreJoinedBy joining x y a b → IsTrue (joins joining (right_edge a b)) → AreJoinedBy joining x y (a + 1) b
  leftward : {a b : ℕ} → AreJoinedBy joining x y (a + 1) b → IsTrue (joins joining (right_edge a b)) → AreJoinedBy joining x y a b
  downward : {a b : ℕ} → AreJoinedBy joining x y a b → IsTrue (joins joining (down_edge a b)) → AreJoinedBy joining x y a (b + 1)
  upward : {a b : ℕ} → AreJoinedBy joining x y a (b + 1) → IsTrue (joins joining (down_edge a b)) → AreJoinedBy joining x y a b

-- an open pixel; one that is joined to no earlier open pixel
abbrev pub IsOpenOf : Joining → ℕ → ℕ → Type 0
IsOpenOf joining x y = (x < joining.width) × (y < joining.height) × IsTrue (joining.mask x y)

abbrev pub IsFirstOf : Joining → ℕ → ℕ → Type 0
IsFirstOf joining x y = IsOpenOf joining x y × ((a b : ℕ) → IsOpenOf joining a b → IsEarlier a b x y → AreJoinedBy joining x y a b → ⊥)

-- numbers tell the trees of joined open pixels apart: from 0, in the row order of their first pixels
pub record AreTreeNumbers (joining : Joining) (numbers : Field ℕ) (count : ℕ) : Type 0 where
  pub below : (x y : ℕ) → IsOpenOf joining x y → numbers x y < count
  pub used : (v : ℕ) → v < count → (x : ℕ) × (y : ℕ) × IsOpenOf joining x y × (numbers x y ≡ v)
  pub same : (x y a b : ℕ) → IsOpenOf joining x y → IsOpenOf joining a b → (numbers x y ≡ numbers a b) ↔ AreJoinedBy joining x y a b
  pub in_order : (x y a b : ℕ) → IsFirstOf joining x y → IsFirstOf joining a b → IsEarlier x y a b → numbers x y < numbers a b

-- the inner edges of a raster's tiles pass
abbrev pub tiles_joined : Raster → Field Bool → Joining
tiles_joined raster mask = record { width = raster.width; height = raster.height; mask = mask; passes = λ e. not (is_seam raster e) }
