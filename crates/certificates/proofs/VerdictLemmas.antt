-- What verdicts say of certificates.
use Rattle.std.proofs.Common.{◌≡◌, ◌∙◌, sym, refl, ℕ, ℤ, List, Bool, length, ◌+◌, ◌-◌, ◌*◌, ◌<◌, ◌≤◌, ap, arith, Fits, w64}
use Rattle.std.proofs.lemmas.Nat.{mul-le}
use Rattle.std.proofs.lemmas.Bool.Decides.{nat_tests}
use Rattle.std.specs.Prelude.{◌↔◌, ◌==◌, ◌&&◌, nat_le, IsTrue}
use Rattle.raster_model.specs.declared.scene.Scene.{Scene}
use Rattle.raster_model.specs.declared.tiling.Window.{Window}
use Rattle.raster_model.specs.Raster.{Raster, lifted}
use Rattle.raster_model.specs.Sums.{Field}
use Rattle.raster_model.specs.Cells.{cell_count, IsCertifiedTile}
use Rattle.raster_model.specs.Certificates.{IsLeastInTile}
use Rattle.raster_model.specs.Tiles.{IsWindowOf, tile_at, IsTileWindow}
use Rattle.raster_model.specs.Scene.{raster_of}
use Rattle.raster_model.proofs.TileCells.{cell_count-is}
use Rattle.raster_model.proofs.TileLeast.{certified_tiles_are_least}
use Rattle.raster_model.proofs.TileLemmas.{scene_window}
use Rattle.certificates.specs.declared.results.TileResult.{TileResult}
use Rattle.certificates.specs.declared.tile.Tile.{Tile}
use Rattle.certificates.specs.declared.verdicts.TileVerdict.{TileVerdict}
use Rattle.certificates.specs.declared.verdicts.TileVerdict.TheVariants.{Good, Shape, Range, FaceAtEdge, CostDiffers}
use Rattle.certificates.specs.Results.{HasShape, AreInRange, IsGoodTile, listed_cycles, pixels_in, window_in, result_surface}
use Rattle.certificates.specs.Verdicts.{IsFacesVerdict, IsVerdictOnFaces, IsTileVerdict}

-- good exactly where the faces certify
pub faces_good : (r : Raster) (mask : Field Bool) (t : ℕ) (S : Field ℤ) (faces : List ℤ) (verdict : TileVerdict) → IsFacesVerdict r mask t S faces verdict → (verdict ≡ Good) ↔ IsCertifiedTile r mask t S faces
faces_good r mask t S faces Good h = (λ e. h, λ c. refl)
faces_good r mask t S faces Shape h = (λ e. cc, λ c. absurd (h c.0))
faces_good r mask t S faces (Range x y) h = absurd h
faces_good r mask t S faces (FaceAtEdge edge) h = (λ e. cc, λ c. absurd (h.1.breaks (c.1.fits edge h.1.edge)))
faces_good r mask t S faces (CostDiffers cost bound) h = (λ e. cc, λ c. absurd (h.4 (h.3 ∙ c.1.equal ∙ sym h.2)))

pub faces_least : (r : Raster) (mask : Field Bool) (t : ℕ) (S : Field ℤ) (faces : List ℤ) (verdict : TileVerdict) → IsFacesVerdict r mask t S faces verdict → verdict ≡ Good → IsLeastInTile r mask t S
faces_least r mask t S faces verdict h e = certified_tiles_are_least r mask t S _ ((faces_good r mask t S faces verdict h).0 e).1

-- all that a check of faces says of its verdict
pub faces_say : (r : Raster) (mask : Field Bool) (t : ℕ) (S : Field ℤ) (faces : List ℤ) (v : TileVerdict) → IsFacesVerdict r mask t S faces v → record { verdict : IsFacesVerdict r mask t S faces v; good : (v ≡ Good) ↔ IsCertifiedTile r mask t S faces; least : v ≡ Good → IsLeastInTile r mask t S }
faces_say r mask t S faces v h = record { verdict = h; good = faces_good r mask t S faces v h; least = faces_least r mask t S faces v h }

-- and where the whole result is
pub tile_good : (s : Scene) (mask : Field Bool) (k : TileResult) (verdict : TileVerdict) → IsTileVerdict s mask k verdict → (verdict ≡ Good) ↔ IsGoodTile s mask k
tile_good s mask k Good h = (λ e. record { shape = h.0; in_range = h.1; certified = h.2 }, λ g. refl)
tile_good s mask k Shape h = (λ e. cc, λ g. absurd (h g.shape))
tile_good s mask k (Range x y) h = (λ e. cc, λ g. absurd (h.1.outside (g.in_range x y h.1.pixel)))
tile_good s mask k (FaceAtEdge edge) h = (λ e. cc, λ g. absurd (h.2.1.breaks (g.certified.1.fits edge h.2.1.edge)))
tile_good s mask k (CostDiffers cost bound) h = (λ e. cc, λ g. absurd (h.2.4 (h.2.3 ∙ g.certified.1.equal ∙ sym h.2.2)))

-- the verdict on its faces, where shape and range are right
from_faces : (s : Scene) (mask : Field Bool) (k : TileResult) (verdict : TileVerdict) → HasShape s k → AreInRange (window_in s k) mask k.cycles.items → IsVerdictOnFaces s mask k verdict → IsTileVerdict s mask k verdict
from_faces s mask k Good p q h = (p, q, h)
from_faces s mask k Shape p q h = absurd (h p.1)
from_faces s mask k (Range x y) p q h = absurd h
from_faces s mask k (FaceAtEdge edge) p q h = (p, q, h)
from_faces s mask k (CostDiffers cost bound) p q h = (p, q, h)

pub tile_from_faces : (s : Scene) (mask : Field Bool) (k : TileResult) (v : Window) (cycles faces : List ℤ) (verdict : TileVerdict) → v ≡ window_in s k → cycles ≡ k.cycles.items → faces ≡ k.faces.items
    → HasShape s k → AreInRange v mask cycles → IsFacesVerdict (raster_of s) mask k.tile (lifted (raster_of s) (listed_cycles v cycles)) faces verdict → IsTileVerdict s mask k verdict
tile_from_faces s mask k v cycles faces verdict w c f shape range h =
    from_faces s mask k verdict shape (rw (w, c) at range) (rw (w, c, f) at h)

pub tile_least : (s : Scene) (mask : Field Bool) (k : TileResult) (verdict : TileVerdict) → IsTileVerdict s mask k verdict → verdict ≡ Good → IsLeastInTile (raster_of s) mask k.tile (result_surface s k)
tile_least s mask k verdict h e = certified_tiles_are_least (raster_of s) mask k.tile (result_surface s k) _ ((tile_good s mask k verdict h).0 e).certified.1

-- all that a check of a result says of its verdict
pub tile_says : (s : Scene) (mask : Field Bool) (k : TileResult) (v : TileVerdict) → IsTileVerdict s mask k v → record { verdict : IsTileVerdict s mask k v; good : (v ≡ Good) ↔ IsGoodTile s mask k; least : v ≡ Good → IsLeastInTile (raster_of s) mask k.tile (result_surface s k) }
tile_says s mask k v h = record { verdict = h; good = tile_good s mask k v h; least = tile_least s mask k v h }

-- cells counted by the sides of a window
module _ (r : Raster) (t : ℕ) (v : Window) (is : IsTileWindow r t v) (n : ℕ) where
  pub counted : n ≡ (v.x1 - v.x0) * (v.y1 - v.y0) → n ≡ cell_count r t
  counted e = omega (arith, e, cell_count-is r t v is)

  pub not_counted : (n ≡ (v.x1 - v.x0) * (v.y1 - v.y0) → ⊥) → n ≡ cell_count r t → ⊥
  not_counted d e = d (omega (arith, e, cell_count-is r t v is))

pub sides_fit : (k : Tile) → Fits w64 (k.window.x1 - k.window.x0) × Fits w64 (k.window.y1 - k.window.y0) × Fits w64 ((k.window.x1 - k.window.x0) * (k.window.y1 - k.window.y0))
sides_fit k =
    let a : k.window.x1 - k.window.x0 ≤ 65535 = omega (arith, k.pixels.across, k.sheet.phase.now.wide) in
    let b : k.window.y1 - k.window.y0 ≤ 65535 = omega (arith, k.pixels.along, k.sheet.phase.now.high) in
    (record { fits = omega (arith, a) }, record { fits = omega (arith, b) }, record { fits = omega (arith, mul-le (k.window.x1 - k.window.x0) (k.window.y1 - k.window.y0) 65535 65535 a b) })

-- what the check of a result hands on: cycles for each pixel of its window, which lies in the raster, and knows its open pixels
pub cycles_held : (s : Scene) (k : TileResult) (v : Window) (cycles : List ℤ) → IsWindowOf s.tiling k.tile v → v ≡ window_in s k → cycles ≡ k.cycles.items → HasShape s k → record { across : (v.x0 ≤ v.x1) × (v.x1 < 4096); along : (v.y0 ≤ v.y1) × (v.y1 < 4096); count : length cycles ≡ pixels_in v }
cycles_held s k v cycles is w c shape = record {
  across = (is.across.0, omega (arith, is.across, s.tiling.wide));
  along = (is.along.0, omega (arith, is.along, s.tiling.high));
  count = ap length c ∙ shape.0 ∙ sym (ap pixels_in w);
}

pub ends_inside : (s : Scene) (t : ℕ) (v : Window) (w h : ℕ) → IsWindowOf s.tiling t v → (w ≡ s.phase.width) × (h ≡ s.phase.height) → (v.x1 < w) × (v.y1 < h)
ends_inside s t v w h is e = (omega (arith, is.across, s.same_width, e), omega (arith, is.along, s.same_height, e))

pub tile_known : (s : Scene) (t : ℕ) (v : Window) → IsWindowOf s.tiling t v → (x y : ℕ) → x < s.phase.width → y < s.phase.height → tile_at s.tiling x y ≡ t → IsTrue (nat_le v.x0 x && nat_le x v.x1 && nat_le v.y0 y && nat_le y v.y1)
tile_known s t v is x y l m e =
    let w = (is.pixels x y (omega (arith, l, s.same_width)) (omega (arith, m, s.same_height))).0 e in
    tests v.x0 x v.x1 v.y0 y v.y1 w.0 w.1 w.2 w.3
  where
    tests : (a x b c y d : ℕ) → a ≤ x → x ≤ b → c ≤ y → y ≤ d → IsTrue (nat_le a x && nat_le x b && nat_le c y && nat_le y d)
    tests a x b c y d p q r t = grind (arith, nat_tests)

-- the shape of a result as code tests it
equal : (a b : ℕ) → IsTrue (a == b) → a ≡ b
equal a b t = grind (arith, nat_tests)

test : (a b : ℕ) → a ≡ b → IsTrue (a == b)
test a b t = grind (arith, nat_tests)

module _ (s : Scene) (k : TileResult) (v : Window) (w : v ≡ window_in s k) (is : IsWindowOf s.tiling k.tile v) (n : ℕ) (a : n ≡ length k.cycles.items) where
  pub shape_tested : (m : ℕ) → n ≡ (v.x1 - v.x0 + 1) * (v.y1 - v.y0 + 1) → m ≡ length k.faces.items → (IsTrue (m == (v.x1 - v.x0) * (v.y1 - v.y0))) ↔ HasShape s k
  shape_tested m b e = (
    λ t. (sym a ∙ b ∙ ap pixels_in w, sym e ∙ counted (raster_of s) k.tile v (scene_window s k.tile v is) m (equal m ((v.x1 - v.x0) * (v.y1 - v.y0)) t)),
    λ h. test m ((v.x1 - v.x0) * (v.y1 - v.y0)) (e ∙ h.1 ∙ cell_count-is (raster_of s) k.tile v (scene_window s k.tile v is) ∙ turned (v.y1 - v.y0) (v.x1 - v.x0)),
  )
    where
      turned : (a b : ℕ) → a * b ≡ b * a
      turned a b = omega arith

  pub shape_missed : (n ≡ (v.x1 - v.x0 + 1) * (v.y1 - v.y0 + 1) → ⊥) → (IsTrue (n == (v.x1 - v.x0 + 1) * (v.y1 - v.y0 + 1))) ↔ HasShape s k
  shape_missed d = (λ t. absurd (d (equal n ((v.x1 - v.x0 + 1) * (v.y1 - v.y0 + 1)) t)), λ h. absurd (d (a ∙ h.0 ∙ sym (ap pixels_in w))))
