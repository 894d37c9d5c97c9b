-- From an answer of a tile's grid to a good result.
use Rattle.std.proofs.Common.{◌≡◌, ℕ, ◌+◌, ◌-◌, ◌<◌, ◌≤◌, subst, arith, Bool, List, length}
use Rattle.std.specs.Prelude.{ℤ}
use Rattle.std.proofs.lemmas.Nat.{mul-le}
use Rattle.raster_model.specs.declared.scene.Scene.{Scene}
use Rattle.raster_model.specs.declared.tiling.Tiling.{Tiling}
use Rattle.raster_model.specs.declared.tiling.Window.{Window}
use Rattle.raster_model.specs.Sums.{Field}
use Rattle.raster_model.specs.Scene.{raster_of}
use Rattle.raster_model.specs.Tiles.{IsWindowOf, IsWithin, window_of, width_of, height_of}
use Rattle.raster_model.proofs.TileLemmas.{scene_window}
use Rattle.certificates.specs.declared.results.TileResult.{TileResult}
use Rattle.certificates.specs.Results.{IsGoodTile, IsInRange, pixels_in}
use Rattle.wrapped_gradient.specs.declared.corrections.Corrections.{Corrections}
use Rattle.wrapped_gradient.specs.Corrections.{greatest_of}
use Rattle.surface_integration.specs.Cycles.{AreSmall, DepartBy, StaySmall, cycles_at}
use Rattle.network_solver.proofs.SurfaceLemmas.{certified_surface}
use Rattle.dual_grid.specs.Nodes.{cells_of}
use Rattle.dual_grid.specs.Answers.{AreCertifiedCorrections}

-- no side of the window is above 128 pixels
abbrev pub IsNarrow : Window → Type 0
IsNarrow v = (v.x1 < v.x0 + 128) × (v.y1 < v.y0 + 128)

-- so it is with the window of a tile
pub small_side : (g : Tiling) (w v : Window) → w ≡ v → (w.x1 < w.x0 + g.side) × (w.y1 < w.y0 + g.side) → IsNarrow v
small_side g w v e small =
    let side : g.side ≤ 128 = g.sides.1 in
    subst (λ (u : Window). IsNarrow u) e (omega (arith, small.0, side), omega (arith, small.1, side))

-- then it has few cells
few_cells : (v : Window) → IsNarrow v → cells_of v ≤ 16129
few_cells v n = mul-le (v.y1 - v.y0) (v.x1 - v.x0) 127 127 (omega (arith, n.1)) (omega (arith, n.0))

-- corrections up to one more than these are small enough to be added up
pub corrections_small : (v : Window) (k : Corrections) → IsNarrow v → greatest_of k ≤ cells_of v + 1 → AreSmall v k
corrections_small v k n g =
    let m = mul-le (width_of v + height_of v) (greatest_of k + 1) 256 16131 (omega (arith, n.0, n.1)) (omega (arith, g, few_cells v n)) in
    omega (arith, m)

-- cycles that stay small are in range
in_range : (v : Window) (cycles : List ℤ) (b : ℕ) → IsNarrow v → b ≤ cells_of v + 1 → StaySmall v (cycles_at v cycles) b → (x y : ℕ) → IsWithin v x y → IsInRange v cycles x y
in_range v cycles b n l small x y w =
    let m = small x y w in
    let p = mul-le (x - v.x0 + (y - v.y0)) (b + 1) 254 16131 (omega (arith, n.0, n.1, w.1, w.3)) (omega (arith, l, few_cells v n)) in
    omega (arith, m, p)

-- cycles that depart by the corrections of an answer, and the faces that certify these, over the tile's window
pub record IsSolved (s : Scene) (k : TileResult) (mask : Field Bool) (corrections : Corrections) (v : Window) : Type 0 where
  pub pixels : IsWindowOf s.tiling k.tile v
  pub narrow : IsNarrow v
  pub count : length k.cycles.items ≡ pixels_in v
  pub answer : AreCertifiedCorrections (raster_of s) mask k.tile v corrections k.faces.items
  pub departs : DepartBy (raster_of s) v (cycles_at v k.cycles.items) corrections
  pub small : StaySmall v (cycles_at v k.cycles.items) (greatest_of corrections)

-- they are a good result
pub good_result : (s : Scene) (k : TileResult) (mask : Field Bool) (corrections : Corrections) (v : Window) → v ≡ window_of s.tiling k.tile → IsSolved s k mask corrections v → IsGoodTile s mask k
good_result s k mask corrections v e solved =
    let w = window_of s.tiling k.tile in
    let p = subst (λ (u : Window). IsSolved s k mask corrections u) e solved in
    record {
      shape = (p.count, p.answer.count);
      in_range = λ x y i. in_range w k.cycles.items (greatest_of corrections) p.narrow p.answer.small p.small x y i.0;
      certified = certified_surface (raster_of s) k.tile w (scene_window s k.tile w p.pixels) mask corrections (cycles_at w k.cycles.items) p.departs k.faces.items p.answer;
    }
