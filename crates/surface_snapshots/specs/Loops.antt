-- Words of helpers and of ghost fields: no clause of a public function cites them.
use Rattle.raster_model.specs.declared.limits.TheConstants.{MAX_CYCLE_COST, MAX_DEPARTURE, MAX_TILED_SIDE}
use Rattle.std.specs.Prelude.{◌≡◌, ℕ, ◌+◌, ◌-◌, ◌*◌, ◌<◌, ◌≤◌, ◌^◌, ℤ, ◌+ℤ◌, pos, Bool, not, IsTrue, List}
use Rattle.raster_model.specs.declared.edge.Edge.{Edge}
use Rattle.raster_model.specs.declared.scene.Scene.{Scene}
use Rattle.raster_model.specs.MaskView.{MaskView}
use Rattle.raster_model.specs.Masks.{open_at}
use Rattle.certificates.specs.declared.results.TileResult.{TileResult}
use Rattle.seam_regions.specs.Regions.{region_label}
use Rattle.seam_regions.specs.RegionsView.{RegionsView}
use Rattle.surface_snapshots.specs.declared.counting.Costs.{Costs}
use Rattle.surface_snapshots.specs.Parts.{AreGoodTiles}
use Rattle.raster_model.specs.Raster.{Raster, departure, edge_cost, is_seam, seam_cost_from}
use Rattle.raster_model.specs.Sums.{Field, down_edge, edges_from, right_edge, sum_grid, sum_row}
use Rattle.sums_and_lists.specs.Sums.{where_true}

-- what an edge adds to the costs of all tiles, and what the edges that start at a pixel add
unfoldable pub inner_edge_cost : Raster → Field Bool → Field ℤ → Edge → ℤ
inner_edge_cost raster mask S edge = where_true (not (is_seam raster edge)) (edge_cost raster mask S edge)

unfoldable pub inner_cost_from : Raster → Field Bool → Field ℤ → Field ℤ
inner_cost_from raster mask S = edges_from raster.width raster.height (inner_edge_cost raster mask S)

-- neither cost is more than n edges can add
abbrev pub AreOfEdges : ℕ → Costs → Type 0
AreOfEdges n costs = (costs.tiles ≤ MAX_CYCLE_COST * MAX_DEPARTURE * n) × (costs.seams ≤ MAX_CYCLE_COST * MAX_DEPARTURE * n)

-- the costs are what the edges that start in the rows from a to before b add
abbrev pub AreOfRows : Raster → Field Bool → Field ℤ → ℕ → ℕ → Costs → Type 0
AreOfRows r mask S a b costs =
    (sum_grid r.width b (inner_cost_from r mask S) ≡ sum_grid r.width a (inner_cost_from r mask S) +ℤ pos costs.tiles)
    × (sum_grid r.width b (seam_cost_from r mask S) ≡ sum_grid r.width a (seam_cost_from r mask S) +ℤ pos costs.seams)
    × AreOfEdges (2 * MAX_TILED_SIDE * (b - a)) costs

-- the pixels of row y and of the next one from column x to column z are open, as far as the raster goes
abbrev pub AreOpenFrom : MaskView → ℕ → ℕ → ℕ → Type 0
AreOpenFrom view y x z = (a b : ℕ) → a < view.width → b < view.height → x ≤ a → a ≤ z → y ≤ b → b ≤ y + 1 → IsTrue (open_at view a b)

-- those pixels of a raster are known
abbrev pub KnowsFrom : Raster → Field Bool → ℕ → ℕ → ℕ → Type 0
KnowsFrom raster knows y x z = (a b : ℕ) → a < raster.width → b < raster.height → x ≤ a → a ≤ z → y ≤ b → b ≤ y + 1 → IsTrue (knows a b)

-- the open pixels of a raster in the rows from y to z are known
abbrev pub KnowsOpenRows : Raster → Field Bool → Field Bool → ℕ → ℕ → Type 0
KnowsOpenRows raster mask knows y z = (a b : ℕ) → a < raster.width → b < raster.height → y ≤ b → b ≤ z → IsTrue (mask a b) → IsTrue (knows a b)

-- the surface departs at no right edge that starts in row y from column a to before column b; nor at a down edge
abbrev pub FollowsRight : Raster → Field ℤ → ℕ → ℕ → ℕ → Type 0
FollowsRight raster S y a b = (x : ℕ) → a ≤ x → x < b → x + 1 < raster.width → departure raster S (right_edge x y) ≡ pos 0

abbrev pub FollowsDown : Raster → Field ℤ → ℕ → ℕ → ℕ → Type 0
FollowsDown raster S y a b = (x : ℕ) → a ≤ x → x < b → departure raster S (down_edge x y) ≡ pos 0

-- the numbers of row y from column a to before column b add up to z
abbrev pub AddUpTo : Field ℤ → ℕ → ℕ → ℕ → ℤ → Type 0
AddUpTo f y a b z = sum_row b f y ≡ sum_row a f y +ℤ z

-- what a surface is put together from has one size: the scene, the mask, the results and the labels; each tile has a good result, and each open pixel, and no masked one, a region
pub record GoTogether (scene : Scene) (view : MaskView) (regions : RegionsView) (results : List TileResult) : Type 0 where
  pub across : view.width ≡ scene.phase.width
  pub along : view.height ≡ scene.phase.height
  pub tiles : AreGoodTiles scene (open_at view) results
  pub wide : regions.width ≡ scene.phase.width
  pub high : regions.height ≡ scene.phase.height
  pub below : (x y : ℕ) → x < scene.phase.width → y < scene.phase.height → IsTrue (open_at view x y) → region_label regions x y < regions.count
  pub told : (x y : ℕ) → x < scene.phase.width → y < scene.phase.height → region_label regions x y < regions.count → IsTrue (open_at view x y)
