-- Words of the plain functions' helpers: no clause of another module cites them.
use Rattle.std.specs.Prelude.{◌≡◌, ℕ, ◌-◌, ◌/◌, ◌%◌, ◌<◌, ℤ, Bool, IsTrue, List, length, slice_index}
use Rattle.raster_model.specs.declared.edge.Edge.{Edge}
use Rattle.raster_model.specs.declared.plain.Part.{Part}
use Rattle.raster_model.specs.declared.plain.Part.TheVariants.{Tile, Seams}
use Rattle.raster_model.specs.declared.plane.Plane.{Plane}
use Rattle.raster_model.specs.declared.weights.RuleKind.{RuleKind}
use Rattle.raster_model.specs.Weights.{edge_weight}
use Rattle.raster_model.specs.Sums.{Field, is_edge, right_edge, down_edge, edges_from, sum_edges}
use Rattle.raster_model.specs.Raster.{Raster, is_inner, is_seam, edge_cost}
use Rattle.raster_model.specs.Heights.{KnowsEnds}
use Rattle.sums_and_lists.specs.Sums.{where_true}

-- the edges whose costs are summed: the inner edges of a tile, or the seam edges
abbrev pub in_part : Raster → Part → Edge → Bool
in_part raster (Tile t) edge = is_inner raster t edge
in_part raster Seams edge = is_seam raster edge

-- what an edge adds, what the edges that start at a pixel add, and all
unfoldable pub part_edge_cost : Raster → Field Bool → Part → Field ℤ → Edge → ℤ
part_edge_cost raster mask part S edge = where_true (in_part raster part edge) (edge_cost raster mask S edge)

unfoldable pub part_cost_from : Raster → Field Bool → Part → Field ℤ → Field ℤ
part_cost_from raster mask part S = edges_from raster.width raster.height (part_edge_cost raster mask part S)

unfoldable pub part_cost : Raster → Field Bool → Part → Field ℤ → ℤ
part_cost raster mask part S = sum_edges raster.width raster.height (part_edge_cost raster mask part S)

-- the open ends of those edges are known
abbrev pub KnowsPart : Raster → Field Bool → Part → Field Bool → Type 0
KnowsPart raster mask part knows = (edge : Edge) → IsTrue (is_edge raster.width raster.height edge) → IsTrue (in_part raster part edge) → KnowsEnds mask knows edge

-- the first n numbers of a list are the weights of right edges, or of down edges, in row order
abbrev pub AreRightWeights : RuleKind → Plane → ℕ → List ℕ → Type 0
AreRightWeights rule plane n xs = (length xs ≡ n) × ((k : ℕ) → k < n → slice_index xs k ≡ edge_weight rule plane (right_edge (k % (plane.width - 1)) (k / (plane.width - 1))))

abbrev pub AreDownWeights : RuleKind → Plane → ℕ → List ℕ → Type 0
AreDownWeights rule plane n xs = (length xs ≡ n) × ((k : ℕ) → k < n → slice_index xs k ≡ edge_weight rule plane (down_edge (k % plane.width) (k / plane.width)))
