-- Pixels, edges, surfaces and costs: what a raster is to the theory.
-- A surface, a mask, a phase and tile numbers are functions of x and y; an edge is named by its first pixel and its direction.
use Rattle.std.specs.Prelude.{◌≡◌, ℕ, zero, suc, ◌+◌, ◌-◌, ◌*◌, ◌<◌, ℤ, pos, ◌+ℤ◌, ◌-ℤ◌, ◌*ℤ◌, Bool, ◌&&◌, ◌==◌, not, IsTrue, if◌then◌else◌, unsigned_abs, int_div}
use Rattle.raster_model.specs.declared.edge.Edge.{Edge}
use Rattle.raster_model.specs.Sums.{Field, at_edge_start, at_edge_end, edges_from, sum_edges, right_edge, down_edge}
use Rattle.raster_model.specs.Phase.{wrapped_by, turns_by}
use Rattle.sums_and_lists.specs.Sums.{where_true}

-- what the definitions read of a scene; the slope is what the phase is expected to rise along a down edge, or along a right one, the weight of an edge is that before any mask, and the steepness says how costs rise
pub record Raster : Type 0 where
  pub width : ℕ
  pub height : ℕ
  pub phase : Field ℕ
  pub slope : Bool → ℤ
  pub weight : Edge → ℕ
  pub tile : Field ℕ
  pub tile_count : ℕ
  pub steep : ℕ

-- the wrapped difference of an edge around its slope, from its first end to the other
abbrev pub gradient : Raster → Edge → ℤ
gradient raster edge = wrapped_by (raster.slope edge.down) (at_edge_start raster.phase edge) (at_edge_end raster.phase edge)

-- the whole cycles that it leaves out of the difference of the phases
abbrev pub turns_of : Raster → Edge → ℤ
turns_of raster edge = turns_by (raster.slope edge.down) (at_edge_start raster.phase edge) (at_edge_end raster.phase edge)

-- the sum of the wrapped differences round the cell whose upper left corner is (x, y): along its top and its right side, and back along its bottom and its left side
abbrev pub round_cell : Raster → Field ℤ
round_cell raster x y = gradient raster (right_edge x y) +ℤ gradient raster (down_edge (x + 1) y) -ℤ gradient raster (right_edge x (y + 1)) -ℤ gradient raster (down_edge x y)

-- the residue of that cell: the whole cycles of that sum (Goldstein, Zebker and Werner 1988)
abbrev pub residue : Raster → Field ℤ
residue raster x y = int_div (round_cell raster x y) (pos 65536)

-- a surface is congruent where it differs from the phase by whole cycles at each open pixel
abbrev pub IsCongruent : Raster → Field Bool → Field ℤ → Type 0
IsCongruent raster mask S = (x y : ℕ) → x < raster.width → y < raster.height → IsTrue (mask x y) → (cycles : ℤ) × (S x y ≡ pos (raster.phase x y) +ℤ pos 65536 *ℤ cycles)

-- whole cycles by which a congruent surface departs from the wrapped difference of an edge with open ends
abbrev pub departure : Raster → Field ℤ → Edge → ℤ
departure raster S edge = int_div (at_edge_end S edge -ℤ at_edge_start S edge -ℤ gradient raster edge) (pos 65536)

-- the surface that lies so many whole cycles above the phase, and its departures by the cycles alone
abbrev pub lifted : Raster → Field ℤ → Field ℤ
lifted raster cycles x y = pos (raster.phase x y) +ℤ pos 65536 *ℤ cycles x y

abbrev pub cycle_departure : Raster → Field ℤ → Edge → ℤ
cycle_departure raster cycles edge = at_edge_end cycles edge -ℤ at_edge_start cycles edge +ℤ turns_of raster edge

abbrev pub has_open_ends : Field Bool → Edge → Bool
has_open_ends mask edge = at_edge_start mask edge && at_edge_end mask edge

-- the weight under a mask: 0 where an end is masked
abbrev pub masked_weight : Raster → Field Bool → Edge → ℕ
masked_weight raster mask edge = if has_open_ends mask edge then raster.weight edge else 0

-- both ends lie in tile t; the ends lie in two tiles
abbrev pub is_inner : Raster → ℕ → Edge → Bool
is_inner raster t edge = (at_edge_start raster.tile edge == t) && (at_edge_end raster.tile edge == t)

abbrev pub is_seam : Raster → Edge → Bool
is_seam raster edge = not (at_edge_start raster.tile edge == at_edge_end raster.tile edge)

-- what so many cycles count for at a steepness q: none counts for nothing, the first for 1 and each further one for q
abbrev pub steps_of : ℕ → ℕ → ℕ
steps_of q zero = 0
steps_of q (suc further) = 1 + q * further

abbrev pub steps : ℕ → ℤ → ℕ
steps q k = steps_of q (unsigned_abs k)

-- by how much the size of a number is above a weight, where it is above
abbrev pub over : ℕ → ℤ → ℕ
over weight d = unsigned_abs d - weight

-- what an edge with open ends adds to a cost: its weight times the steps of its departure (at steepness 1 its absolute departure: Costantini 1998)
abbrev pub edge_cost : Raster → Field Bool → Field ℤ → Edge → ℤ
edge_cost raster mask S edge = where_true (has_open_ends mask edge) (pos (masked_weight raster mask edge * steps raster.steep (departure raster S edge)))

-- what an edge adds to the cost of a tile, and to that of the seams
abbrev pub inner_cost : Raster → Field Bool → ℕ → Field ℤ → Edge → ℤ
inner_cost raster mask t S edge = where_true (is_inner raster t edge) (edge_cost raster mask S edge)

abbrev pub seam_edge_cost : Raster → Field Bool → Field ℤ → Edge → ℤ
seam_edge_cost raster mask S edge = where_true (is_seam raster edge) (edge_cost raster mask S edge)

-- what the edges that start at a pixel add to the cost of a tile, and to that of the seams
unfoldable pub cost_from : Raster → Field Bool → ℕ → Field ℤ → Field ℤ
cost_from raster mask t S = edges_from raster.width raster.height (inner_cost raster mask t S)

unfoldable pub seam_cost_from : Raster → Field Bool → Field ℤ → Field ℤ
seam_cost_from raster mask S = edges_from raster.width raster.height (seam_edge_cost raster mask S)

-- the cost of a tile: the sum over its inner edges with open ends
unfoldable pub tile_cost : Raster → Field Bool → ℕ → Field ℤ → ℤ
tile_cost raster mask t S = sum_edges raster.width raster.height (inner_cost raster mask t S)

-- the cost of the seams: the sum over the edges from tile to tile with open ends
unfoldable pub seam_cost : Raster → Field Bool → Field ℤ → ℤ
seam_cost raster mask S = sum_edges raster.width raster.height (seam_edge_cost raster mask S)
