-- Words of the helpers over seam edges. No clause of a public function cites them.
use Rattle.raster_model.specs.declared.limits.TheConstants.{MAX_CYCLE_COST}
use Rattle.std.specs.Prelude.{◌≡◌, ℕ, ◌+◌, ◌*◌, ◌<◌, ◌≤◌, ℤ, pos, ◌-ℤ◌, ◌*ℤ◌, Bool, ◌&&◌, List, length, slice_index_or, unsigned_abs}
use Rattle.raster_model.specs.declared.edge.Edge.{Edge}
use Rattle.raster_model.specs.Sums.{Field, at_edge_start, at_edge_end, is_edge, edges_from}
use Rattle.raster_model.specs.Raster.{Raster, lifted, departure, has_open_ends, is_seam}
use Rattle.raster_model.specs.Flows.{is_seam_edge, seams_before, seam_place, flow_at}
use Rattle.raster_model.specs.Heights.{KnowsOpen}
use Rattle.raster_model.specs.Masks.{open_at}
use Rattle.raster_model.specs.Seams.{IsOpenPixel, flow_bound, flow_in, flow_out, flow_over, region_of}
use Rattle.raster_model.specs.Scene.{raster_of}
use Rattle.certificates.specs.declared.seam_flows.SeamFlows.{SeamFlows}
use Rattle.certificates.specs.EdgeOrder.{HoldsAtAll}
use Rattle.certificates.specs.EdgeWords.{HoldsFrom}
use Rattle.certificates.specs.SeamVerdicts.{IsSeamEdge, FlowFits, label_at}
use Rattle.sums_and_lists.specs.Sums.{where_true}
use Rattle.raster_model.specs.Limits.{max_tiled_side}

abbrev pub held_raster : SeamFlows → Raster
held_raster flows = raster_of flows.scene.now

abbrev pub held_mask : SeamFlows → Field Bool
held_mask flows = open_at flows.mask.now

-- the flow that the list has at a seam edge, and 0 at any other edge
abbrev pub flow_of : SeamFlows → Edge → ℤ
flow_of flows = flow_at (held_raster flows) flows.flows.now

abbrev pub flow_or_none : SeamFlows → Edge → ℤ
flow_or_none flows edge = where_true (is_seam_edge (held_raster flows) edge) (flow_of flows edge)

-- a pixel of the raster, before whose edges so many seam edges come in edge order
abbrev pub StartsAt : SeamFlows → ℕ → ℕ → ℕ → Type 0
StartsAt flows x y before = (x < flows.scene.now.phase.width) × (y < flows.scene.now.phase.height) × (before ≡ seams_before (held_raster flows) x y) × (before ≤ 2 * (max_tiled_side * y + x))

-- an edge that starts at a pixel, and its place among the seam edges
abbrev pub PlacedAt : SeamFlows → Edge → ℕ → Type 0
PlacedAt flows edge place = (edge.x < flows.scene.now.phase.width) × (edge.y < flows.scene.now.phase.height) × (place ≡ seam_place (held_raster flows) edge)

-- a seam edge; its flow is no greater than the steepness times its weight; its flow is no greater than that may be at any edge; and both over the edges that start at a pixel, and over all
abbrev pub IsSeamOf : SeamFlows → Edge → Type 0
IsSeamOf flows = IsSeamEdge (held_raster flows)

abbrev pub FlowFitsAt : SeamFlows → Edge → Type 0
FlowFitsAt flows = FlowFits (held_raster flows) (held_mask flows) (flow_of flows)

abbrev pub IsSmallAt : SeamFlows → Edge → Type 0
IsSmallAt flows edge = unsigned_abs (flow_of flows edge) ≤ MAX_CYCLE_COST

abbrev pub FitFrom : SeamFlows → ℕ → ℕ → Type 0
FitFrom flows x y = HoldsFrom (IsSeamOf flows) (FlowFitsAt flows) x y × HoldsFrom (IsSeamOf flows) (IsSmallAt flows) x y

abbrev pub FlowsFit : SeamFlows → Type 0
FlowsFit flows = HoldsAtAll (IsSeamOf flows) (FlowFitsAt flows) × HoldsAtAll (IsSeamOf flows) (IsSmallAt flows)

-- each open pixel has a label below the count
abbrev pub HasLabels : SeamFlows → List ℕ → ℕ → Type 0
HasLabels flows labels count = (length labels ≡ flows.scene.now.phase.width * flows.scene.now.phase.height) × ((x y : ℕ) → IsOpenPixel (held_raster flows) (held_mask flows) x y → label_at flows.scene.now.phase.width labels x y < count)

abbrev pub region_in : SeamFlows → List ℕ → ℕ → Field Bool
region_in flows labels = region_of (held_mask flows) (label_at flows.scene.now.phase.width labels)

-- what the flow on a seam edge adds to a region's sum, if the edge ends there or starts there; and what the edges that start at a pixel add
unfoldable pub net_flow : Raster → (Edge → ℤ) → Field Bool → Edge → ℤ
net_flow raster F region edge = where_true (is_seam raster edge) (where_true (at_edge_end region edge) (F edge) -ℤ where_true (at_edge_start region edge) (F edge))

abbrev pub moved_on : SeamFlows → List ℕ → ℕ → Edge → ℤ
moved_on flows labels v edge = where_true (is_edge flows.scene.now.phase.width flows.scene.now.phase.height edge) (net_flow (held_raster flows) (flow_of flows) (region_in flows labels v) edge)

abbrev pub moved_from : SeamFlows → List ℕ → ℕ → Field ℤ
moved_from flows labels v = edges_from flows.scene.now.phase.width flows.scene.now.phase.height (net_flow (held_raster flows) (flow_of flows) (region_in flows labels v))

-- the sum of each region: what flows in minus what flows out
abbrev pub AreExcessesOf : Raster → Field Bool → Field ℕ → (Edge → ℤ) → List ℤ → Type 0
AreExcessesOf raster mask labels F sums = (v : ℕ) → v < length sums → slice_index_or sums v (pos 0) ≡ flow_in raster F (region_of mask labels v) -ℤ flow_out raster F (region_of mask labels v)

abbrev pub AreExcesses : SeamFlows → List ℕ → List ℤ → Type 0
AreExcesses flows labels = AreExcessesOf (held_raster flows) (held_mask flows) (label_at flows.scene.now.phase.width labels) (flow_of flows)

-- what a seam edge adds to the bound: flow times departure, where its ends are open, less that by which the flow is above the weight; for the edges that start at a pixel, and in all
unfoldable pub seam_part : Raster → Field Bool → Field ℤ → (Edge → ℤ) → Edge → ℤ
seam_part raster mask S F edge = where_true (is_seam raster edge && has_open_ends mask edge) (F edge *ℤ departure raster S edge) -ℤ flow_over raster mask F edge

abbrev pub part_on : SeamFlows → Field ℤ → Edge → ℤ
part_on flows cycles edge = where_true (is_edge flows.scene.now.phase.width flows.scene.now.phase.height edge) (seam_part (held_raster flows) (held_mask flows) (lifted (held_raster flows) cycles) (flow_of flows) edge)

abbrev pub parts_from : SeamFlows → Field ℤ → Field ℤ
parts_from flows cycles = edges_from flows.scene.now.phase.width flows.scene.now.phase.height (seam_part (held_raster flows) (held_mask flows) (lifted (held_raster flows) cycles) (flow_of flows))

abbrev pub bound_of : SeamFlows → Field ℤ → ℤ
bound_of flows cycles = flow_bound (held_raster flows) (held_mask flows) (lifted (held_raster flows) cycles) (flow_of flows)

abbrev pub KnowsSeams : SeamFlows → Field Bool → Type 0
KnowsSeams flows = KnowsOpen (held_raster flows) (held_mask flows)
