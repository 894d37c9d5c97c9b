-- What a check says of the seams of a surface: the first break of their certificate.
use Rattle.std.specs.Prelude.{◌≡◌, ◌≢◌, ℕ, ◌+◌, ◌*◌, ◌<◌, ◌≤◌, ℤ, pos, Bool, IsTrue, List, length, slice_index, unsigned_abs}
use Rattle.raster_model.specs.declared.edge.Edge.{Edge}
use Rattle.raster_model.specs.Sums.{Field}
use Rattle.raster_model.specs.Raster.{Raster, lifted, masked_weight, seam_cost}
use Rattle.raster_model.specs.Seams.{IsFirstOpen, AreRegions, region_of, IsAnchored, flow_bound, flow_in, flow_out}
use Rattle.raster_model.specs.Flows.{is_seam_edge, seam_count, flow_at, AreCertifiedSeams}
use Rattle.certificates.specs.declared.verdicts.SeamVerdict.{SeamVerdict}
use Rattle.certificates.specs.declared.verdicts.SeamVerdict.TheVariants.{Good, Shape, Range, Anchor, FlowAtEdge, Unbalanced, CostDiffers}
use Rattle.certificates.specs.EdgeOrder.{HoldsAtAll, IsFirstBreak}

-- the number that a list in row order has at a pixel
abbrev pub label_at : ℕ → List ℕ → Field ℕ
label_at width labels x y = slice_index labels (y * width + x)

-- the list has the region numbers of the open pixels, and there are so many regions
abbrev pub ListsRegions : Raster → Field Bool → List ℕ → ℕ → Type 0
ListsRegions raster mask labels count = (length labels ≡ raster.width * raster.height) × AreRegions raster mask (label_at raster.width labels) count

-- the cycles at the first open pixel are z, which is not 0
pub record IsOffAnchor (raster : Raster) (mask : Field Bool) (cycles : Field ℤ) (z : ℤ) : Type 0 where
  pub x : ℕ
  pub y : ℕ
  pub first : IsFirstOpen raster mask x y
  pub cycles_there : z ≡ cycles x y
  pub off : z ≢ pos 0

-- a seam edge; its flow is no greater than the steepness times its weight; this holds at all seam edges; the first at which it does not
abbrev pub IsSeamEdge : Raster → Edge → Type 0
IsSeamEdge raster edge = IsTrue (is_seam_edge raster edge)

abbrev pub FlowFits : Raster → Field Bool → (Edge → ℤ) → Edge → Type 0
FlowFits raster mask flow edge = unsigned_abs (flow edge) ≤ raster.steep * masked_weight raster mask edge

abbrev pub AllFlowsFit : Raster → Field Bool → (Edge → ℤ) → Type 0
AllFlowsFit raster mask flow = HoldsAtAll (IsSeamEdge raster) (FlowFits raster mask flow)

abbrev pub IsFirstHeavy : Raster → Field Bool → (Edge → ℤ) → Edge → Type 0
IsFirstHeavy raster mask flow = IsFirstBreak (IsSeamEdge raster) (FlowFits raster mask flow)

-- as much flows into a region as out of it; this holds of all regions; v is the lowest-numbered region of which it does not
abbrev pub IsBalanced : Raster → (Edge → ℤ) → Field Bool → Type 0
IsBalanced raster flow region = flow_in raster flow region ≡ flow_out raster flow region

abbrev pub AreBalanced : Raster → Field Bool → Field ℕ → (Edge → ℤ) → ℕ → Type 0
AreBalanced raster mask labels flow count = (v : ℕ) → v < count → IsBalanced raster flow (region_of mask labels v)

pub record IsLeastUnbalanced (raster : Raster) (mask : Field Bool) (labels : Field ℕ) (flow : Edge → ℤ) (count v : ℕ) : Type 0 where
  pub exists : v < count
  pub unbalanced : IsBalanced raster flow (region_of mask labels v) → ⊥
  pub least : AreBalanced raster mask labels flow v

-- the verdict on a list of flows, for a surface of whole cycles above the phase
abbrev pub IsGoodAtSeams : Raster → Field Bool → Field ℤ → List ℤ → Type 0
IsGoodAtSeams raster mask cycles flows = IsAnchored raster mask (lifted raster cycles) × AreCertifiedSeams raster mask (lifted raster cycles) flows

abbrev pub IsSeamVerdict : Raster → Field Bool → Field ℕ → ℕ → Field ℤ → List ℤ → SeamVerdict → Type 0
IsSeamVerdict raster mask labels count cycles flows Good = IsGoodAtSeams raster mask cycles flows
IsSeamVerdict raster mask labels count cycles flows Shape = length flows ≢ seam_count raster
IsSeamVerdict raster mask labels count cycles flows (Range v) = ⊥
IsSeamVerdict raster mask labels count cycles flows (Anchor z) = (length flows ≡ seam_count raster) × IsOffAnchor raster mask cycles z
IsSeamVerdict raster mask labels count cycles flows (FlowAtEdge e) = (length flows ≡ seam_count raster) × IsAnchored raster mask (lifted raster cycles) × IsFirstHeavy raster mask (flow_at raster flows) e
IsSeamVerdict raster mask labels count cycles flows (Unbalanced v) = (length flows ≡ seam_count raster) × IsAnchored raster mask (lifted raster cycles) × AllFlowsFit raster mask (flow_at raster flows) × IsLeastUnbalanced raster mask labels (flow_at raster flows) count v
IsSeamVerdict raster mask labels count cycles flows (CostDiffers cost bound) = (length flows ≡ seam_count raster) × IsAnchored raster mask (lifted raster cycles) × AllFlowsFit raster mask (flow_at raster flows) × AreBalanced raster mask labels (flow_at raster flows) count × (pos cost ≡ seam_cost raster mask (lifted raster cycles)) × (bound ≡ flow_bound raster mask (lifted raster cycles) (flow_at raster flows)) × (bound ≢ pos cost)

-- no input has two verdicts, if the labels are the numbers of the regions
abbrev pub SeamsHaveOneVerdict : Type 0
SeamsHaveOneVerdict = (raster : Raster) (mask : Field Bool) (labels : Field ℕ) (count : ℕ) (cycles : Field ℤ) (flows : List ℤ) (a b : SeamVerdict) → AreRegions raster mask labels count → IsSeamVerdict raster mask labels count cycles flows a → IsSeamVerdict raster mask labels count cycles flows b → a ≡ b
