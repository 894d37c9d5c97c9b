-- What costs and certificates are at the steepness 1, where each cycle of a departure costs the same (Costantini 1998).
use Rattle.std.specs.Prelude.{◌≡◌, ℕ, ◌*◌, ◌≤◌, ℤ, pos, Bool, IsTrue, unsigned_abs}
use Rattle.raster_model.specs.declared.edge.Edge.{Edge}
use Rattle.raster_model.specs.Sums.{Field, is_edge}
use Rattle.raster_model.specs.Raster.{Raster, departure, edge_cost, has_open_ends, is_seam, masked_weight, seam_cost, tile_cost}
use Rattle.raster_model.specs.Certificates.{IsTileCertificate, IsTileEdge, face_difference, face_total, faces_of_tile}
use Rattle.raster_model.specs.Seams.{IsRegion, IsSeamCertificate, flow_in, flow_out, flow_total}
use Rattle.sums_and_lists.specs.Sums.{where_true}

-- an edge with open ends adds its weight times its absolute departure
abbrev pub UnsteepCostIsTheDeparture : Type 0
UnsteepCostIsTheDeparture = (raster : Raster) (mask : Field Bool) (S : Field ℤ) (edge : Edge) → raster.steep ≡ 1 → edge_cost raster mask S edge ≡ where_true (has_open_ends mask edge) (pos (masked_weight raster mask edge * unsigned_abs (departure raster S edge)))

-- the sides of an inner edge differ by no more than its weight, masked ends included
abbrev pub FacesFitWeights : Raster → Field Bool → ℕ → Field ℤ → Type 0
FacesFitWeights raster mask tile f = (edge : Edge) → IsTileEdge raster tile edge → unsigned_abs (face_difference (faces_of_tile raster tile f) edge) ≤ masked_weight raster mask edge

-- faces that differ by no more than the weights, and whose sum with the residues is the cost, certify a tile
abbrev pub UnsteepFacesCertify : Type 0
UnsteepFacesCertify = (raster : Raster) (mask : Field Bool) (tile : ℕ) (f S : Field ℤ) → raster.steep ≡ 1 → FacesFitWeights raster mask tile f → face_total raster tile f ≡ tile_cost raster mask tile S → IsTileCertificate raster mask tile S f

-- and no others certify one
abbrev pub UnsteepCertificatesFit : Type 0
UnsteepCertificatesFit = (raster : Raster) (mask : Field Bool) (tile : ℕ) (f S : Field ℤ) → raster.steep ≡ 1 → IsTileCertificate raster mask tile S f → FacesFitWeights raster mask tile f × (face_total raster tile f ≡ tile_cost raster mask tile S)

-- the flow on a seam edge is no greater than its weight, masked ends included
abbrev pub FlowsFitWeights : Raster → Field Bool → (Edge → ℤ) → Type 0
FlowsFitWeights raster mask F = (edge : Edge) → IsTrue (is_edge raster.width raster.height edge) → IsTrue (is_seam raster edge) → unsigned_abs (F edge) ≤ masked_weight raster mask edge

abbrev pub FlowsBalance : Raster → Field Bool → (Edge → ℤ) → Type 0
FlowsBalance raster mask F = (region : Field Bool) → IsRegion raster mask region → flow_in raster F region ≡ flow_out raster F region

-- balanced flows that are no greater than the weights, and whose sum with the departures is the cost, certify the seams
abbrev pub UnsteepFlowsCertify : Type 0
UnsteepFlowsCertify = (raster : Raster) (mask : Field Bool) (F : Edge → ℤ) (S : Field ℤ) → raster.steep ≡ 1 → FlowsFitWeights raster mask F → FlowsBalance raster mask F → flow_total raster mask S F ≡ seam_cost raster mask S → IsSeamCertificate raster mask S F

-- and no others certify them
abbrev pub UnsteepSeamCertificatesFit : Type 0
UnsteepSeamCertificatesFit = (raster : Raster) (mask : Field Bool) (F : Edge → ℤ) (S : Field ℤ) → raster.steep ≡ 1 → IsSeamCertificate raster mask S F → FlowsFitWeights raster mask F × FlowsBalance raster mask F × (flow_total raster mask S F ≡ seam_cost raster mask S)
