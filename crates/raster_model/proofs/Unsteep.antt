-- At the steepness 1 each cycle costs the same: a cost is weight times absolute departure, and the bounds are the sums of products alone.
use Rattle.std.proofs.Common.{◌≡◌, ℕ, zero, suc, ◌*◌, ◌≤◌, ◌∙◌, ap, refl, sym, arith, Bool, true, false}
use Rattle.std.specs.Prelude.{ℤ, pos, ◌-ℤ◌, unsigned_abs}
use Rattle.std.proofs.lemmas.Int.{ints}
use Rattle.std.proofs.lemmas.Bool.{and_from}
use Rattle.raster_model.specs.declared.edge.Edge.{Edge}
use Rattle.raster_model.specs.Sums.{Field, is_edge}
use Rattle.raster_model.specs.Raster.{Raster, departure, has_open_ends, masked_weight, is_inner, is_seam, steps_of, steps, over}
use Rattle.raster_model.specs.Certificates.{FacesFit, IsTileEdge, face_difference, faces_of_tile, face_total, face_over, face_over_total}
use Rattle.raster_model.specs.Seams.{flow_total, flow_over, flow_over_total}
use Rattle.raster_model.specs.Unsteep.{FacesFitWeights, FlowsFitWeights, UnsteepCertificatesFit, UnsteepCostIsTheDeparture, UnsteepFacesCertify, UnsteepFlowsCertify, UnsteepSeamCertificatesFit}
use Rattle.raster_model.proofs.SumLemmas.{sum_edges-same, sum_edges-zeros}
use Rattle.sums_and_lists.specs.Sums.{where_true}

pub unsteep_steps : (q : ℕ) (k : ℤ) → q ≡ 1 → steps q k ≡ unsigned_abs k
unsteep_steps q k e = rw e (each (unsigned_abs k))
  where
    each : (n : ℕ) → steps_of 1 n ≡ n
    each zero = refl
    each (suc n) = omega arith

-- nothing is above where the size is no greater than the weight
nothing_over : (t : Bool) (g : ℕ) (d : ℤ) → (t ≡ true → unsigned_abs d ≤ g) → where_true t (pos (over g d)) ≡ pos 0
nothing_over true g d h = let e : over g d ≡ 0 = omega (arith, h refl) in rw e refl
nothing_over false g d h = refl

at_plain : (q g n : ℕ) → q ≡ 1 → n ≤ g → n ≤ q * g
at_plain q g n e l = rw e (omega (arith, l))

from_plain : (q g n : ℕ) → q ≡ 1 → n ≤ q * g → n ≤ g
from_plain q g n e l = let m = rw e at l in omega (arith, m)

less_nothing : (a b : ℤ) → b ≡ pos 0 → a -ℤ b ≡ a
less_nothing a b e = omega (arith, ints, e)

pub unsteep_cost : UnsteepCostIsTheDeparture
unsteep_cost r mask S e plain = ap (λ (n : ℕ). where_true (has_open_ends mask e) (pos (masked_weight r mask e * n))) (unsteep_steps r.steep (departure r S e) plain)

-- faces and flows that are above no weight have nothing taken off their sums
pub no_face_over : (r : Raster) (mask : Field Bool) (t : ℕ) (f : Field ℤ) → FacesFitWeights r mask t f → face_over_total r mask t f ≡ pos 0
unfolding face_over_total
no_face_over r mask t f fits =
    sum_edges-same r.width r.height (face_over r mask t f) (λ e. pos 0) (λ e i. nothing_over (is_inner r t e) (masked_weight r mask e) (face_difference (faces_of_tile r t f) e) (λ n. fits e (and_from (is_edge r.width r.height e) (is_inner r t e) i n)))
    ∙ sum_edges-zeros r.width r.height

pub no_flow_over : (r : Raster) (mask : Field Bool) (F : Edge → ℤ) → FlowsFitWeights r mask F → flow_over_total r mask F ≡ pos 0
unfolding flow_over_total
no_flow_over r mask F small =
    sum_edges-same r.width r.height (flow_over r mask F) (λ e. pos 0) (λ e i. nothing_over (is_seam r e) (masked_weight r mask e) (F e) (small e i))
    ∙ sum_edges-zeros r.width r.height

pub unsteep_faces : UnsteepFacesCertify
unsteep_faces r mask t f S plain fits equal = record { fits = λ e i. at_plain r.steep (masked_weight r mask e) _ plain (fits e i); equal = less_nothing (face_total r t f) (face_over_total r mask t f) (no_face_over r mask t f fits) ∙ equal }

pub unsteep_flows : UnsteepFlowsCertify
unsteep_flows r mask F S plain small balanced equal = record {
  bounded = λ e i s. at_plain r.steep (masked_weight r mask e) _ plain (small e i s);
  balanced = balanced;
  equal = less_nothing (flow_total r mask S F) (flow_over_total r mask F) (no_flow_over r mask F small) ∙ equal;
}

-- and what is certified there is no greater than the weights
pub faces_fit_weights : (r : Raster) (mask : Field Bool) (t : ℕ) (f : Field ℤ) → r.steep ≡ 1 → ((e : Edge) → IsTileEdge r t e → FacesFit r mask t f e) → FacesFitWeights r mask t f
faces_fit_weights r mask t f plain fits e i = from_plain r.steep (masked_weight r mask e) _ plain (fits e i)

pub unsteep_certificate_fits : UnsteepCertificatesFit
unsteep_certificate_fits r mask t f S plain certificate =
    let fits : FacesFitWeights r mask t f = faces_fit_weights r mask t f plain certificate.fits in
    (fits, sym (less_nothing (face_total r t f) (face_over_total r mask t f) (no_face_over r mask t f fits)) ∙ certificate.equal)

pub unsteep_seam_certificate_fits : UnsteepSeamCertificatesFit
unsteep_seam_certificate_fits r mask F S plain certificate =
    let small : FlowsFitWeights r mask F = λ e i s. from_plain r.steep (masked_weight r mask e) _ plain (certificate.bounded e i s) in
    (small, certificate.balanced, sym (less_nothing (flow_total r mask S F) (flow_over_total r mask F) (no_flow_over r mask F small)) ∙ certificate.equal)
