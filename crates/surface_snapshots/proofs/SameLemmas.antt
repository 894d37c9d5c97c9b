-- For callers: two masks that agree on the raster's pixels, and two surfaces that agree at open pixels. What is anchored and certified under one is so under the other, at the same costs.
use Rattle.std.proofs.Common.{◌≡◌, ◌∙◌, ℕ, ◌*◌, ◌<◌, ◌≤◌, refl, sym, ap, ap₂, subst, Bool, true, false, List}
use Rattle.std.specs.Prelude.{ℤ, pos, ◌*ℤ◌, ◌-ℤ◌, ◌&&◌, IsTrue, if◌then◌else◌, int_div, unsigned_abs}
use Rattle.std.proofs.lemmas.Bool.{and_parts}
use Rattle.raster_model.specs.declared.edge.Edge.{Edge}
use Rattle.raster_model.specs.Cells.{IsCertifiedTile}
use Rattle.raster_model.specs.Certificates.{face_bound}
use Rattle.raster_model.specs.Flows.{AreCertifiedSeams, flow_at}
use Rattle.raster_model.specs.Raster.{Raster, departure, edge_cost, gradient, has_open_ends, is_seam, masked_weight, over, seam_cost, seam_edge_cost, tile_cost}
use Rattle.raster_model.specs.Seams.{IsAnchored, flow_bound, flow_over, flow_over_total, flow_total}
use Rattle.raster_model.specs.Sums.{Field, end_x, end_y, is_edge}
use Rattle.raster_model.proofs.MaskAgrees.{edge_ends, open_back, open_too, region_back, same_ends}
use Rattle.raster_model.proofs.SumLemmas.{sum_edges-same}
use Rattle.certificates.proofs.CallerLemmas.{IsSameAt, certified_same, edge_cost-same, face_bound-same, tile_cost-same}
use Rattle.surface_snapshots.specs.Parts.{tile_costs}
use Rattle.sums_and_lists.proofs.SumLemmas.{sum_below-same}
use Rattle.sums_and_lists.proofs.Tests.{and_first}
use Rattle.sums_and_lists.specs.Sums.{where_true}

-- parts of two sums where a test holds
same_where : (i a b : Bool) (x y : ℤ) → a ≡ b → (IsTrue a → x ≡ y) → where_true (i && a) x ≡ where_true (i && b) y
same_where true true true x y e h = h refl
same_where true false false x y e h = refl
same_where true true false x y e h = cc
same_where true false true x y e h = cc
same_where false a b x y e h = refl

module _ (r : Raster) (m n : Field Bool) (same : (x y : ℕ) → x < r.width → y < r.height → m x y ≡ n x y)
    (S T : Field ℤ) (agree : (x y : ℕ) → x < r.width → y < r.height → IsTrue (m x y) → S x y ≡ T x y) where
  same_departure : (e : Edge) → IsTrue (is_edge r.width r.height e) → IsTrue (has_open_ends m e) → departure r S e ≡ departure r T e
  same_departure e i o =
      let t = edge_ends r.width r.height e i in
      let ends = and_parts (m e.x e.y) (m (end_x e) (end_y e)) o in
      ap₂ (λ (b a : ℤ). int_div (b -ℤ a -ℤ gradient r e) (pos 65536)) (agree (end_x e) (end_y e) t.2 t.3 ends.1) (agree e.x e.y t.0 t.1 ends.0)

  same_at : (e : Edge) → IsTrue (is_edge r.width r.height e) → IsSameAt r m n S T e
  same_at e i = record { ends = same_ends r m n same e i; departs = same_departure e i }

  same_edge_cost : (e : Edge) → IsTrue (is_edge r.width r.height e) → edge_cost r m S e ≡ edge_cost r n T e
  same_edge_cost e i = edge_cost-same r m n S T e (same_at e i)

  pub same_seam_cost : seam_cost r m S ≡ seam_cost r n T
  unfolding seam_cost
  same_seam_cost = sum_edges-same r.width r.height (seam_edge_cost r m S) (seam_edge_cost r n T) (λ e i. ap (where_true (is_seam r e)) (same_edge_cost e i))

  pub same_tile_cost : (t : ℕ) → tile_cost r m t S ≡ tile_cost r n t T
  same_tile_cost t = tile_cost-same r m n S T t (λ e i. same_at e (and_first (is_edge r.width r.height e) _ i))

  pub same_tile_costs : tile_costs r m S ≡ tile_costs r n T
  unfolding tile_costs
  same_tile_costs = sum_below-same r.tile_count (λ t. tile_cost r m t S) (λ t. tile_cost r n t T) (λ t l. same_tile_cost t)

  pub same_face_bound : (t : ℕ) (f : Field ℤ) → face_bound r m t f ≡ face_bound r n t f
  same_face_bound t f = face_bound-same r m n S T t (λ e i. same_at e (and_first (is_edge r.width r.height e) _ i)) f

  same_weight : (e : Edge) → IsTrue (is_edge r.width r.height e) → masked_weight r m e ≡ masked_weight r n e
  same_weight e i = ap (λ (b : Bool). if b then r.weight e else 0) (same_ends r m n same e i)

  same_flow_total : (F : Edge → ℤ) → flow_total r m S F ≡ flow_total r n T F
  unfolding flow_total
  same_flow_total F = sum_edges-same r.width r.height _ _ (λ e i. same_where (is_seam r e) (has_open_ends m e) (has_open_ends n e) _ _ (same_ends r m n same e i) (λ o. ap (λ (d : ℤ). F e *ℤ d) (same_departure e i o)))

  pub same_flow_bound : (F : Edge → ℤ) → flow_bound r m S F ≡ flow_bound r n T F
  unfolding flow_over_total
  same_flow_bound F =
      ap₂ (λ (a b : ℤ). a -ℤ b) (same_flow_total F)
      (sum_edges-same r.width r.height (flow_over r m F) (flow_over r n F) (λ e i. ap (λ (w : ℕ). where_true (is_seam r e) (pos (over w (F e)))) (same_weight e i)))

  pub anchored_too : IsAnchored r m S → IsAnchored r n T
  anchored_too anchored x y inside none =
      sym (agree x y inside.0 inside.1 (same x y inside.0 inside.1 ∙ inside.2))
      ∙ anchored x y (open_back r m n same x y inside) (λ a b h earlier. none a b (open_too r m n same a b h) earlier)

  pub tile_too : (t : ℕ) (faces : List ℤ) → IsCertifiedTile r m t S faces → IsCertifiedTile r n t T faces
  tile_too t faces c = certified_same r m n S T t (λ e i. same_at e (and_first (is_edge r.width r.height e) _ i)) faces c

  pub seams_too : (flows : List ℤ) → AreCertifiedSeams r m S flows → AreCertifiedSeams r n T flows
  seams_too flows c = (
    c.0,
    record {
      bounded = λ e i s. subst (λ (w : ℕ). unsigned_abs (flow_at r flows e) ≤ r.steep * w) (same_weight e i) (c.1.bounded e i s);
      balanced = λ region is. c.1.balanced region (region_back r m n same region is);
      equal = sym (same_flow_bound (flow_at r flows)) ∙ c.1.equal ∙ same_seam_cost;
    },
  )
