-- Two masks that agree on the raster's pixels, and surfaces that agree there: verdicts on the one are verdicts on the other.
use Rattle.std.proofs.Common.{◌≡◌, ◌∙◌, ℕ, ◌*◌, ◌<◌, ◌≤◌, sym, ap, subst, arith, Bool, List}
use Rattle.std.specs.Prelude.{ℤ, pos, ◌+ℤ◌, ◌*ℤ◌, IsTrue, ◌&&◌, ◌==◌, if◌then◌else◌, unsigned_abs}
use Rattle.std.proofs.lemmas.Bool.{and_parts}
use Rattle.raster_model.specs.declared.edge.Edge.{Edge}
use Rattle.raster_model.specs.Cells.{face_at}
use Rattle.raster_model.specs.Certificates.{FacesFit, IsTileEdge, face_difference, faces_of_tile}
use Rattle.raster_model.specs.Flows.{flow_at}
use Rattle.raster_model.specs.Raster.{Raster, has_open_ends, is_inner, is_seam, lifted}
use Rattle.raster_model.specs.Seams.{IsAnchored, region_of}
use Rattle.raster_model.specs.Sums.{Field, is_edge}
use Rattle.raster_model.proofs.MaskAgrees.{balanced-same, first_open_too, same_ends}
use Rattle.certificates.specs.declared.verdicts.SeamVerdict.{SeamVerdict}
use Rattle.certificates.specs.declared.verdicts.SeamVerdict.TheVariants as seam_verdicts
use Rattle.certificates.specs.declared.verdicts.TileVerdict.{TileVerdict}
use Rattle.certificates.specs.declared.verdicts.TileVerdict.TheVariants as tile_verdicts
use Rattle.certificates.specs.SeamVerdicts.{FlowFits, IsBalanced, IsSeamEdge, IsSeamVerdict}
use Rattle.certificates.specs.Verdicts.{IsFacesVerdict}
use Rattle.surface_snapshots.proofs.SameLemmas.{anchored_too, same_face_bound, same_flow_bound, same_seam_cost, same_tile_cost, seams_too, tile_too}

module _ (r : Raster) where
  fits_too : (m n : Field Bool) (t : ℕ) (faces : List ℤ) (e : Edge) → has_open_ends m e ≡ has_open_ends n e → FacesFit r m t (face_at r t faces) e → FacesFit r n t (face_at r t faces) e
  fits_too m n t faces e same h = subst (λ (b : Bool). unsigned_abs (face_difference (faces_of_tile r t (face_at r t faces)) e) ≤ r.steep * (if b then r.weight e else 0)) same h

  flow_too : (m n : Field Bool) (F : Edge → ℤ) (e : Edge) → has_open_ends m e ≡ has_open_ends n e → FlowFits r m F e → FlowFits r n F e
  flow_too m n F e same h = subst (λ (b : Bool). unsigned_abs (F e) ≤ r.steep * (if b then r.weight e else 0)) same h

module _ (r : Raster) (m n : Field Bool) (same : (x y : ℕ) → x < r.width → y < r.height → m x y ≡ n x y) where
  -- ---- faces
  module _ (t : ℕ) (S T : Field ℤ) (agree : (x y : ℕ) → x < r.width → y < r.height → IsTrue (m x y) → S x y ≡ T x y) (faces : List ℤ) where
    tile_ends : (e : Edge) → IsTileEdge r t e → has_open_ends m e ≡ has_open_ends n e
    tile_ends e i = same_ends r m n same e (and_parts (is_edge r.width r.height e) (is_inner r t e) i).0

    pub faces_verdict_too : (v : TileVerdict) → IsFacesVerdict r m t S faces v → IsFacesVerdict r n t T faces v
    faces_verdict_too tile_verdicts.Good h = tile_too r m n same S T agree t faces h
    faces_verdict_too tile_verdicts.Shape h = h
    faces_verdict_too (tile_verdicts.Range x y) h = h
    faces_verdict_too (tile_verdicts.FaceAtEdge e) h = (
      h.0,
      record {
        edge = h.1.edge;
        breaks = λ k. h.1.breaks (fits_too r n m t faces e (sym (tile_ends e h.1.edge)) k);
        first = λ d i b. fits_too r m n t faces d (tile_ends d i) (h.1.first d i b);
      },
    )
    faces_verdict_too (tile_verdicts.CostDiffers cost bound) h = (h.0, λ e i. fits_too r m n t faces e (tile_ends e i) (h.1 e i), h.2 ∙ same_tile_cost r m n same S T agree t, h.3 ∙ same_face_bound r m n same S T agree t (face_at r t faces), h.4)

  -- ---- flows
  seam_ends : (e : Edge) → IsSeamEdge r e → has_open_ends m e ≡ has_open_ends n e
  seam_ends e i = same_ends r m n same e (and_parts (is_edge r.width r.height e) (is_seam r e) i).0

  pub same_region : (labels : Field ℕ) (v x y : ℕ) → x < r.width → y < r.height → region_of m labels v x y ≡ region_of n labels v x y
  same_region labels v x y l h = ap (λ (o : Bool). o && (labels x y == v)) (same x y l h)

  -- the regions may have other labels
  module _ (L M : Field ℕ) (count others_count : ℕ) (counted : count ≡ others_count) (regions : (v x y : ℕ) → x < r.width → y < r.height → region_of m L v x y ≡ region_of n M v x y) (cycles others : Field ℤ) (alike : (x y : ℕ) → x < r.width → y < r.height → cycles x y ≡ others x y) (flows : List ℤ) where
    agree : (x y : ℕ) → x < r.width → y < r.height → IsTrue (m x y) → lifted r cycles x y ≡ lifted r others x y
    agree x y l h o = ap (λ (z : ℤ). pos (r.phase x y) +ℤ pos 65536 *ℤ z) (alike x y l h)

    anchor_too : IsAnchored r m (lifted r cycles) → IsAnchored r n (lifted r others)
    anchor_too h = anchored_too r m n same (lifted r cycles) (lifted r others) agree h

    flows_fit : (e : Edge) → IsSeamEdge r e → FlowFits r m (flow_at r flows) e → FlowFits r n (flow_at r flows) e
    flows_fit e i h = flow_too r m n (flow_at r flows) e (seam_ends e i) h

    balanced_too : (v : ℕ) → IsBalanced r (flow_at r flows) (region_of m L v) → IsBalanced r (flow_at r flows) (region_of n M v)
    balanced_too v b = balanced-same r (flow_at r flows) (region_of m L v) (region_of n M v) (regions v) b

    pub seam_verdict_too : (v : SeamVerdict) → IsSeamVerdict r m L count cycles flows v → IsSeamVerdict r n M others_count others flows v
    seam_verdict_too seam_verdicts.Good h = (anchor_too h.0, seams_too r m n same (lifted r cycles) (lifted r others) agree flows h.1)
    seam_verdict_too seam_verdicts.Shape h = h
    seam_verdict_too (seam_verdicts.Range v) h = h
    seam_verdict_too (seam_verdicts.Anchor z) h =
        let o = h.1 in
        (h.0, record { x = o.x; y = o.y; first = first_open_too r m n same o.x o.y o.first; cycles_there = o.cycles_there ∙ alike o.x o.y o.first.0.0 o.first.0.1; off = o.off })
    seam_verdict_too (seam_verdicts.FlowAtEdge e) h = (
      h.0,
      anchor_too h.1,
      record {
        edge = h.2.edge;
        breaks = λ k. h.2.breaks (flow_too r n m (flow_at r flows) e (sym (seam_ends e h.2.edge)) k);
        first = λ d i b. flows_fit d i (h.2.first d i b);
      },
    )
    seam_verdict_too (seam_verdicts.Unbalanced v) h = (
      h.0,
      anchor_too h.1,
      λ e i. flows_fit e i (h.2 e i),
      record {
        exists = omega (arith, h.3.exists, counted);
        unbalanced = λ b. h.3.unbalanced (balanced-same r (flow_at r flows) (region_of n M v) (region_of m L v) (λ x y l k. sym (regions v x y l k)) b);
        least = λ u l. balanced_too u (h.3.least u l);
      },
    )
    seam_verdict_too (seam_verdicts.CostDiffers cost bound) h = (
      h.0,
      anchor_too h.1,
      λ e i. flows_fit e i (h.2 e i),
      λ v l. balanced_too v (h.3 v (omega (arith, l, counted))),
      h.4 ∙ same_seam_cost r m n same (lifted r cycles) (lifted r others) agree,
      h.5 ∙ same_flow_bound r m n same (lifted r cycles) (lifted r others) agree (flow_at r flows),
      h.6,
    )
