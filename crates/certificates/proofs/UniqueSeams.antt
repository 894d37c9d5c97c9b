-- No two verdicts are true of the same seams.
use Rattle.std.proofs.Common.{◌≡◌, ◌∙◌, sym, ap, ap₂, refl, ℕ, ◌<◌, ℤ, List, Bool, length, arith}
use Rattle.std.specs.Prelude.{pos}
use Rattle.raster_model.specs.declared.edge.Edge.{Edge}
use Rattle.raster_model.specs.Raster.{Raster, lifted}
use Rattle.raster_model.specs.Sums.{Field}
use Rattle.raster_model.specs.Seams.{AreRegions, IsAnchored}
use Rattle.raster_model.specs.Flows.{seam_count, flow_at}
use Rattle.certificates.specs.declared.verdicts.SeamVerdict.{SeamVerdict}
use Rattle.certificates.specs.declared.verdicts.SeamVerdict.TheVariants.{Good, Shape, Range, Anchor, FlowAtEdge, Unbalanced, CostDiffers}
use Rattle.certificates.specs.SeamVerdicts.{IsOffAnchor, IsSeamEdge, FlowFits, AllFlowsFit, IsFirstHeavy, IsLeastUnbalanced, IsGoodAtSeams, IsSeamVerdict, SeamsHaveOneVerdict}
use Rattle.certificates.proofs.SeamVerdictLemmas.{not_anchored, fits_of_good, balanced_of_good}
use Rattle.certificates.proofs.Unique.{same_pixel, same_break}

same_anchor : (r : Raster) (mask : Field Bool) (cycles : Field ℤ) (a b : ℤ) → IsOffAnchor r mask cycles a → IsOffAnchor r mask cycles b → a ≡ b
same_anchor r mask cycles a b p q =
    let e = same_pixel p.x p.y q.x q.y (λ l. q.first.1 p.x p.y p.first.0 l) (λ l. p.first.1 q.x q.y q.first.0 l) in
    p.cycles_there ∙ ap₂ cycles e.0 e.1 ∙ sym q.cycles_there

same_least : (r : Raster) (mask : Field Bool) (labels : Field ℕ) (F : Edge → ℤ) (count u v : ℕ) → IsLeastUnbalanced r mask labels F count u → IsLeastUnbalanced r mask labels F count v → u ≡ v
same_least r mask labels F count u v p q = same u v (λ l. p.unbalanced (q.least u l)) (λ l. q.unbalanced (p.least v l))
  where
    same : (u v : ℕ) → (u < v → ⊥) → (v < u → ⊥) → u ≡ v
    same u v p q = grind arith

module _ (r : Raster) (mask : Field Bool) (labels : Field ℕ) (count : ℕ) (cycles : Field ℤ) (flows : List ℤ) (regions : AreRegions r mask labels count) where
  -- a verdict of the same, where one break is known and all before it are not
  wrong_count : (v : SeamVerdict) → (length flows ≡ seam_count r → ⊥) → IsSeamVerdict r mask labels count cycles flows v → Shape ≡ v
  wrong_count Good n q = absurd (n q.1.0)
  wrong_count Shape n q = refl
  wrong_count (Range u) n q = absurd q
  wrong_count (Anchor z) n q = absurd (n q.0)
  wrong_count (FlowAtEdge e) n q = absurd (n q.0)
  wrong_count (Unbalanced u) n q = absurd (n q.0)
  wrong_count (CostDiffers cost bound) n q = absurd (n q.0)

  off : (v : SeamVerdict) (z : ℤ) → length flows ≡ seam_count r → IsOffAnchor r mask cycles z → IsSeamVerdict r mask labels count cycles flows v → Anchor z ≡ v
  off Good z n o q = absurd (not_anchored r mask cycles z o q.0)
  off Shape z n o q = absurd (q n)
  off (Range u) z n o q = absurd q
  off (Anchor y) z n o q = ap Anchor (same_anchor r mask cycles z y o q.1)
  off (FlowAtEdge e) z n o q = absurd (not_anchored r mask cycles z o q.1)
  off (Unbalanced u) z n o q = absurd (not_anchored r mask cycles z o q.1)
  off (CostDiffers cost bound) z n o q = absurd (not_anchored r mask cycles z o q.1)

  heavy : (v : SeamVerdict) (e : Edge) → length flows ≡ seam_count r → IsAnchored r mask (lifted r cycles) → IsFirstHeavy r mask (flow_at r flows) e → IsSeamVerdict r mask labels count cycles flows v → FlowAtEdge e ≡ v
  heavy Good e n a f q = absurd (f.breaks (fits_of_good r mask labels count cycles flows regions q e f.edge))
  heavy Shape e n a f q = absurd (q n)
  heavy (Range u) e n a f q = absurd q
  heavy (Anchor y) e n a f q = absurd (not_anchored r mask cycles y q.1 a)
  heavy (FlowAtEdge d) e n a f q = ap FlowAtEdge (same_break (IsSeamEdge r) (FlowFits r mask (flow_at r flows)) e d f q.2)
  heavy (Unbalanced u) e n a f q = absurd (f.breaks (q.2 e f.edge))
  heavy (CostDiffers cost bound) e n a f q = absurd (f.breaks (q.2 e f.edge))

  unbalanced : (v : SeamVerdict) (u : ℕ) → length flows ≡ seam_count r → IsAnchored r mask (lifted r cycles) → AllFlowsFit r mask (flow_at r flows) → IsLeastUnbalanced r mask labels (flow_at r flows) count u → IsSeamVerdict r mask labels count cycles flows v → Unbalanced u ≡ v
  unbalanced Good u n a f b q = absurd (b.unbalanced (balanced_of_good r mask labels count cycles flows regions q u b.exists))
  unbalanced Shape u n a f b q = absurd (q n)
  unbalanced (Range x) u n a f b q = absurd q
  unbalanced (Anchor y) u n a f b q = absurd (not_anchored r mask cycles y q.1 a)
  unbalanced (FlowAtEdge d) u n a f b q = absurd (q.2.breaks (f d q.2.edge))
  unbalanced (Unbalanced x) u n a f b q = ap Unbalanced (same_least r mask labels (flow_at r flows) count u x b q.3)
  unbalanced (CostDiffers cost bound) u n a f b q = absurd (b.unbalanced (q.3 u b.exists))

  differs : (v : SeamVerdict) (cost : ℕ) (bound : ℤ) → IsSeamVerdict r mask labels count cycles flows (CostDiffers cost bound) → IsSeamVerdict r mask labels count cycles flows v → CostDiffers cost bound ≡ v
  differs Good cost bound p q = absurd (p.6 (p.5 ∙ q.1.1.equal ∙ sym p.4))
  differs Shape cost bound p q = absurd (q p.0)
  differs (Range x) cost bound p q = absurd q
  differs (Anchor y) cost bound p q = absurd (not_anchored r mask cycles y q.1 p.1)
  differs (FlowAtEdge d) cost bound p q = absurd (q.2.breaks (p.2 d q.2.edge))
  differs (Unbalanced x) cost bound p q = absurd (q.3.unbalanced (p.3 x q.3.exists))
  differs (CostDiffers c b) cost bound p q = ap₂ CostDiffers (same_cost (p.4 ∙ sym q.4)) (p.5 ∙ sym q.5)
    where
      same_cost : {m n : ℕ} → pos m ≡ pos n → m ≡ n
      same_cost e = cc

  certified : (v : SeamVerdict) → IsGoodAtSeams r mask cycles flows → IsSeamVerdict r mask labels count cycles flows v → Good ≡ v
  certified Good g q = refl
  certified Shape g q = absurd (q g.1.0)
  certified (Range x) g q = absurd q
  certified (Anchor y) g q = absurd (not_anchored r mask cycles y q.1 g.0)
  certified (FlowAtEdge d) g q = absurd (q.2.breaks (fits_of_good r mask labels count cycles flows regions g d q.2.edge))
  certified (Unbalanced x) g q = absurd (q.3.unbalanced (balanced_of_good r mask labels count cycles flows regions g x q.3.exists))
  certified (CostDiffers cost bound) g q = absurd (q.6 (q.5 ∙ g.1.1.equal ∙ sym q.4))

pub seams_have_one_verdict : SeamsHaveOneVerdict
seams_have_one_verdict r mask labels count cycles flows Good v regions p q = certified r mask labels count cycles flows regions v p q
seams_have_one_verdict r mask labels count cycles flows Shape v regions p q = wrong_count r mask labels count cycles flows regions v p q
seams_have_one_verdict r mask labels count cycles flows (Range u) v regions p q = absurd p
seams_have_one_verdict r mask labels count cycles flows (Anchor z) v regions p q = off r mask labels count cycles flows regions v z p.0 p.1 q
seams_have_one_verdict r mask labels count cycles flows (FlowAtEdge e) v regions p q = heavy r mask labels count cycles flows regions v e p.0 p.1 p.2 q
seams_have_one_verdict r mask labels count cycles flows (Unbalanced u) v regions p q = unbalanced r mask labels count cycles flows regions v u p.0 p.1 p.2 p.3 q
seams_have_one_verdict r mask labels count cycles flows (CostDiffers cost bound) v regions p q = differs r mask labels count cycles flows regions v cost bound p q
