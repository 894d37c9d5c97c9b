-- What verdicts say of the certificates of seams.
use Rattle.std.proofs.Common.{◌≡◌, ◌∙◌, sym, refl, subst, ℕ, ◌+◌, ◌*◌, ◌<◌, ℤ, List, Bool, length, arith, Fits, w32}
use Rattle.std.specs.Prelude.{◌↔◌, pos, ◌-ℤ◌, ◌+ℤ◌, ◌*ℤ◌, slice_index}
use Rattle.std.proofs.lemmas.Int.{ints}
use Rattle.raster_model.specs.declared.edge.Edge.{Edge}
use Rattle.raster_model.specs.Raster.{Raster, lifted, seam_cost, is_seam}
use Rattle.raster_model.specs.Sums.{Field, is_edge}
use Rattle.raster_model.specs.Seams.{IsAnchored, IsOpenPixel, AreRegions, IsLeastAtSeams, flow_bound, IsFirstOpen}
use Rattle.raster_model.specs.Flows.{seam_count, flow_at}
use Rattle.raster_model.proofs.Balance.{balanced_by_labels, balanced_at_label}
use Rattle.raster_model.proofs.Exact.{lifted_is_congruent}
use Rattle.raster_model.proofs.SeamLeast.{least_at_seams}
use Rattle.certificates.specs.declared.verdicts.SeamVerdict.{SeamVerdict}
use Rattle.certificates.specs.declared.verdicts.SeamVerdict.TheVariants.{Good, Shape, Range, Anchor, FlowAtEdge, Unbalanced, CostDiffers}
use Rattle.certificates.specs.SeamVerdicts.{IsOffAnchor, ListsRegions, AllFlowsFit, AreBalanced, IsLeastUnbalanced, IsGoodAtSeams, IsSeamVerdict}
use Rattle.certificates.specs.FlowWords.{AreExcessesOf}
use Rattle.certificates.proofs.Unique.{same_pixel}
use Rattle.certificates.specs.Growth.{AreZeros, IsFirstOther}
use Rattle.std.proofs.lemmas.Bool.{and_from, and_parts}

-- a surface that is off its anchor does not meet it
at_anchor : (p : ℕ) (z : ℤ) → pos p +ℤ pos 65536 *ℤ z ≡ pos p → z ≡ pos 0
at_anchor p z e = omega (arith, ints)

pub not_anchored : (r : Raster) (mask : Field Bool) (cycles : Field ℤ) (z : ℤ) → IsOffAnchor r mask cycles z → IsAnchored r mask (lifted r cycles) → ⊥
not_anchored r mask cycles z o a = o.off (o.cycles_there ∙ at_anchor (r.phase o.x o.y) (cycles o.x o.y) (a o.x o.y o.first.0 o.first.1))

-- a surface whose first open pixel has no cycles meets its anchor, and so does one with no open pixel
pub no_anchor : (r : Raster) (mask : Field Bool) (S : Field ℤ) → ((x y : ℕ) → IsOpenPixel r mask x y → ⊥) → IsAnchored r mask S
no_anchor r mask S none x y o f = absurd (none x y o)

pub anchored : (r : Raster) (mask : Field Bool) (cycles : Field ℤ) (a b : ℕ) (z : ℤ) → IsFirstOpen r mask a b → z ≡ cycles a b → z ≡ pos 0 → IsAnchored r mask (lifted r cycles)
anchored r mask cycles a b z first is zero x y o f =
    let e = same_pixel a b x y (λ l. f a b first.0 l) (λ l. first.1 x y o l) in
    at_phase (r.phase x y) (cycles x y) (rw (← e.0, ← e.1) (sym is ∙ zero))
  where
    at_phase : (p : ℕ) (z : ℤ) → z ≡ pos 0 → pos p +ℤ pos 65536 *ℤ z ≡ pos p
    at_phase p z e = omega (arith, ints)

pub off_anchor : (r : Raster) (mask : Field Bool) (cycles : Field ℤ) (a b : ℕ) (z : ℤ) → IsFirstOpen r mask a b → z ≡ cycles a b → (z ≡ pos 0 → ⊥) → IsOffAnchor r mask cycles z
off_anchor r mask cycles a b z first is off = record { x = a; y = b; first = first; cycles_there = is; off = off }

module _ (r : Raster) (mask : Field Bool) (labels : Field ℕ) (count : ℕ) (cycles : Field ℤ) (flows : List ℤ) (regions : AreRegions r mask labels count) where
  -- the parts of a certificate, and what it says of them
  pub good_of_parts : length flows ≡ seam_count r → IsAnchored r mask (lifted r cycles) → AllFlowsFit r mask (flow_at r flows) → AreBalanced r mask labels (flow_at r flows) count → flow_bound r mask (lifted r cycles) (flow_at r flows) ≡ seam_cost r mask (lifted r cycles) → IsGoodAtSeams r mask cycles flows
  good_of_parts n a fit balanced equal = (
    a,
    (
      n,
      record {
        bounded = λ e i s. fit e (and_from (is_edge r.width r.height e) (is_seam r e) i s);
        balanced = balanced_by_labels r mask labels count regions.labelling (flow_at r flows) balanced;
        equal = equal;
      },
    ),
  )

  pub fits_of_good : IsGoodAtSeams r mask cycles flows → AllFlowsFit r mask (flow_at r flows)
  fits_of_good g e i = let t = and_parts (is_edge r.width r.height e) (is_seam r e) i in g.1.1.bounded e t.0 t.1

  pub balanced_of_good : IsGoodAtSeams r mask cycles flows → AreBalanced r mask labels (flow_at r flows) count
  balanced_of_good g = balanced_at_label r mask labels count regions.labelling (flow_at r flows) g.1.1.balanced

  -- good exactly where the flows certify
  pub seams_good : (verdict : SeamVerdict) → IsSeamVerdict r mask labels count cycles flows verdict → (verdict ≡ Good) ↔ IsGoodAtSeams r mask cycles flows
  seams_good Good h = (λ e. h, λ g. refl)
  seams_good Shape h = (λ e. cc, λ g. absurd (h g.1.0))
  seams_good (Range v) h = absurd h
  seams_good (Anchor z) h = (λ e. cc, λ g. absurd (not_anchored r mask cycles z h.1 g.0))
  seams_good (FlowAtEdge e) h = (λ e. cc, λ g. absurd (h.2.breaks (fits_of_good g e h.2.edge)))
  seams_good (Unbalanced v) h = (λ e. cc, λ g. absurd (h.3.unbalanced (balanced_of_good g v h.3.exists)))
  seams_good (CostDiffers cost bound) h = (λ e. cc, λ g. absurd (h.6 (h.5 ∙ g.1.1.equal ∙ sym h.4)))

  pub seams_least : (verdict : SeamVerdict) → IsSeamVerdict r mask labels count cycles flows verdict → verdict ≡ Good → IsLeastAtSeams r mask (lifted r cycles)
  seams_least verdict h e =
      least_at_seams r mask (lifted r cycles) (lifted_is_congruent r mask cycles) (flow_at r flows) ((seams_good verdict h).0 e).1.1

  -- all that a check of the seams says of its verdict
  pub seams_say : (v : SeamVerdict) → IsSeamVerdict r mask labels count cycles flows v → record { verdict : IsSeamVerdict r mask labels count cycles flows v; good : (v ≡ Good) ↔ IsGoodAtSeams r mask cycles flows; least : v ≡ Good → IsLeastAtSeams r mask (lifted r cycles) }
  seams_say v h = record { verdict = h; good = seams_good v h; least = seams_least v h }

-- a region's number is a label, so it fits as labels do
pub region_fits : (r : Raster) (mask : Field Bool) (labels : List ℕ) (count v : ℕ) → ListsRegions r mask labels count → ((i : ℕ) → Fits w32 (slice_index labels i)) → v < count → Fits w32 v
region_fits r mask labels count v are fits l =
    let u = are.1.labelling.used v l in
    subst (λ (n : ℕ). Fits w32 n) u.3 (fits (u.1 * r.width + u.0))

-- ---- what the sums at the regions say
same_sums : (a b : ℤ) → a -ℤ b ≡ pos 0 → a ≡ b
same_sums a b e = omega (arith, ints)

no_difference : (a b : ℤ) → a ≡ b → a -ℤ b ≡ pos 0
no_difference a b e = omega (arith, ints)

module _ (r : Raster) (mask : Field Bool) (labels : Field ℕ) (F : Edge → ℤ) (sums : List ℤ) (are : AreExcessesOf r mask labels F sums) (n : ℕ) (e : n ≡ length sums) where
  pub balanced_of_zeros : AreZeros sums → AreBalanced r mask labels F n
  balanced_of_zeros zeros v l = same_sums _ _ (sym (are v (rw (← e) l)) ∙ zeros v (rw (← e) l))

  pub least_of_first : (v : ℕ) → IsFirstOther sums v → IsLeastUnbalanced r mask labels F n v
  least_of_first v first = record {
    exists = rw e first.exists;
    unbalanced = λ b. first.other (are v first.exists ∙ no_difference _ _ b);
    least = λ u l. same_sums _ _ (sym (are u (omega (arith, l, first.exists))) ∙ first.zeros u l);
  }
