-- The verdicts on parts: how the check of the flows makes them, and that there is one.
use Rattle.std.proofs.Common.{◌≡◌, ◌∙◌, ℕ, ◌*◌, ap, sym, subst, refl, inl, inr, ◌⊎◌, List, length}
use Rattle.std.specs.Prelude.{◌≢◌, ℤ}
use Rattle.raster_model.specs.declared.scene.Scene.{Scene}
use Rattle.raster_model.specs.MaskView.{MaskView}
use Rattle.raster_model.specs.Masks.{open_at}
use Rattle.raster_model.specs.Scene.{raster_of}
use Rattle.raster_model.specs.Seams.{AreRegions}
use Rattle.raster_model.specs.Sums.{Field}
use Rattle.certificates.specs.declared.verdicts.SeamVerdict.{SeamVerdict}
use Rattle.certificates.specs.declared.verdicts.SeamVerdict.TheVariants.{Good, Shape, Range, Anchor, FlowAtEdge, Unbalanced, CostDiffers}
use Rattle.certificates.specs.SeamVerdicts.{IsSeamVerdict, ListsRegions, label_at as label_in}
use Rattle.certificates.proofs.UniqueSeams.{seams_have_one_verdict}
use Rattle.seam_regions.specs.Offsets.{AreNear, IsFirstFar}
use Rattle.seam_regions.specs.Regions.{AreRegionsOf, region_label}
use Rattle.seam_regions.specs.RegionsView.{RegionsView}
use Rattle.seam_regions.proofs.CallerLemmas.{regions_of_scene}
use Rattle.surface_snapshots.specs.Parts.{Parts, cycles_in_parts, flows_in, open_in, raster_in}
use Rattle.surface_snapshots.specs.Verdicts.{HasOffsets, IsPartsFlowsVerdict, IsPartsVerdict, PartsHaveOneVerdict}
use Rattle.std.proofs.lemmas.Bool.{cases_order}

-- ---- the labels, as the check of the flows reads them
module _ (s : Scene) (m : MaskView) (v : RegionsView) (is : AreRegionsOf s.tiling m v) (labels : List ℕ) (count : ℕ) (values : labels ≡ v.labels) (counted : count ≡ v.count) where
  wide : v.width ≡ s.phase.width
  wide = is.width ∙ s.same_width.1

  pub lists_regions : length labels ≡ v.width * v.height → ListsRegions (raster_of s) (open_at m) labels count
  lists_regions size = (
    size ∙ (let high : v.height ≡ s.phase.height = is.height ∙ s.same_height.1 in rw (wide, high) refl),
    rw (values, counted) (subst (λ (w : ℕ). AreRegions (raster_of s) (open_at m) (label_in w v.labels) v.count) wide (regions_of_scene s m v is)),
  )

  pub flows_verdict : (cycles : Field ℤ) (flows : List ℤ) (verdict : SeamVerdict) → IsSeamVerdict (raster_of s) (open_at m) (label_in s.phase.width labels) count cycles flows verdict → IsSeamVerdict (raster_of s) (open_at m) (region_label v) v.count cycles flows verdict
  flows_verdict cycles flows verdict h =
      subst (λ (w : ℕ). IsSeamVerdict (raster_of s) (open_at m) (label_in w v.labels) v.count cycles flows verdict) (sym wide)
      (rw (values, counted) at h)

-- ---- what the check of the flows says is the verdict, where the offsets are in order
pub judged : (p : Parts) (verdict : SeamVerdict) → HasOffsets p → AreNear p.seams.offsets → IsPartsFlowsVerdict p verdict → IsPartsVerdict p verdict
judged p Good o n f = (o, n, f)
judged p Shape o n f = inr (o, n, f)
judged p (Range v) o n f = absurd f
judged p (Anchor z) o n f = (o, n, f)
judged p (FlowAtEdge e) o n f = (o, n, f)
judged p (Unbalanced v) o n f = (o, n, f)
judged p (CostDiffers cost bound) o n f = (o, n, f)

-- ---- there is one verdict
record IsTooFar (p : Parts) (verdict : SeamVerdict) : Type 0 where
  region : ℕ
  is : verdict ≡ Range region
  offsets : HasOffsets p
  first : IsFirstFar p.seams.offsets region

record IsOfFlows (p : Parts) (verdict : SeamVerdict) : Type 0 where
  offsets : HasOffsets p
  near : AreNear p.seams.offsets
  says : IsPartsFlowsVerdict p verdict

abbrev Kinds : Parts → SeamVerdict → Type 0
Kinds p verdict = ((verdict ≡ Shape) × (length p.seams.offsets ≢ p.regions.count)) ⊎ (IsTooFar p verdict ⊎ IsOfFlows p verdict)

kind_of : (p : Parts) (verdict : SeamVerdict) → IsPartsVerdict p verdict → Kinds p verdict
kind_of p Good h = inr (inr (record { offsets = h.0; near = h.1; says = h.2 }))
kind_of p Shape (inl n) = inl (refl, n)
kind_of p Shape (inr h) = inr (inr (record { offsets = h.0; near = h.1; says = h.2 }))
kind_of p (Range v) h = inr (inl (record { region = v; is = refl; offsets = h.0; first = h.1 }))
kind_of p (Anchor z) h = inr (inr (record { offsets = h.0; near = h.1; says = h.2 }))
kind_of p (FlowAtEdge e) h = inr (inr (record { offsets = h.0; near = h.1; says = h.2 }))
kind_of p (Unbalanced v) h = inr (inr (record { offsets = h.0; near = h.1; says = h.2 }))
kind_of p (CostDiffers cost bound) h = inr (inr (record { offsets = h.0; near = h.1; says = h.2 }))

one_far : (p : Parts) (u v : ℕ) → IsFirstFar p.seams.offsets u → IsFirstFar p.seams.offsets v → u ≡ v
one_far p u v f g = elim (cases_order u v) [
  | inl e ↦ e
  | inr (inl l) ↦ absurd (f.far (g.first u l))
  | inr (inr l) ↦ absurd (g.far (f.first v l))
]

pub parts_have_one_verdict : PartsHaveOneVerdict
parts_have_one_verdict p a b is h k = go (kind_of p a h) (kind_of p b k)
  where
    go : Kinds p a → Kinds p b → a ≡ b
    go (inl e) (inl f) = e.0 ∙ sym f.0
    go (inl e) (inr (inl f)) = absurd (e.1 f.offsets)
    go (inl e) (inr (inr f)) = absurd (e.1 f.offsets)
    go (inr (inl e)) (inl f) = absurd (f.1 e.offsets)
    go (inr (inl e)) (inr (inl f)) = e.is ∙ ap Range (one_far p e.region f.region e.first f.first) ∙ sym f.is
    go (inr (inl e)) (inr (inr f)) = absurd (e.first.far (f.near e.region e.first.exists))
    go (inr (inr e)) (inl f) = absurd (f.1 e.offsets)
    go (inr (inr e)) (inr (inl f)) = absurd (f.first.far (e.near f.region f.first.exists))
    go (inr (inr e)) (inr (inr f)) = seams_have_one_verdict (raster_in p) (open_in p) (region_label p.regions) p.regions.count (cycles_in_parts p) (flows_in p) a b (regions_of_scene p.session.scene p.mask p.regions is) e.says f.says
