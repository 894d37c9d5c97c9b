-- No text has two verdicts.
use Rattle.std.proofs.Common.{◌≡◌, ◌∙◌, ℕ, ℤ, Bool, refl, sym, subst, ap, ap₂}
use Rattle.std.specs.Prelude.{◌≢◌, ◌↔◌, pos}
use Rattle.raster_model.specs.declared.edge.Edge.{Edge}
use Rattle.raster_model.specs.Certificates.{face_bound}
use Rattle.raster_model.specs.Raster.{Raster}
use Rattle.raster_model.specs.Sums.{Field}
use Rattle.certificates.specs.Verdicts.{IsFirstUnfit}
use Rattle.certificates.proofs.Unique.{same_break, same_pixel}
use Rattle.raster_model.specs.Whole.{IsCertifiedWhole, IsLeastOfAll, whole_cost, whole_of}
use Rattle.raster_model.proofs.Whole.{certified_whole_is_least, whole_tile_cost}
use Rattle.whole_text.specs.Text.{WholeOf}
use Rattle.whole_text.specs.Told.{IsWholeTask, WholeTask}
use Rattle.whole_check.specs.declared.verdict.WholeVerdict.{WholeVerdict}
use Rattle.whole_check.specs.declared.verdict.WholeVerdict.TheVariants.{Accepted, Header, Value, Face, Cost, Told}
use Rattle.whole_check.specs.Verdicts.{HasWholeHead, IsCertifiedText, IsFirstFalseValue, IsWholeVerdict, PassesValues, WholeDiffersAt, WholesHaveOneVerdict, surface_told, whole_face}
use Rattle.whole_check.proofs.HeadLemmas.{no_difference, one_difference}
use Rattle.whole_check.proofs.StandLemmas.{anchored_stand}

same_number : {m n : ℕ} → pos m ≡ pos n → m ≡ n
same_number e = cc

module _ (s : WholeTask) (is : IsWholeTask s) (v : WholeOf) where
  abbrev r : Raster
  r = s.raster

  abbrev mask : Field Bool
  mask = s.mask

  abbrev S : Field ℤ
  S = surface_told s v

  pub certified_passes : IsCertifiedText s v → PassesValues s v
  certified_passes c = (c.head, anchored_stand r mask v.values is.phases c.values c.anchored)

  -- faces that certify fit at each edge, and their bound is the cost
  not_face : IsCertifiedWhole r mask S v.faces → (e : Edge) → IsFirstUnfit (whole_of r) mask 0 (whole_face s v) e → ⊥
  not_face c e u = u.breaks (c.certified.1.fits e u.edge)

  not_cost : IsCertifiedWhole r mask S v.faces → (cost : ℕ) (bound : ℤ) → pos cost ≡ whole_cost r mask S → bound ≡ face_bound (whole_of r) mask 0 (whole_face s v) → bound ≢ pos cost → ⊥
  not_cost c cost bound counted is differs = differs (is ∙ c.certified.1.equal ∙ whole_tile_cost r mask S ∙ sym counted)

  header_first : (n : ℕ) (b : WholeVerdict) → WholeDiffersAt s v n → IsWholeVerdict s v b → Header n ≡ b
  header_first n Accepted d q = absurd (no_difference s v n q.head d)
  header_first n (Header m) d q = ap Header (one_difference s v n m d q)
  header_first n (Value x y) d q = absurd (no_difference s v n q.0 d)
  header_first n (Face e) d q = absurd (no_difference s v n q.0.0 d)
  header_first n (Cost cost bound) d q = absurd (no_difference s v n q.0.0 d)
  header_first n (Told written counted) d q = absurd (no_difference s v n q.0.0 d)

  value_first : (x y : ℕ) (b : WholeVerdict) → HasWholeHead s v → IsFirstFalseValue r mask v.values x y → IsWholeVerdict s v b → Value x y ≡ b
  value_first x y Accepted h f q = absurd (f.wrong ((certified_passes q).1 x y f.across f.along))
  value_first x y (Header n) h f q = absurd (no_difference s v n h q)
  value_first x y (Value a b) h f q = (let g = q.1 in let same = same_pixel x y a b (λ e. f.wrong (g.first x y f.across f.along e)) (λ e. g.wrong (f.first a b g.across g.along e)) in ap₂ Value same.0 same.1)
  value_first x y (Face e) h f q = absurd (f.wrong (q.0.1 x y f.across f.along))
  value_first x y (Cost cost bound) h f q = absurd (f.wrong (q.0.1 x y f.across f.along))
  value_first x y (Told written counted) h f q = absurd (f.wrong (q.0.1 x y f.across f.along))

  face_first : (e : Edge) (b : WholeVerdict) → PassesValues s v → IsFirstUnfit (whole_of r) mask 0 (whole_face s v) e → IsWholeVerdict s v b → Face e ≡ b
  face_first e Accepted p u q = absurd (not_face q.certified e u)
  face_first e (Header n) p u q = absurd (no_difference s v n p.0 q)
  face_first e (Value a b) p u q = (let g = q.1 in absurd (g.wrong (p.1 a b g.across g.along)))
  face_first e (Face d) p u q = ap Face (same_break _ _ e d u q.1)
  face_first e (Cost cost bound) p u q = absurd (u.breaks (q.1.0 e u.edge))
  face_first e (Told written counted) p u q = absurd (not_face q.1.0 e u)

  cost_first : (cost : ℕ) (bound : ℤ) (b : WholeVerdict) → IsWholeVerdict s v (Cost cost bound) → IsWholeVerdict s v b → Cost cost bound ≡ b
  cost_first cost bound Accepted p q = absurd (not_cost q.certified cost bound p.1.1.0 p.1.1.1.0 p.1.1.1.1)
  cost_first cost bound (Header n) p q = absurd (no_difference s v n p.0.0 q)
  cost_first cost bound (Value a b) p q = (let g = q.1 in absurd (g.wrong (p.0.1 a b g.across g.along)))
  cost_first cost bound (Face e) p q = absurd (q.1.breaks (p.1.0 e q.1.edge))
  cost_first cost bound (Cost d c) p q = ap₂ Cost (same_number (p.1.1.0 ∙ sym q.1.1.0)) (p.1.1.1.0 ∙ sym q.1.1.1.0)
  cost_first cost bound (Told written counted) p q = absurd (not_cost q.1.0 cost bound p.1.1.0 p.1.1.1.0 p.1.1.1.1)

  told_first : (written counted : ℕ) (b : WholeVerdict) → IsWholeVerdict s v (Told written counted) → IsWholeVerdict s v b → Told written counted ≡ b
  told_first written counted Accepted p q = absurd (p.1.1.1.1 (p.1.1.0 ∙ same_number (q.cost ∙ sym p.1.1.1.0)))
  told_first written counted (Header n) p q = absurd (no_difference s v n p.0.0 q)
  told_first written counted (Value a b) p q = (let g = q.1 in absurd (g.wrong (p.0.1 a b g.across g.along)))
  told_first written counted (Face e) p q = absurd (not_face p.1.0 e q.1)
  told_first written counted (Cost cost bound) p q = absurd (not_cost p.1.0 cost bound q.1.1.0 q.1.1.1.0 q.1.1.1.1)
  told_first written counted (Told w c) p q = ap₂ Told (p.1.1.0 ∙ sym q.1.1.0) (same_number (p.1.1.1.0 ∙ sym q.1.1.1.0))

  accepted_first : (b : WholeVerdict) → IsCertifiedText s v → IsWholeVerdict s v b → Accepted ≡ b
  accepted_first Accepted p q = refl
  accepted_first (Header n) p q = sym (header_first n Accepted q p)
  accepted_first (Value x y) p q = sym (value_first x y Accepted q.0 q.1 p)
  accepted_first (Face e) p q = sym (face_first e Accepted q.0 q.1 p)
  accepted_first (Cost cost bound) p q = sym (cost_first cost bound Accepted q p)
  accepted_first (Told written counted) p q = sym (told_first written counted Accepted q p)

pub wholes_have_one_verdict : WholesHaveOneVerdict
wholes_have_one_verdict s is v Accepted b p q = accepted_first s is v b p q
wholes_have_one_verdict s is v (Header n) b p q = header_first s is v n b p q
wholes_have_one_verdict s is v (Value x y) b p q = value_first s is v x y b p.0 p.1 q
wholes_have_one_verdict s is v (Face e) b p q = face_first s is v e b p.0 p.1 q
wholes_have_one_verdict s is v (Cost cost bound) b p q = cost_first s is v cost bound b p q
wholes_have_one_verdict s is v (Told written counted) b p q = told_first s is v written counted b p q

-- ---- what acceptance says

pub accepted_tells : (s : WholeTask) → IsWholeTask s → (v : WholeOf) (verdict : WholeVerdict) → IsWholeVerdict s v verdict → (verdict ≡ Accepted) ↔ IsCertifiedText s v
accepted_tells s is v verdict h = (λ e. subst (λ (w : WholeVerdict). IsWholeVerdict s v w) e h, λ c. wholes_have_one_verdict s is v verdict Accepted h c)

pub certified_least : (s : WholeTask) (v : WholeOf) → IsCertifiedText s v → IsLeastOfAll s.raster s.mask (surface_told s v)
certified_least s v c = certified_whole_is_least s.raster s.mask (surface_told s v) v.faces c.certified
