-- No two verdicts are true of one report.
use Rattle.std.proofs.Common.{◌≡◌, ◌∙◌, ℕ, zero, suc, ◌<◌, inl, inr, refl, sym, ap, subst, arith, Bool, List, [], ◌∷◌, take}
use Rattle.std.specs.Prelude.{ℤ, pos, ◌&&◌, ◌==◌, IsTrue, Option, Some, None, slice_get}
use Rattle.std.proofs.lemmas.List.{take-take, take_all}
use Rattle.raster_model.specs.declared.session.Session.{Session}
use Rattle.raster_model.specs.Cells.{IsCertifiedTile}
use Rattle.raster_model.specs.Raster.{Raster, seam_cost}
use Rattle.raster_model.specs.Scene.{raster_of}
use Rattle.raster_model.specs.Sums.{Field}
use Rattle.raster_model.proofs.MaskAgrees.{same_count}
use Rattle.raster_model.proofs.RegionNumbers.{numbers_agree}
use Rattle.surface_snapshots.specs.Parts.{tile_costs}
use Rattle.certificates.specs.declared.verdicts.SeamVerdict.{SeamVerdict}
use Rattle.certificates.specs.declared.verdicts.SeamVerdict.TheVariants as seam_verdicts
use Rattle.certificates.specs.declared.verdicts.TileVerdict.{TileVerdict}
use Rattle.certificates.specs.declared.verdicts.TileVerdict.TheVariants as tile_verdicts
use Rattle.certificates.specs.SeamVerdicts.{IsGoodAtSeams}
use Rattle.certificates.proofs.Unique.{faces_have_one_verdict, same_pixel}
use Rattle.certificates.proofs.UniqueSeams.{seams_have_one_verdict}
use Rattle.tile_board.specs.declared.entry.Entry.{Entry}
use Rattle.tile_board.specs.Histories.{IsComplete, IsLegal, IsStep, mask_in}
use Rattle.tile_board.proofs.ListLemmas.{get_none, none_below}
use Rattle.report_text.specs.Certified.{IsCertifiedAt, IsCertifiedAfter, IsCertifiedReport, history_of}
use Rattle.report_text.specs.Reports.{ItemOf, ReportOf, SurfaceOf}
use Rattle.report_check.specs.declared.verdict.CheckVerdict.{CheckVerdict}
use Rattle.report_check.specs.declared.verdict.CheckVerdict.TheVariants.{Accepted, Header, History, Value, Tile, Seams, TileCost, SeamCost}
use Rattle.report_check.specs.Shown.{IsGoodSurface}
use Rattle.report_check.specs.Verdicts.{AreUnfitSeams, BreaksHistoryAt, IsFirstUnfitSurface, IsFirstUnfitTile, IsMiscounted, IsSurfaceVerdict, IsCheckVerdict, MayNotCome, PassesTiles, ReportsHaveOneVerdict, surface_shown}
use Rattle.grid_writer.specs.Fits.{cycles_shown}
use Rattle.report_check.proofs.HeadLemmas.{head_of, no_difference, one_difference}
use Rattle.report_check.proofs.MaskLemmas.{seam_verdict_too}
use Rattle.grid_writer.proofs.FitSurfaces.{has_phases}
use Rattle.report_check.proofs.SurfaceLemmas.{certified_is_good}
use Rattle.std.proofs.lemmas.Bool.{cases_order}

-- the first of some tests that is not passed is one
abbrev IsFirst : (ℕ → Type 0) → ℕ → Type 0
IsFirst P n = (P n → ⊥) × ((k : ℕ) → k < n → P k)

one_first : (P : ℕ → Type 0) (m n : ℕ) → IsFirst P m → IsFirst P n → m ≡ n
one_first P m n p q = elim (cases_order m n) [
  | inl e ↦ e
  | inr (inl l) ↦ absurd (p.0 (q.1 m l))
  | inr (inr l) ↦ absurd (q.0 (p.1 n l))
]

-- ---- surfaces

-- regions with other numbers
same_beside : (b : Bool) (m l v : ℕ) → (IsTrue b → l ≡ m) → b && (l == v) ≡ b && (m == v)
same_beside b m l v e = grind arith

module _ (r : Raster) (mask : Field Bool) (revision : ℕ) (k : SurfaceOf) where
  abbrev TileIsCertified : ℕ → Type 0
  TileIsCertified t = IsCertifiedTile r mask t (surface_shown r k) (k.faces t)

  first_tile : (t : ℕ) (v : TileVerdict) → IsFirstUnfitTile r mask k t v → IsFirst TileIsCertified t
  first_tile t v u = (λ c. u.not_good (faces_have_one_verdict r mask t (surface_shown r k) (k.faces t) v tile_verdicts.Good u.verdict_is c), u.before)

  tile_not_passed : (t : ℕ) (v : TileVerdict) → IsFirstUnfitTile r mask k t v → PassesTiles r mask k → ⊥
  tile_not_passed t v u p = (first_tile t v u).0 (p.tiles t u.exists)

  seams_not_passed : (v : SeamVerdict) → AreUnfitSeams r mask k v → IsGoodAtSeams r mask (cycles_shown k.values) k.flows → ⊥
  seams_not_passed v u g = u.not_good (seams_have_one_verdict r mask u.labels u.count (cycles_shown k.values) k.flows v seam_verdicts.Good u.regions u.verdict_is g)

  not_miscounted : (told : ℕ) (cost : ℤ) (written counted : ℕ) → pos told ≡ cost → IsMiscounted told cost written counted → ⊥
  not_miscounted told cost written counted e m = (let same : pos told ≡ pos counted = e ∙ sym m.1.0 in m.1.1 (cc (m.0, same)))

  pub unfit_not_good : (v : CheckVerdict) → IsSurfaceVerdict r mask revision k v → IsGoodSurface r mask k → ⊥
  unfit_not_good (Value told x y) h g = h.1.unfit (g.passes.tiles.values x y h.1.across h.1.along)
  unfit_not_good (Tile told t v) h g = tile_not_passed t v h.1.1 g.passes.tiles
  unfit_not_good (Seams told v) h g = seams_not_passed v h.1.1 g.passes.seams
  unfit_not_good (TileCost told written counted) h g = not_miscounted k.tile_cost (tile_costs r mask (surface_shown r k)) written counted g.tile_cost h.1.1
  unfit_not_good (SeamCost told written counted) h g = not_miscounted k.seam_cost (seam_cost r mask (surface_shown r k)) written counted g.seam_cost_is h.1.1.1
  unfit_not_good v h g = absurd h

  same_tile : (t u : ℕ) (v w : TileVerdict) → IsFirstUnfitTile r mask k t v → IsFirstUnfitTile r mask k u w → (t ≡ u) × (v ≡ w)
  same_tile t u v w p q =
      let e = one_first TileIsCertified t u (first_tile t v p) (first_tile u w q) in
      (e, faces_have_one_verdict r mask t (surface_shown r k) (k.faces t) v w p.verdict_is (subst (λ (n : ℕ). IsFirstUnfitTile r mask k n w) (sym e) q).verdict_is)

  same_seams : (v w : SeamVerdict) → AreUnfitSeams r mask k v → AreUnfitSeams r mask k w → v ≡ w
  same_seams v w p q =
      seams_have_one_verdict r mask p.labels p.count (cycles_shown k.values) k.flows v w p.regions p.verdict_is
      (seam_verdict_too r mask mask (λ x y l h. refl) q.labels p.labels q.count p.count (same_count r mask q.labels q.count p.labels p.count q.regions p.regions) (λ u x y l h. same_beside (mask x y) (p.labels x y) (q.labels x y) u (λ o. numbers_agree r mask q.labels q.count p.labels p.count q.regions p.regions x y (l, h, o))) (cycles_shown k.values) (cycles_shown k.values) (λ x y l h. refl) k.flows w q.verdict_is)

  same_costs : (told : ℕ) (cost : ℤ) (w c v d : ℕ) → IsMiscounted told cost w c → IsMiscounted told cost v d → (w ≡ v) × (c ≡ d)
  same_costs told cost w c v d m n = (m.0 ∙ sym n.0, (let same : pos c ≡ pos d = m.1.0 ∙ sym n.1.0 in cc))

  pub one_surface_verdict : (a b : CheckVerdict) → IsSurfaceVerdict r mask revision k a → IsSurfaceVerdict r mask revision k b → a ≡ b
  one_surface_verdict Accepted b p q = absurd p
  one_surface_verdict (Header n) b p q = absurd p
  one_surface_verdict (History n) b p q = absurd p
  one_surface_verdict a Accepted p q = absurd q
  one_surface_verdict a (Header n) p q = absurd q
  one_surface_verdict a (History n) p q = absurd q
  one_surface_verdict (Value t x y) (Value u a b) p q = (let s = same_pixel x y a b (λ e. p.1.unfit (q.1.first x y p.1.across p.1.along e)) (λ e. q.1.unfit (p.1.first a b q.1.across q.1.along e)) in rw (p.0, q.0, s.0, s.1) refl)
  one_surface_verdict (Value t x y) (Tile u a w) p q = absurd (p.1.unfit (q.1.0 x y p.1.across p.1.along))
  one_surface_verdict (Value t x y) (Seams u w) p q = absurd (p.1.unfit (q.1.0.values x y p.1.across p.1.along))
  one_surface_verdict (Value t x y) b p q = absurd (p.1.unfit (q.1.0.tiles.values x y p.1.across p.1.along))
  one_surface_verdict (Tile u a w) (Value t x y) p q = absurd (q.1.unfit (p.1.0 x y q.1.across q.1.along))
  one_surface_verdict (Seams u w) (Value t x y) p q = absurd (q.1.unfit (p.1.0.values x y q.1.across q.1.along))
  one_surface_verdict a (Value t x y) p q = absurd (q.1.unfit (p.1.0.tiles.values x y q.1.across q.1.along))
  one_surface_verdict (Tile t a w) (Tile u b v) p q = (let s = same_tile a b w v p.1.1 q.1.1 in rw (p.0, q.0, s.0, s.1) refl)
  one_surface_verdict (Tile t a w) (Seams u v) p q = absurd (tile_not_passed a w p.1.1 q.1.0)
  one_surface_verdict (Tile t a w) b p q = absurd (tile_not_passed a w p.1.1 q.1.0.tiles)
  one_surface_verdict (Seams u v) (Tile t a w) p q = absurd (tile_not_passed a w q.1.1 p.1.0)
  one_surface_verdict b (Tile t a w) p q = absurd (tile_not_passed a w q.1.1 p.1.0.tiles)
  one_surface_verdict (Seams t v) (Seams u w) p q = rw (p.0, q.0, same_seams v w p.1.1 q.1.1) refl
  one_surface_verdict (Seams t v) b p q = absurd (seams_not_passed v p.1.1 q.1.0.seams)
  one_surface_verdict a (Seams t v) p q = absurd (seams_not_passed v q.1.1 p.1.0.seams)
  one_surface_verdict (TileCost t w c) (TileCost u v d) p q = (let s = same_costs k.tile_cost (tile_costs r mask (surface_shown r k)) w c v d p.1.1 q.1.1 in rw (p.0, q.0, s.0, s.1) refl)
  one_surface_verdict (TileCost t w c) (SeamCost u v d) p q = absurd (not_miscounted k.tile_cost (tile_costs r mask (surface_shown r k)) w c q.1.1.0 p.1.1)
  one_surface_verdict (SeamCost u v d) (TileCost t w c) p q = absurd (not_miscounted k.tile_cost (tile_costs r mask (surface_shown r k)) w c p.1.1.0 q.1.1)
  one_surface_verdict (SeamCost t w c) (SeamCost u v d) p q = (let s = same_costs k.seam_cost (seam_cost r mask (surface_shown r k)) w c v d p.1.1.1 q.1.1.1 in rw (p.0, q.0, s.0, s.1) refl)

-- ---- histories
get_within : {A : Type 0} (xs : List A) (n m : ℕ) → m < n → slice_get (take n xs) m ≡ slice_get xs m
get_within [] zero m l = refl
get_within [] (suc n) m l = refl
get_within (x ∷ xs) zero m l = absurd (omega arith)
get_within (x ∷ xs) (suc n) zero l = refl
get_within (x ∷ xs) (suc n) (suc m) l = get_within xs n m (omega arith)

module _ (s : Session) (H : List Entry) where
  abbrev MayCome : ℕ → Type 0
  MayCome n = MayNotCome s (take n H) (slice_get H n) → ⊥

  comes : (n : ℕ) (o : Option Entry) → slice_get H n ≡ o → ((e : Entry) → slice_get H n ≡ Some e → IsStep s (take n H) e) → (slice_get H n ≡ None → IsComplete s (take n H)) → MayNotCome s (take n H) o → ⊥
  comes n None g step end not = not (end g)
  comes n (Some e) g step end not = not (step e g)

  later_legal : (a b : ℕ) → a < b → IsLegal s (take b H) → (e : Entry) → slice_get H a ≡ Some e → IsStep s (take a H) e
  later_legal a b l legal e g = subst (λ (K : List Entry). IsStep s K e) (take-take a b H (omega (arith, l))) (legal a e (get_within H b a l ∙ g))

  first_break : (n : ℕ) (p : BreaksHistoryAt s H n) → IsFirst MayCome p.before
  first_break n p = (λ c. c p.broken, λ k l. comes k (slice_get H k) refl (later_legal k p.before l p.legal) (λ g. absurd (none_below H k (omega (arith, l, p.some)) g)))

  one_break : (m n : ℕ) → BreaksHistoryAt s H m → BreaksHistoryAt s H n → m ≡ n
  one_break m n p q = omega (arith, p.number, q.number, one_first MayCome p.before q.before (first_break m p) (first_break n q))

  not_broken : (n : ℕ) → BreaksHistoryAt s H n → IsLegal s H → IsComplete s H → ⊥
  not_broken n p legal complete = comes p.before (slice_get H p.before) refl (legal p.before) (λ g. subst (λ (K : List Entry). IsComplete s K) (sym (take_all p.before H (get_none H p.before g))) complete) p.broken

-- ---- reports

module _ (s : Session) (v : ReportOf) where
  abbrev H : List Entry
  H = history_of v

  abbrev IsCertifiedBehind : ℕ → Type 0
  IsCertifiedBehind n = (i : ItemOf) → slice_get v.items n ≡ Some i → IsCertifiedAfter s H i.entry i.surface

  certified_there : (a : CheckVerdict) (p : IsFirstUnfitSurface s v a) → IsCertifiedBehind p.at → ⊥
  certified_there a p c =
      let at = subst (λ (o : Option SurfaceOf). IsCertifiedAt s H p.revision o) p.surface_is (subst (λ (e : Entry). IsCertifiedAfter s H e p.item.surface) p.entry_is (c p.item p.item_is)) in
      unfit_not_good (raster_of s.scene) (mask_in s H p.revision) p.revision p.surface a p.unfit (certified_is_good (raster_of s.scene) (mask_in s H p.revision) p.surface (has_phases s.scene) at.0 at.1)

  first_unfit : (a : CheckVerdict) (p : IsFirstUnfitSurface s v a) → IsFirst IsCertifiedBehind p.at
  first_unfit a p = (certified_there a p, λ k l i. p.before k i l)

  one_unfit : (a b : CheckVerdict) → IsFirstUnfitSurface s v a → IsFirstUnfitSurface s v b → a ≡ b
  one_unfit a b p q =
      let e = one_first IsCertifiedBehind p.at q.at (first_unfit a p) (first_unfit b q) in
      let item : p.item ≡ q.item = cc (e, p.item_is, q.item_is) in
      let revision : p.revision ≡ q.revision = cc (item, p.entry_is, q.entry_is) in
      let surface : p.surface ≡ q.surface = cc (item, p.surface_is, q.surface_is) in
      let other = subst (λ (k : SurfaceOf). IsSurfaceVerdict (raster_of s.scene) (mask_in s H p.revision) p.revision k b) (sym surface) (subst (λ (r : ℕ). IsSurfaceVerdict (raster_of s.scene) (mask_in s H r) r q.surface b) (sym revision) q.unfit) in
      one_surface_verdict (raster_of s.scene) (mask_in s H p.revision) p.revision p.surface a b p.unfit other

  one_verdict : (a b : CheckVerdict) → IsCheckVerdict s v a → IsCheckVerdict s v b → a ≡ b
  one_verdict Accepted Accepted p q = refl
  one_verdict (Header m) (Header n) p q = ap Header (one_difference s v m n p q)
  one_verdict (Header n) Accepted p q = absurd (no_difference s v n (head_of s v q) p)
  one_verdict Accepted (Header n) p q = absurd (no_difference s v n (head_of s v p) q)
  one_verdict (Header n) b p q = absurd (no_difference s v n q.0 p)
  one_verdict a (Header n) p q = absurd (no_difference s v n p.0 q)
  one_verdict (History m) (History n) p q = ap History (one_break s H m n p.1 q.1)
  one_verdict (History n) Accepted p q = absurd (not_broken s H n p.1 q.legal q.complete)
  one_verdict Accepted (History n) p q = absurd (not_broken s H n q.1 p.legal p.complete)
  one_verdict (History n) b p q = absurd (not_broken s H n p.1 q.1.0 q.1.1.0)
  one_verdict a (History n) p q = absurd (not_broken s H n q.1 p.1.0 p.1.1.0)
  one_verdict Accepted b p q = absurd (certified_there b q.1.1.1 (p.surfaces q.1.1.1.at))
  one_verdict a Accepted p q = absurd (certified_there a p.1.1.1 (q.surfaces p.1.1.1.at))
  one_verdict a b p q = one_unfit a b p.1.1.1 q.1.1.1

pub reports_have_one_verdict : ReportsHaveOneVerdict
reports_have_one_verdict = one_verdict

-- what is said of a verdict
pub certified_not_unfit : (s : Session) (v : ReportOf) (a : CheckVerdict) → IsCheckVerdict s v a → IsCertifiedReport s v → a ≡ Accepted
certified_not_unfit s v a p c = one_verdict s v a Accepted p c
