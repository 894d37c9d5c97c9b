-- Whole surfaces that tell the same have the same verdicts for tasks that are the same.
use Rattle.std.proofs.Common.{◌≡◌, ◌∙◌, ℕ, ◌*◌, ◌<◌, ◌≤◌, List, [], sym, ap, subst, arith}
use Rattle.std.specs.Prelude.{Bool, ℤ, ◌≢◌, ◌+ℤ◌, ◌*ℤ◌, pos, IsTrue, if◌then◌else◌, unsigned_abs, ⊤}
use Rattle.std.specs.Int.{int_div_euclid}
use Rattle.std.proofs.lemmas.Bool.{and_parts}
use Rattle.raster_model.specs.declared.edge.Edge.{Edge}
use Rattle.raster_model.specs.Cells.{face_at}
use Rattle.raster_model.specs.Certificates.{FacesFit, IsTileEdge, face_bound, face_difference, faces_of_tile}
use Rattle.raster_model.specs.Raster.{Raster, has_open_ends, is_inner, lifted}
use Rattle.raster_model.specs.Seams.{IsAnchored}
use Rattle.raster_model.specs.Sums.{Field, is_edge}
use Rattle.raster_model.proofs.Exact.{lifted_is_congruent}
use Rattle.raster_model.proofs.MaskAgrees.{first_open_too, same_ends}
use Rattle.certificates.specs.Verdicts.{AllFacesFit, IsFirstUnfit}
use Rattle.surface_snapshots.proofs.SameLemmas.{anchored_too, same_face_bound, same_tile_cost, tile_too}
use Rattle.grid_writer.specs.Fits.{AllValuesFit, FitsPhase, ValueFits, cycles_shown}
use Rattle.report_check.proofs.HeadLemmas.{numbers_alike}
use Rattle.raster_model.specs.Whole.{IsCertifiedWhole, whole_cost, whole_of}
use Rattle.raster_model.proofs.Whole.{whole_tile_cost}
use Rattle.whole_text.specs.Reading.{IsSameWhole}
use Rattle.whole_text.specs.Text.{WholeOf}
use Rattle.whole_text.specs.Told.{WholeTask}
use Rattle.whole_check.specs.declared.verdict.WholeVerdict.{WholeVerdict}
use Rattle.whole_check.specs.declared.verdict.WholeVerdict.TheVariants.{Accepted, Header, Value, Face, Cost, Told}
use Rattle.whole_check.specs.Verdicts.{AllValuesStand, HasWholeHead, IsFirstFalseValue, IsWholeVerdict, ValueStands, WholeDiffersAt}

-- the faces of the whole raster fit at an edge, under a mask with the same open ends
fits_too : (r : Raster) (m n : Field Bool) (faces : List ℤ) (e : Edge) → has_open_ends m e ≡ has_open_ends n e → FacesFit r m 0 (face_at r 0 faces) e → FacesFit r n 0 (face_at r 0 faces) e
fits_too r m n faces e same h = subst (λ (b : Bool). unsigned_abs (face_difference (faces_of_tile r 0 (face_at r 0 faces)) e) ≤ r.steep * (if b then r.weight e else 0)) same h

-- ---- under two masks that agree on a raster, with values that do

module _ (r : Raster) (m n : Field Bool) (same : (x y : ℕ) → x < r.width → y < r.height → m x y ≡ n x y) (values others : Field ℤ) (equal : (x y : ℕ) → x < r.width → y < r.height → values x y ≡ others x y) where
  abbrev S : Field ℤ
  S = lifted r (cycles_shown values)

  abbrev T : Field ℤ
  T = lifted r (cycles_shown others)

  agree : (x y : ℕ) → x < r.width → y < r.height → IsTrue (m x y) → S x y ≡ T x y
  agree x y l h o = ap (λ (z : ℤ). pos (r.phase x y) +ℤ pos 65536 *ℤ int_div_euclid z (pos 65536)) (equal x y l h)

  fit_too : (x y : ℕ) → x < r.width → y < r.height → ValueFits r m values x y → ValueFits r n others x y
  fit_too x y l h f = record { masked = λ o. sym (equal x y l h) ∙ f.masked (same x y l h ∙ o); unmasked = λ o. subst (FitsPhase (r.phase x y)) (equal x y l h) (f.unmasked (same x y l h ∙ o)) }

  stands_too : (x y : ℕ) → x < r.width → y < r.height → ValueStands r m values x y → ValueStands r n others x y
  stands_too x y l h v = record { fits = fit_too x y l h v.fits; anchored = λ first. sym (equal x y l h) ∙ v.anchored (first_open_too r n m (λ a b i j. sym (same a b i j)) x y first) }

  all_stand_too : AllValuesStand r m values → AllValuesStand r n others
  all_stand_too all x y l h = stands_too x y l h (all x y l h)

  whole_too : (faces : List ℤ) → IsCertifiedWhole r m S faces → IsCertifiedWhole r n T faces
  whole_too faces c = record { congruent = lifted_is_congruent r n (cycles_shown others); certified = tile_too (whole_of r) m n same S T agree 0 faces c.certified }

  cost_too : whole_cost r m S ≡ whole_cost r n T
  cost_too = sym (whole_tile_cost r m S) ∙ same_tile_cost (whole_of r) m n same S T agree 0 ∙ whole_tile_cost r n T

  bound_too : (f : Field ℤ) → face_bound (whole_of r) m 0 f ≡ face_bound (whole_of r) n 0 f
  bound_too f = same_face_bound (whole_of r) m n same S T agree 0 f

  edge_ends : (e : Edge) → IsTileEdge (whole_of r) 0 e → has_open_ends m e ≡ has_open_ends n e
  edge_ends e i = same_ends r m n same e (and_parts (is_edge r.width r.height e) (is_inner (whole_of r) 0 e) i).0

  faces_fit_too : (faces : List ℤ) → AllFacesFit (whole_of r) m 0 (face_at (whole_of r) 0 faces) → AllFacesFit (whole_of r) n 0 (face_at (whole_of r) 0 faces)
  faces_fit_too faces all e i = fits_too (whole_of r) m n faces e (edge_ends e i) (all e i)

  unfit_too : (faces : List ℤ) (e : Edge) → IsFirstUnfit (whole_of r) m 0 (face_at (whole_of r) 0 faces) e → IsFirstUnfit (whole_of r) n 0 (face_at (whole_of r) 0 faces) e
  unfit_too faces e u = record {
    edge = u.edge;
    breaks = λ k. u.breaks (fits_too (whole_of r) n m faces e (sym (edge_ends e u.edge)) k);
    first = λ d i b. fits_too (whole_of r) m n faces d (edge_ends d i) (u.first d i b);
  }

-- ---- what is said after the head

abbrev Says : Raster → Field Bool → WholeOf → WholeVerdict → Type 0
Says r m w Accepted = AllValuesFit r m w.values × (IsAnchored r m (lifted r (cycles_shown w.values)) × (IsCertifiedWhole r m (lifted r (cycles_shown w.values)) w.faces × (pos w.cost ≡ whole_cost r m (lifted r (cycles_shown w.values)))))
Says r m w (Header k) = ⊤
Says r m w (Value x y) = IsFirstFalseValue r m w.values x y
Says r m w (Face e) = AllValuesStand r m w.values × IsFirstUnfit (whole_of r) m 0 (face_at (whole_of r) 0 w.faces) e
Says r m w (Cost cost bound) = AllValuesStand r m w.values × (AllFacesFit (whole_of r) m 0 (face_at (whole_of r) 0 w.faces) × ((pos cost ≡ whole_cost r m (lifted r (cycles_shown w.values))) × ((bound ≡ face_bound (whole_of r) m 0 (face_at (whole_of r) 0 w.faces)) × (bound ≢ pos cost))))
Says r m w (Told written counted) = AllValuesStand r m w.values × (IsCertifiedWhole r m (lifted r (cycles_shown w.values)) w.faces × ((written ≡ w.cost) × ((pos counted ≡ whole_cost r m (lifted r (cycles_shown w.values))) × (written ≢ counted))))

module _ (r : Raster) (m n : Field Bool) (same : (x y : ℕ) → x < r.width → y < r.height → m x y ≡ n x y) (v w : WholeOf) (equal : (x y : ℕ) → x < r.width → y < r.height → v.values x y ≡ w.values x y) (faces : v.faces ≡ w.faces) (told : v.cost ≡ w.cost) where
  stood : AllValuesStand r m v.values → AllValuesStand r n w.values
  stood = all_stand_too r m n same v.values w.values equal

  certified : IsCertifiedWhole r m (lifted r (cycles_shown v.values)) v.faces → IsCertifiedWhole r n (lifted r (cycles_shown w.values)) w.faces
  certified c = subst (λ (f : List ℤ). IsCertifiedWhole r n (lifted r (cycles_shown w.values)) f) faces (whole_too r m n same v.values w.values equal v.faces c)

  cost : whole_cost r m (lifted r (cycles_shown v.values)) ≡ whole_cost r n (lifted r (cycles_shown w.values))
  cost = cost_too r m n same v.values w.values equal

  says_too : (verdict : WholeVerdict) → Says r m v verdict → Says r n w verdict
  says_too Accepted h = (
    λ x y l k. fit_too r m n same v.values w.values equal x y l k (h.0 x y l k),
    (
      anchored_too r m n same (lifted r (cycles_shown v.values)) (lifted r (cycles_shown w.values)) (agree r m n same v.values w.values equal) h.1.0,
      (certified h.1.1.0, ap pos (sym told) ∙ h.1.1.1 ∙ cost),
    ),
  )
  says_too (Header k) h = tt
  says_too (Value x y) h = record {
    across = h.across;
    along = h.along;
    wrong = λ s. h.wrong (stands_too r n m (λ a b i j. sym (same a b i j)) w.values v.values (λ a b i j. sym (equal a b i j)) x y h.across h.along s);
    first = λ a b i j e. stands_too r m n same v.values w.values equal a b i j (h.first a b i j e);
  }
  says_too (Face e) h = (stood h.0, subst (λ (f : List ℤ). IsFirstUnfit (whole_of r) n 0 (face_at (whole_of r) 0 f) e) faces (unfit_too r m n same v.values w.values equal v.faces e h.1))
  says_too (Cost c bound) h = (
    stood h.0,
    (
      subst (λ (f : List ℤ). AllFacesFit (whole_of r) n 0 (face_at (whole_of r) 0 f)) faces (faces_fit_too r m n same v.values w.values equal v.faces h.1.0),
      (
        h.1.1.0 ∙ cost,
        (
          h.1.1.1.0 ∙ bound_too r m n same v.values w.values equal (face_at (whole_of r) 0 v.faces) ∙ ap (λ (f : List ℤ). face_bound (whole_of r) n 0 (face_at (whole_of r) 0 f)) faces,
          h.1.1.1.1,
        ),
      ),
    ),
  )
  says_too (Told written counted) h = (stood h.0, (certified h.1.0, (h.1.1.0 ∙ told, (h.1.1.1.0 ∙ cost, h.1.1.1.1))))

-- ---- tasks that are the same

module _ (t u : WholeTask) (raster : t.raster ≡ u.raster) (rule : t.rule ≡ u.rule) (terms : t.terms ≡ u.terms) (unmasked : (x y : ℕ) → x < t.raster.width → y < t.raster.height → t.mask x y ≡ u.mask x y) (v w : WholeOf) (equal : IsSameWhole v w) where
  wide : t.raster.width ≡ u.raster.width
  wide = ap (λ (r : Raster). r.width) raster

  high : t.raster.height ≡ u.raster.height
  high = ap (λ (r : Raster). r.height) raster

  head_too : HasWholeHead t v → HasWholeHead u w
  head_too h =
      let one = numbers_alike equal.terms in
      let other = numbers_alike terms in
      record {
        size = (sym equal.width ∙ h.size.0 ∙ wide, sym equal.height ∙ h.size.1 ∙ high);
        rule = sym equal.rule ∙ h.rule ∙ rule;
        ramp = (sym one.0 ∙ h.ramp.0 ∙ other.0, sym one.1 ∙ h.ramp.1 ∙ other.1);
        steepness = sym one.2 ∙ h.steepness ∙ other.2;
      }

  differs_too : (k : ℕ) → WholeDiffersAt t v k → WholeDiffersAt u w k
  differs_too k d = rw (equal.width, equal.height, equal.rule, equal.terms, wide, high, rule, terms) at d

  said_too : HasWholeHead t v → (verdict : WholeVerdict) → Says t.raster t.mask v verdict → Says u.raster u.mask w verdict
  said_too h verdict says =
      let r = t.raster in
      let values : (x y : ℕ) → x < r.width → y < r.height → v.values x y ≡ w.values x y = λ x y l k. equal.values x y (omega (arith, l, h.size.0)) (omega (arith, k, h.size.1)) in
      let here = says_too r t.mask u.mask unmasked v w values equal.faces equal.cost verdict says in
      subst (λ (q : Raster). Says q u.mask w verdict) raster here

  pub whole_verdict_too : (verdict : WholeVerdict) → IsWholeVerdict t v verdict → IsWholeVerdict u w verdict
  whole_verdict_too Accepted h =
      let k = said_too h.head Accepted (h.values, (h.anchored, (h.certified, h.cost))) in
      record { head = head_too h.head; values = k.0; anchored = k.1.0; certified = k.1.1.0; cost = k.1.1.1 }
  whole_verdict_too (Header n) h = differs_too n h
  whole_verdict_too (Value x y) h = (head_too h.0, said_too h.0 (Value x y) h.1)
  whole_verdict_too (Face e) h = (let k = said_too h.0.0 (Face e) (h.0.1, h.1) in ((head_too h.0.0, k.0), k.1))
  whole_verdict_too (Cost cost bound) h = (let k = said_too h.0.0 (Cost cost bound) (h.0.1, h.1) in ((head_too h.0.0, k.0), k.1))
  whole_verdict_too (Told written counted) h = (let k = said_too h.0.0 (Told written counted) (h.0.1, h.1) in ((head_too h.0.0, k.0), k.1))
