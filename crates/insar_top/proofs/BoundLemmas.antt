-- The least of all between the costs of a report's surface.
use Rattle.std.proofs.Common.{◌≡◌, ◌∙◌, ℕ, ◌+◌, ◌*◌, ◌≤◌, List, [], Option, ap, refl, sym, subst, arith}
use Rattle.std.specs.Prelude.{Bool, ℤ, pos, ◌+ℤ◌, ◌≤ℤ◌, if◌then◌else◌}
use Rattle.std.proofs.lemmas.Int.{ints}
use Rattle.edge_weights.specs.declared.whole.WholeSession.{WholeSession}
use Rattle.grid_writer.specs.Fits.{cycles_shown}
use Rattle.pgm_planes.specs.Planes.{PlaneOf, plane_of}
use Rattle.raster_model.specs.declared.session.Session.{Session}
use Rattle.raster_model.specs.Best.{tiles_cost}
use Rattle.raster_model.specs.Masks.{open_at}
use Rattle.raster_model.specs.declared.edge.Edge.{Edge}
use Rattle.raster_model.specs.Raster.{Raster, IsCongruent, departure, edge_cost, lifted, seam_cost, steps}
use Rattle.raster_model.specs.Scene.{raster_of}
use Rattle.raster_model.specs.Sums.{Field}
use Rattle.raster_model.proofs.MaskAgrees.{same_ends}
use Rattle.raster_model.proofs.SeamLeast.{certified_is_best}
use Rattle.raster_model.proofs.SumLemmas.{sum_edges-same}
use Rattle.sums_and_lists.specs.Sums.{where_true}
use Rattle.tile_board.specs.Histories.{mask_in}
use Rattle.tile_board.specs.declared.entry.Entry.{Entry}
use Rattle.report_text.specs.Certified.{IsCertifiedAfter, IsCertifiedAt, IsCertifiedSurface, history_of}
use Rattle.report_text.specs.Reports.{SurfaceOf}
use Rattle.answer_lines.proofs.SummaryLemmas.{costs_are, first_is}
use Rattle.raster_model.specs.Whole.{IsLeastOfAll, whole_cost, whole_of}
use Rattle.raster_model.proofs.Whole.{best_bounds_the_least_of_all}
use Rattle.raster_model.proofs.Windows.{scenes_have_tiles}
use Rattle.session_script.specs.declared.session_use.SessionUse.TheVariants.{Alone}
use Rattle.session_script.specs.Laws.{TiledSessionIsWhole}
use Rattle.session_script.specs.Layouts.{as_whole}
use Rattle.session_script.specs.Sessions.{IsSameSession, session_of, whole_session_of}
use Rattle.session_script.proofs.SessionAgain.{one_laid}
use Rattle.text_parts.specs.Terms.{terms_of}
use Rattle.whole_text.specs.Text.{WholeOf}
use Rattle.insar_words.specs.Asked.{Options}
use Rattle.insar_commands.specs.Unwrap.{IsGiven}
use Rattle.insar_commands.specs.Whole.{IsWholeGiven, IsWholeOf, MasksAgree, ReportsBoundTheLeast, TheFirstMaskIsThatOfRevision0, raster_laid, whole_task}
use Rattle.insar_commands.proofs.WholeLemmas.{rasters_alike}

between : (tiles seams cost : ℕ) (x y z : ℤ) → pos tiles ≡ x → pos seams ≡ y → pos cost ≡ z → x ≤ℤ z → z ≤ℤ (x +ℤ y) → (tiles ≤ cost) × (cost ≤ tiles + seams)
between tiles seams cost x y z p q e from to = (omega (arith, ints, p, e, from), omega (arith, ints, p, q, e, to))

-- ---- under masks that agree on the raster the same surfaces are congruent and cost the same
module _ (r : Raster) (m n : Field Bool) (same : MasksAgree r m n) where
  congruent_too : (S : Field ℤ) → IsCongruent r m S → IsCongruent r n S
  congruent_too S c x y wide high unmasked = c x y wide high (same x y wide high ∙ unmasked)

  edge_cost_by : Field ℤ → Edge → Bool → ℤ
  edge_cost_by S e both = where_true both (pos ((if both then r.weight e else 0) * steps r.steep (departure r S e)))

  cost_too : (S : Field ℤ) → whole_cost r m S ≡ whole_cost r n S
  unfolding whole_cost edge_cost_by
  cost_too S = sum_edges-same r.width r.height (edge_cost r m S) (edge_cost r n S) (λ e i. ap (edge_cost_by S e) (same_ends r m n same e i))

least_too : (r : Raster) (m n : Field Bool) (S : Field ℤ) → MasksAgree r m n → IsLeastOfAll r n S → IsLeastOfAll r m S
least_too r m n S same is =
    let back : MasksAgree r n m = λ x y wide high. sym (same x y wide high) in
    record {
      congruent = congruent_too r n m back S is.congruent;
      least = λ S' c. subst (λ (z : ℤ). z ≤ℤ whole_cost r m S') (cost_too r n m back S) (subst (λ (z : ℤ). whole_cost r n S ≤ℤ z) (cost_too r n m back S') (is.least S' (congruent_too r m n same S' c)));
    }

-- ---- a raster as one tile
module _ (r : Raster) (mask : Field Bool) (S : Field ℤ) where
  same_cost : whole_cost (whole_of r) mask S ≡ whole_cost r mask S
  unfolding whole_cost
  same_cost = refl

  least_over : IsLeastOfAll (whole_of r) mask S → IsLeastOfAll r mask S
  unfolding whole_cost
  least_over l = record { congruent = l.congruent; least = l.least }

-- ---- a session in tiles, and one without that the same bytes spell
module _ (tiled : TiledSessionIsWhole) (options : Options) (bytes : List ℕ) (s : Session) (t : WholeSession) (given : IsGiven options bytes s) (whole : IsWholeGiven options bytes t) where
  same : IsSameSession (session_of s) (whole_session_of t)
  same = (one_laid Alone as_whole bytes (session_of s) (whole_session_of t) [] [] (tiled Alone options.side bytes (session_of s) [] given.spelled) whole.spelled).0

  same_terms : terms_of s.scene.terms ≡ terms_of t.scene.terms
  same_terms = λ i. record { ramp_x = (given.options_are.ramp_x ∙ sym whole.options_are.ramp_x) i; ramp_y = (given.options_are.ramp_y ∙ sym whole.options_are.ramp_y) i; steep = (given.options_are.steepness ∙ sym whole.options_are.steepness) i }

  same_raster : whole_of (raster_of s.scene) ≡ raster_laid t.scene
  same_raster = rasters_alike (plane_of s.scene.phase) (plane_of s.scene.weights) s.scene.rule (terms_of s.scene.terms) (plane_of t.scene.phase) (plane_of t.scene.weights) t.scene.rule (terms_of t.scene.terms) same.phase same.weights (given.options_are.rule ∙ sym whole.options_are.rule) same_terms

  same_mask : MasksAgree (raster_of s.scene) (open_at s.first_mask) (open_at t.first_mask)
  same_mask x y across along =
      let width = ap (λ (p : PlaneOf). p.width) same.phase in
      let height = ap (λ (p : PlaneOf). p.height) same.phase in
      same.mask.clear_at x y (rw (← width) across) (rw (← height) along)

  -- what is least of all for the one is so for the other
  module _ (w : WholeOf) (told : IsWholeOf (whole_task t) w) where
    abbrev shown : Raster → Field ℤ
    shown r = lifted r (cycles_shown w.values)

    least_here : IsLeastOfAll (raster_of s.scene) (open_at t.first_mask) (shown (raster_of s.scene))
    least_here = least_over (raster_of s.scene) (open_at t.first_mask) (shown (raster_of s.scene)) (subst (λ (r : Raster). IsLeastOfAll r (open_at t.first_mask) (shown r)) (sym same_raster) told.least)

    cost_here : pos w.cost ≡ whole_cost (raster_of s.scene) (open_at t.first_mask) (shown (raster_of s.scene))
    cost_here = subst (λ (r : Raster). pos w.cost ≡ whole_cost r (open_at t.first_mask) (shown r)) (sym same_raster) told.certified.cost ∙ same_cost (raster_of s.scene) (open_at t.first_mask) (shown (raster_of s.scene))

pub reports_bound_the_least : TiledSessionIsWhole → ReportsBoundTheLeast
reports_bound_the_least tiled options bytes s t v w at analyst revision i k given whole reported got published behind agree told =
    let r : Raster = raster_of s.scene in
    let m : Field Bool = mask_in s (history_of v) revision in
    let n : Field Bool = open_at t.first_mask in
    let S : Field ℤ = shown tiled options bytes s t given whole w told r in
    let alike : MasksAgree r m n = λ x y wide high. agree x y wide high ∙ same_mask tiled options bytes s t given whole x y wide high in
    let after : IsCertifiedAfter s (history_of v) i.entry i.surface = reported.certified.surfaces at i got in
    let there = subst (λ (e : Entry). IsCertifiedAfter s (history_of v) e i.surface) published after in
    let here = subst (λ (o : Option SurfaceOf). IsCertifiedAt s (history_of v) revision o) behind there in
    let c : IsCertifiedSurface r m k here.0 = here.1 in
    let best = certified_is_best r m here.0 k.faces k.flows (record { congruent = c.congruent; tiles = c.tiles; seams = c.seams }) in
    let bound = best_bounds_the_least_of_all r m here.0 S (scenes_have_tiles s.scene) best (least_too r m n S alike (least_here tiled options bytes s t given whole w told)) in
    between k.tile_cost k.seam_cost w.cost (tiles_cost r m here.0) (seam_cost r m here.0) (whole_cost r m S) (c.tile_cost ∙ costs_are r m here.0) c.seam_cost_is (cost_here tiled options bytes s t given whole w told ∙ sym (cost_too r m n alike S)) bound.from bound.to

pub first_mask_is_that_of_0 : TheFirstMaskIsThatOfRevision0
first_mask_is_that_of_0 s v x y wide high = ap (λ (mask : Field Bool). mask x y) (first_is s (history_of v))
