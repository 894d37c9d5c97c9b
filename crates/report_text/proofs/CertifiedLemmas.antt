-- The report of a board whose history is complete is certified, and each surface of a certified report is the best.
use Rattle.std.proofs.Common.{◌≡◌, ℕ, zero, suc, ◌<◌, ◌∙◌, List, [], ◌∷◌, Bool, Option, Some, None, map, refl, sym, ap, subst, arith}
use Rattle.std.proofs.lemmas.Int.{ints}
use Rattle.std.specs.Prelude.{ℤ, pos, negsuc, ◌≤ℤ◌, IsTrue, if◌then◌else◌, filter_map, slice_get, unsigned_abs}
use Rattle.raster_model.specs.declared.session.Session.{Session}
use Rattle.raster_model.specs.Raster.{Raster, seam_cost, tile_cost}
use Rattle.raster_model.specs.Scene.{raster_of}
use Rattle.raster_model.specs.Sums.{Field}
use Rattle.raster_model.proofs.Exact.{lifted_is_congruent}
use Rattle.raster_model.proofs.Flat.{seam_cost-not_below, tile_cost-not_below}
use Rattle.raster_model.proofs.SeamLeast.{certified_is_best}
use Rattle.surface_snapshots.specs.Parts.{AreGoodTiles, Parts, cycles_in_parts, faces_in, flows_in, open_in, raster_in, surface_in, tile_costs}
use Rattle.surface_snapshots.proofs.CallerLemmas.{value_is_told}
use Rattle.surface_snapshots.proofs.SameLemmas.{anchored_too, same_seam_cost, same_tile_costs, seams_too, tile_too}
use Rattle.grid_writer.specs.Shown.{shown_value}
use Rattle.grid_writer.specs.Values.{no_data}
use Rattle.tile_board.specs.declared.entry.Entry.{Entry}
use Rattle.tile_board.specs.declared.entry.Entry.TheVariants.{Published}
use Rattle.tile_board.specs.BoardView.{BoardView}
use Rattle.tile_board.specs.Boards.{IsBoard, IsSurfaceOf}
use Rattle.tile_board.specs.Histories.{IsComplete, mask_in, published_of}
use Rattle.report_text.specs.Certified.{CertifiedReportsAreBest, IsBestAt, IsCertifiedAt, IsCertifiedAfter, IsCertifiedReport, IsCertifiedSurface, history_of}
use Rattle.report_text.specs.Reports.{ItemOf, SurfaceOf, items_of, report_of, surface_of}
use Rattle.report_text.proofs.ItemsLemmas.{all_get}
use Rattle.std.specs.List.{AllByRecursion}
use Rattle.sums_and_lists.specs.Sums.{sum_below}

-- the items' entries are the history
entries_again : (es : List Entry) (ps : List Parts) → map (λ (i : ItemOf). i.entry) (items_of es ps) ≡ es
unfolding items_of
entries_again [] ps = refl
entries_again (e ∷ es) ps = ap (λ (l : List Entry). e ∷ l) (entries_again es _)

cost_is : (z : ℤ) → pos 0 ≤ℤ z → pos (unsigned_abs z) ≡ z
cost_is (pos n) le = refl
cost_is (negsuc n) le = absurd (omega (arith, ints, le))

costs_not_below : (n : ℕ) (f : ℕ → ℤ) → ((t : ℕ) → pos 0 ≤ℤ f t) → pos 0 ≤ℤ sum_below n f
unfolding sum_below
costs_not_below zero f le = omega (arith, ints)
costs_not_below (suc n) f le = omega (arith, ints, costs_not_below n f le, le n)

tile_costs-not_below : (r : Raster) (mask : Field Bool) (S : Field ℤ) → pos 0 ≤ℤ tile_costs r mask S
unfolding tile_costs
tile_costs-not_below r mask S = costs_not_below r.tile_count (λ t. tile_cost r mask t S) (λ t. tile_cost-not_below r mask t S)

shown_either : (b c : Bool) (z : ℤ) → b ≡ c → shown_value (if b then Some z else None) ≡ (if c then z else no_data)
shown_either b c z e = grind arith

-- a surface of a revision is certified there
module _ (s : Session) (H : List Entry) (p : Parts) (is : IsSurfaceOf s H p) where
  abbrev mask : Field Bool
  mask = mask_in s H p.seams.revision

  same : (x y : ℕ) → x < (raster_in p).width → y < (raster_in p).height → open_in p x y ≡ mask x y
  same x y l h = is.mask.clear_at x y (subst (λ (t : Session). x < t.scene.phase.width) is.session l) (subst (λ (t : Session). y < t.scene.phase.height) is.session h)

  tiles : AreGoodTiles p.session.scene (open_in p) p.tiles.results
  tiles = subst (λ (t : Session). AreGoodTiles t.scene (open_in p) p.tiles.results) (sym is.session) is.tiles

  in_its_raster : IsCertifiedSurface (raster_in p) mask (surface_of p) (surface_in p)
  in_its_raster = record {
    shows = record {
      shown = λ x y l h. shown_either (open_in p x y) (mask x y) (surface_in p x y) (same x y l h);
      told = λ x y l h clear e.
          let here : IsTrue (open_in p x y) = same x y l h ∙ clear in
          value_is_told p tiles is.verdict.1 x y l h here (sym (shown_either (open_in p x y) Bool.true (surface_in p x y) here) ∙ e);
    };
    congruent = lifted_is_congruent (raster_in p) mask (cycles_in_parts p);
    anchored = anchored_too (raster_in p) (open_in p) mask same (surface_in p) (surface_in p) (λ x y l h t. refl) is.published.anchored;
    tiles = λ t below. tile_too (raster_in p) (open_in p) mask same (surface_in p) (surface_in p) (λ x y l h t. refl) t (faces_in p t) (is.published.tiles t below);
    seams = seams_too (raster_in p) (open_in p) mask same (surface_in p) (surface_in p) (λ x y l h t. refl) (flows_in p) is.published.seams;
    tile_cost = cost_is (tile_costs (raster_in p) (open_in p) (surface_in p)) (tile_costs-not_below (raster_in p) (open_in p) (surface_in p)) ∙ same_tile_costs (raster_in p) (open_in p) mask same (surface_in p) (surface_in p) (λ x y l h t. refl);
    seam_cost_is = cost_is (seam_cost (raster_in p) (open_in p) (surface_in p)) (seam_cost-not_below (raster_in p) (open_in p) (surface_in p)) ∙ same_seam_cost (raster_in p) (open_in p) mask same (surface_in p) (surface_in p) (λ x y l h t. refl);
  }

  pub surface_is_certified : IsCertifiedSurface (raster_of s.scene) mask (surface_of p) (surface_in p)
  surface_is_certified = subst (λ (t : Session). IsCertifiedSurface (raster_of t.scene) mask (surface_of p) (surface_in p)) is.session in_its_raster

-- the items are certified
items_certified : (s : Session) (H es : List Entry) (ps : List Parts) → map (λ (p : Parts). p.seams.revision) ps ≡ filter_map published_of es → ((j : ℕ) (p : Parts) → slice_get ps j ≡ Some p → IsSurfaceOf s H p) → AllByRecursion (λ (i : ItemOf). IsCertifiedAfter s H i.entry i.surface) (items_of es ps)
unfolding items_of
items_certified s H [] ps told each = tt
items_certified s H (Published a r ∷ es) [] told each = absurd (cc)
items_certified s H (Published a r ∷ es) (p ∷ ps) told each = (
  (surface_in p, subst (λ (n : ℕ). IsCertifiedSurface (raster_of s.scene) (mask_in s H n) (surface_of p) (surface_in p)) (let e : p.seams.revision ≡ r = cc in e) (surface_is_certified s H p (each 0 p refl))),
  items_certified s H es ps (let e : map (λ (q : Parts). q.seams.revision) ps ≡ filter_map published_of es = cc in e) (λ j q at. each (suc j) q at),
)
items_certified s H (e ∷ es) ps told each = (refl, items_certified s H es ps told each)

-- the report of a board whose history is complete is certified
pub board_is_certified : (v : BoardView) → IsBoard v → IsComplete v.session v.entries → IsCertifiedReport v.session (report_of v.session v.entries v.surfaces)
board_is_certified v is complete = record {
  width = refl;
  height = refl;
  side = refl;
  rule = refl;
  terms = refl;
  legal = rw (entries_again v.entries v.surfaces) is.legal;
  complete = rw (entries_again v.entries v.surfaces) complete;
  surfaces = rw (entries_again v.entries v.surfaces) (all_get (λ (i : ItemOf). IsCertifiedAfter v.session v.entries i.entry i.surface) (items_of v.entries v.surfaces) (items_certified v.session v.entries v.entries v.surfaces is.surfaces.revisions is.surfaces.each));
}

-- each published surface of a certified report is the best at the mask of its revision
behind_published : (s : Session) (H : List Entry) (e : Entry) (behind : Option SurfaceOf) (a r : ℕ) → e ≡ Published a r → IsCertifiedAfter s H e behind → IsCertifiedAt s H r behind
behind_published s H e behind a r is c = subst (λ (x : Entry). IsCertifiedAfter s H x behind) is c

best_at : (s : Session) (H : List Entry) (r : ℕ) (behind : Option SurfaceOf) → IsCertifiedAt s H r behind → IsBestAt s H r behind
best_at s H r None c = c
best_at s H r (Some k) c = (c.0, c.1.shows, certified_is_best (raster_of s.scene) (mask_in s H r) c.0 k.faces k.flows (record { congruent = c.1.congruent; tiles = c.1.tiles; seams = c.1.seams }))

pub certified_reports_are_best : CertifiedReportsAreBest
certified_reports_are_best s v is k i a r at e = best_at s (history_of v) r i.surface (behind_published s (history_of v) i.entry i.surface a r e (is.surfaces k i at))
