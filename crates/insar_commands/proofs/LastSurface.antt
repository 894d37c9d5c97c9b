-- The last surface of a report: that of the newest snapshot, and the best at the newest published revision.
use Rattle.std.proofs.Common.{◌≡◌, ◌∙◌, ℕ, suc, List, [], ◌∷◌, Option, Some, None, map, refl, sym, ap, subst}
use Rattle.std.specs.Prelude.{option_map, filter_map, slice_get, ⊤}
use Rattle.std.specs.List.{cons_option, last_or}
use Rattle.raster_model.specs.declared.session.Session.{Session}
use Rattle.surface_snapshots.specs.Parts.{Parts}
use Rattle.surface_snapshots.specs.Views.{parts_of}
use Rattle.surface_snapshots.specs.declared.snapshot.Snapshot.{Snapshot}
use Rattle.grid_writer.specs.Grid.{grid_text}
use Rattle.grid_writer.specs.Grids.{IsGrid}
use Rattle.grid_writer.specs.Shown.{shown_grid, shown_in, text_of}
use Rattle.tile_board.specs.declared.entry.Entry.{Entry}
use Rattle.tile_board.specs.declared.entry.Entry.TheVariants.{Published}
use Rattle.tile_board.specs.BoardView.{BoardView}
use Rattle.tile_board.specs.Boards.{IsBoard}
use Rattle.tile_board.specs.Histories.{published_in, published_of}
use Rattle.tile_board.proofs.NewestSurface.{last_is, last_map, newest_snapshot, newest_there}
use Rattle.report_text.specs.Certified.{IsBestAt, IsCertifiedAfter, history_of}
use Rattle.report_text.specs.Reports.{ItemOf, ReportOf, SurfaceOf, items_of, report_of, surface_of}
use Rattle.insar_commands.specs.Grid.{IsBestIfAny, IsSurfaceGrid, LastSurfacesAreBest, last_grid, last_surface, surface_grid, surfaces_of}

-- ---- the surfaces of a board's report are those of its snapshots

surfaces_are : (es : List Entry) (ps : List Parts) → map (λ (p : Parts). p.seams.revision) ps ≡ filter_map published_of es → filter_map (λ (i : ItemOf). i.surface) (items_of es ps) ≡ map surface_of ps
unfolding items_of
surfaces_are [] [] told = refl
surfaces_are [] (p ∷ ps) told = absurd (cc)
surfaces_are (Published a r ∷ es) [] told = absurd (cc)
surfaces_are (Published a r ∷ es) (p ∷ ps) told =
    ap (λ (ks : List SurfaceOf). surface_of p ∷ ks) (surfaces_are es ps (let e : map (λ (q : Parts). q.seams.revision) ps ≡ filter_map published_of es = cc in e))
surfaces_are (e ∷ es) ps told = surfaces_are es ps told

module _ (v : BoardView) (snapshots : List Snapshot) (same : map parts_of snapshots ≡ v.surfaces) (board : IsBoard v) where
  abbrev report : ReportOf
  report = report_of v.session v.entries v.surfaces

  surface_is : last_surface report ≡ option_map surface_of (option_map parts_of (newest_snapshot snapshots))
  surface_is =
      ap (last_or None) (surfaces_are v.entries v.surfaces board.surfaces.revisions)
      ∙ last_map surface_of None v.surfaces
      ∙ ap (λ (ps : List Parts). option_map surface_of (last_or None ps)) (sym same)
      ∙ ap (option_map surface_of) (last_map parts_of None snapshots)
      ∙ ap (λ (o : Option Snapshot). option_map surface_of (option_map parts_of o)) (sym (last_is snapshots))

  pub last_text : (n : Snapshot) → newest_snapshot snapshots ≡ Some n → text_of (parts_of n) ≡ last_grid report
  unfolding last_grid
  last_text n at =
      ap (λ (s : Session). grid_text s.scene.phase.width s.scene.phase.height (shown_in (parts_of n))) (newest_there v snapshots same board n at).session
      ∙ sym (ap (surface_grid v.session.scene.phase.width v.session.scene.phase.height) (surface_is ∙ ap (λ (o : Option Snapshot). option_map surface_of (option_map parts_of o)) at))

  pub no_text : newest_snapshot snapshots ≡ None → [] ≡ last_grid report
  unfolding last_grid
  no_text at = sym (ap (surface_grid v.session.scene.phase.width v.session.scene.phase.height) (surface_is ∙ ap (λ (o : Option Snapshot). option_map surface_of (option_map parts_of o)) at))

  -- and its numbers are in range
  pub last_in_range : (n : Snapshot) → newest_snapshot snapshots ≡ Some n → IsGrid (shown_grid (parts_of n)) → IsSurfaceGrid report.width report.height (last_surface report)
  last_in_range n at fits =
      rw (surface_is ∙ ap (λ (o : Option Snapshot). option_map surface_of (option_map parts_of o)) at)
      (subst (λ (s : Session). IsGrid (record { width = s.scene.phase.width; height = s.scene.phase.height; values = shown_in (parts_of n) })) (newest_there v snapshots same board n at).session fits)

  pub none_in_range : newest_snapshot snapshots ≡ None → IsSurfaceGrid report.width report.height (last_surface report)
  none_in_range at = rw (surface_is ∙ ap (λ (o : Option Snapshot). option_map surface_of (option_map parts_of o)) at) tt

-- ---- the last surface is the best

-- each surface is the best at the revision beside it, and there are as many as revisions
abbrev AreBest : Session → List Entry → List ℕ → List SurfaceOf → Type 0
AreBest s H [] [] = ⊤
AreBest s H [] (k ∷ ks) = ⊥
AreBest s H (r ∷ rs) [] = ⊥
AreBest s H (r ∷ rs) (k ∷ ks) = IsBestAt s H r (Some k) × AreBest s H rs ks

none_behind : (s : Session) (H : List Entry) (behind : Option SurfaceOf) (rs : List ℕ) (ks : List SurfaceOf) → behind ≡ None → AreBest s H rs ks → AreBest s H rs (cons_option behind ks)
none_behind s H behind rs ks none best = subst (λ (o : Option SurfaceOf). AreBest s H rs (cons_option o ks)) (sym none) best

one_behind : (s : Session) (H : List Entry) (r : ℕ) (behind : Option SurfaceOf) (rs : List ℕ) (ks : List SurfaceOf) → IsBestAt s H r behind → AreBest s H rs ks → AreBest s H (r ∷ rs) (cons_option behind ks)
one_behind s H r None rs ks here best = absurd here
one_behind s H r (Some k) rs ks here best = (here, best)

behind : (s : Session) (H : List Entry) (e : Entry) (o : Option SurfaceOf) (rs : List ℕ) (ks : List SurfaceOf) → IsCertifiedAfter s H e o → ((a r : ℕ) → e ≡ Published a r → IsBestAt s H r o) → AreBest s H rs ks → AreBest s H (cons_option (published_of e) rs) (cons_option o ks)
behind s H (Published a r) o rs ks c here best = one_behind s H r o rs ks (here a r refl) best
behind s H e o rs ks c here best = none_behind s H o rs ks c best

-- what a report says of its items
abbrev AreFine : Session → List Entry → List ItemOf → Type 0
AreFine s H items = (j : ℕ) (i : ItemOf) → slice_get items j ≡ Some i → IsCertifiedAfter s H i.entry i.surface × ((a r : ℕ) → i.entry ≡ Published a r → IsBestAt s H r i.surface)

are_best : (s : Session) (H : List Entry) (items : List ItemOf) → AreFine s H items → AreBest s H (filter_map published_of (map (λ (i : ItemOf). i.entry) items)) (filter_map (λ (i : ItemOf). i.surface) items)
are_best s H [] fine = tt
are_best s H (i ∷ items) fine = (let here = fine 0 i refl in behind s H i.entry i.surface _ _ here.0 here.1 (are_best s H items (λ j. fine (suc j))))

last_best : (s : Session) (H : List Entry) (o : Option ℕ) (k : Option SurfaceOf) (rs : List ℕ) (ks : List SurfaceOf) → IsBestIfAny s H o k → AreBest s H rs ks → IsBestIfAny s H (last_or o rs) (last_or k ks)
last_best s H o k [] [] here best = here
last_best s H o k [] (l ∷ ks) here best = absurd best
last_best s H o k (r ∷ rs) [] here best = absurd best
last_best s H o k (r ∷ rs) (l ∷ ks) here best = last_best s H (Some r) (Some l) rs ks best.0 best.1

pub last_surfaces_are_best : LastSurfacesAreBest
last_surfaces_are_best s v is =
    let H = history_of v in
    subst (λ (o : Option ℕ). IsBestIfAny s H o (last_surface v)) (sym (last_is (published_in H)))
    (last_best s H None None (published_in H) (surfaces_of v) tt (are_best s H v.items (λ j i at. (is.certified.surfaces j i at, λ a r e. is.best j i a r at e))))
