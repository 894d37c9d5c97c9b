-- Published surfaces under a longer history.
use Rattle.std.proofs.Common.{◌≡◌, ℕ, inl, inr, sym, ◌∙◌, ap₂, refl, subst, arith, Bool, List, [], ◌∷◌, ◌++◌}
use Rattle.std.specs.Prelude.{None}
use Rattle.std.proofs.lemmas.List.{map_push}
use Rattle.raster_model.specs.declared.session.Session.{Session}
use Rattle.raster_model.specs.Masks.{IsMaskOf}
use Rattle.raster_model.specs.Sums.{Field}
use Rattle.surface_snapshots.specs.Parts.{Parts}
use Rattle.tile_board.specs.declared.entry.Entry.{Entry}
use Rattle.tile_board.specs.declared.entry.Entry.TheVariants.{Published}
use Rattle.tile_board.specs.Boards.{AreSurfacesOf, IsSurfaceOf}
use Rattle.tile_board.specs.Histories.{published_of}
use Rattle.tile_board.proofs.HistoryLemmas.{mask_stays, now_grows, published_more, published_same}
use Rattle.tile_board.proofs.ListLemmas.{get_push}

pub surface_on : (s : Session) (H : List Entry) (e : Entry) (p : Parts) → IsSurfaceOf s H p → IsSurfaceOf s (H ++ (e ∷ [])) p
surface_on s H e p is = record {
  revision = omega (arith, is.revision, now_grows H e);
  session = is.session;
  mask = subst (λ (m : Field Bool). IsMaskOf p.mask s.scene.phase.width s.scene.phase.height m) (sym (mask_stays s H e p.seams.revision is.revision)) is.mask;
  regions = is.regions;
  tiling = is.tiling;
  tiles = is.tiles;
  published = is.published;
  verdict = is.verdict;
}

pub surfaces_none : (s : Session) → AreSurfacesOf s [] []
surfaces_none s = record { revisions = refl; each = λ j p g. absurd (cc) }

pub surfaces_on : (s : Session) (H : List Entry) (e : Entry) (surfaces : List Parts) → published_of e ≡ None → AreSurfacesOf s H surfaces → AreSurfacesOf s (H ++ (e ∷ [])) surfaces
surfaces_on s H e surfaces n are = record {
  revisions = are.revisions ∙ sym (published_same H e n);
  each = λ j p g. surface_on s H e p (are.each j p g);
}

pub surfaces_push : (s : Session) (H : List Entry) (a r : ℕ) (surfaces : List Parts) (p : Parts) → p.seams.revision ≡ r → IsSurfaceOf s H p → AreSurfacesOf s H surfaces → AreSurfacesOf s (H ++ (Published a r ∷ [])) (surfaces ++ (p ∷ []))
surfaces_push s H a r surfaces p e is are = record {
  revisions = map_push (λ (q : Parts). q.seams.revision) surfaces p ∙ ap₂ (λ (rs : List ℕ) (x : ℕ). rs ++ (x ∷ [])) are.revisions e ∙ sym (published_more H a r);
  each = λ j q g. elim (get_push surfaces p j q g) [
    | inl h ↦ surface_on s H (Published a r) q (are.each j q h.0)
    | inr h ↦ subst (IsSurfaceOf s (H ++ (Published a r ∷ []))) h.0 (surface_on s H (Published a r) p is)
  ];
}
