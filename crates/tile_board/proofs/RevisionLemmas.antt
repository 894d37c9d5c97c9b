-- A revision: which tiles are no longer kept.
use Rattle.std.proofs.Common.{◌≡◌, ℕ, ◌<◌, refl, subst, Bool, true, false, List, [], ◌∷◌, ◌++◌, length}
use Rattle.std.specs.Prelude.{Option, Some, None, IsTrue, if◌then◌else◌, slice_get}
use Rattle.raster_model.specs.declared.script.Command.TheVariants.{Change}
use Rattle.raster_model.specs.declared.script.Edit.{Edit}
use Rattle.raster_model.specs.declared.session.Session.{Session}
use Rattle.raster_model.specs.Masks.{open_at}
use Rattle.raster_model.specs.Tiles.{tiles_of}
use Rattle.certificates.specs.declared.results.TileResult.{TileResult}
use Rattle.mask_revisions.specs.Edits.{differ_in}
use Rattle.mask_revisions.specs.Revisions.{AreChanged, AreRevisionsOf}
use Rattle.mask_revisions.specs.RevisionsView.{RevisionsView}
use Rattle.surface_snapshots.specs.Parts.{Parts}
use Rattle.tile_board.specs.declared.entry.Entry.{Entry}
use Rattle.tile_board.specs.declared.entry.Entry.TheVariants.{Revised}
use Rattle.tile_board.specs.Calls.{IsRevision}
use Rattle.tile_board.specs.Histories.{edits_of, next_command, present_mask}
use Rattle.tile_board.specs.Places.{AreSet}
use Rattle.tile_board.specs.Lacking.{LackingView}
use Rattle.tile_board.specs.States.{IsState, board_view_of}
use Rattle.tile_board.proofs.HeldLemmas.{differ_told}
use Rattle.sums_and_lists.proofs.Tests.{true_and_false}

module _ {s : Session} {H : List Entry} {kept : List (Option TileResult)} {surfaces : List Parts} {held : RevisionsView} {waiting : LackingView} {marks : List ℕ} {last : Option ℕ} (state : IsState (board_view_of s H kept surfaces) held waiting marks last) (a : ℕ) (edit : Edit) (new : RevisionsView) (tiling : new.tiling ≡ held.tiling) (revisions : AreRevisionsOf (open_at s.first_mask) (edits_of H ++ (edit ∷ [])) new) where
  differ_there : (t : ℕ) → differ_in s.scene.tiling (open_at held.mask) (open_at new.mask) t ≡ differ_in s.scene.tiling (present_mask s H) (present_mask s (H ++ (Revised a edit ∷ []))) t
  differ_there = differ_told state.past a edit new tiling revisions

  module _ (tiles : List ℕ) (kept' : List (Option TileResult)) (changed : AreChanged s.scene.tiling (open_at held.mask) (open_at new.mask) tiles) (emptied : AreSet kept kept' tiles (length tiles) None) where
    pub places_told : (t : ℕ) → t < tiles_of s.scene.tiling → slice_get kept' t ≡ (if differ_in s.scene.tiling (present_mask s H) (present_mask s (H ++ (Revised a edit ∷ []))) t then Some None else slice_get kept t)
    places_told t l = rw (← differ_there t) (at (differ_in s.scene.tiling (open_at held.mask) (open_at new.mask) t) refl)
      where
        at : (b : Bool) → differ_in s.scene.tiling (open_at held.mask) (open_at new.mask) t ≡ b → slice_get kept' t ≡ (if b then Some None else slice_get kept t)
        at true d = (let u = changed.all t l d in subst (λ (x : ℕ). slice_get kept' x ≡ Some None) u.2 (emptied.given u.0 u.1))
        at false d = emptied.others t (λ i m e. true_and_false (differ_in s.scene.tiling (open_at held.mask) (open_at new.mask) t) (subst (λ (x : ℕ). IsTrue (differ_in s.scene.tiling (open_at held.mask) (open_at new.mask) x)) e (changed.changed i m)) d)

    pub revision_is : (entries : List Entry) → entries ≡ H ++ (Revised a edit ∷ []) → next_command s H a ≡ Some (Change edit) → IsRevision (board_view_of s H kept surfaces) (board_view_of s entries kept' surfaces) a edit
    revision_is entries e n = rw e (record {
      adds = record { session = refl; step = n; entries = refl };
      count = emptied.count;
      kept = places_told;
      surfaces = refl;
    })
