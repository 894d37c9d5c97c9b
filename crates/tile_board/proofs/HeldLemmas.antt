-- What is held beside the results tells of its history, and after one more entry of the longer one.
use Rattle.std.proofs.Common.{◌≡◌, ℕ, ◌+◌, ◌-◌, ◌^◌, ◌<◌, ◌≤◌, sym, ◌∙◌, ap, refl, subst, arith, Bool, false, List, [], ◌∷◌, ◌++◌, length}
use Rattle.std.specs.Prelude.{Option, Some, None, cond, set, slice_index, sum, ◌==◌}
use Rattle.raster_model.specs.declared.script.Command.{Command}
use Rattle.raster_model.specs.declared.script.Command.TheVariants.{Change, Settle}
use Rattle.raster_model.specs.declared.script.Edit.{Edit}
use Rattle.raster_model.specs.declared.session.Session.{Session}
use Rattle.raster_model.specs.declared.tiling.Tiling.{Tiling}
use Rattle.raster_model.specs.Masks.{IsMaskOf, open_at}
use Rattle.raster_model.specs.Sums.{Field}
use Rattle.raster_model.specs.Tiles.{tiles_of}
use Rattle.mask_revisions.specs.Edits.{differ_in, mask_after}
use Rattle.mask_revisions.specs.Revisions.{AreRevisionsOf}
use Rattle.mask_revisions.specs.RevisionsView.{RevisionsView}
use Rattle.mask_revisions.proofs.Differences.{differ_same}
use Rattle.tile_board.specs.declared.entry.Entry.{Entry}
use Rattle.tile_board.specs.declared.entry.Entry.TheVariants.{Published, Revised}
use Rattle.tile_board.specs.Histories.{IsLegal, done_by, edit_of, edits_of, names, next_command, now_of, present_mask, published_of, stamp_in}
use Rattle.tile_board.specs.States.{AreCursors, TellsHistory}
use Rattle.tile_board.proofs.HistoryLemmas.{done_push, edits_more, edits_same, newest_more, newest_same, now_more, present_is}
use Rattle.tile_board.proofs.StateLemmas.{cursors_push, cursors_short, next_below, room_for_one}

-- an entry that names nobody leaves the cursors
cursors_on : (s : Session) (H : List Entry) (e : Entry) (marks : List ℕ) → edit_of e ≡ None → ((b : ℕ) → names b e ≡ false) → AreCursors s H marks → AreCursors s (H ++ (e ∷ [])) marks
cursors_on s H e marks n nobody are = record {
  count = are.count;
  done = λ k l. are.done k l ∙ sym (done_push H e (k + 1) ∙ ap (λ (t : Bool). done_by (k + 1) H + cond t 1 0) (nobody (k + 1)) ∙ omega arith);
  few = subst (λ (l : List Edit). length l ≤ sum marks) (sym (edits_same H e n)) are.few;
}

module _ {s : Session} {H : List Entry} {held : RevisionsView} {marks : List ℕ} {last : Option ℕ} (told : TellsHistory s H held marks last) where
  pub stamp_told : (t : ℕ) → t < tiles_of s.scene.tiling → slice_index held.stamps t ≡ stamp_in s H t
  stamp_told t l = rw told.tiling at (told.revisions.stamps t (rw told.tiling l))

  pub count_told : held.count ≡ now_of H
  count_told = told.revisions.count

  -- the mask that is held is the present one
  pub mask_here : (x y : ℕ) → x < s.scene.tiling.width → y < s.scene.tiling.height → open_at held.mask x y ≡ present_mask s H x y
  mask_here x y a b = rw (present_is s H) (told.revisions.mask.clear_at x y (rw told.tiling a) (rw told.tiling b))

  pub mask_told : IsMaskOf held.mask s.scene.phase.width s.scene.phase.height (present_mask s H)
  mask_told = record {
    width = told.revisions.mask.width ∙ ap (λ (g : Tiling). g.width) told.tiling ∙ s.scene.same_width.1;
    height = told.revisions.mask.height ∙ ap (λ (g : Tiling). g.height) told.tiling ∙ s.scene.same_height.1;
    clear_at = λ x y a b. mask_here x y (rw s.scene.same_width.1 a) (rw s.scene.same_height.1 b);
  }

  -- ---- the cursor of an analyst with a next command, and room for one more revision
  pub cursor_there : (a : ℕ) (c : Command) → next_command s H a ≡ Some c → (1 ≤ a) × (a - 1 < length marks)
  cursor_there a c n = (let b = next_below s H marks a c told.cursors n in (b.0, b.1))

  pub cursor_room : IsLegal s H → (a : ℕ) (c : Command) → next_command s H a ≡ Some c → slice_index marks (a - 1) + 1 < 2 ^ 32
  cursor_room legal a c n = omega (arith, cursors_short s H marks legal told.cursors (a - 1) (cursor_there a c n).1)

  pub revision_room : IsLegal s H → held.count + 1 < 2 ^ 32
  revision_room legal = omega (arith, room_for_one s H marks legal told.cursors, count_told)

  -- ---- after one more entry
  revisions_on : (e : Entry) → edit_of e ≡ None → AreRevisionsOf (open_at s.first_mask) (edits_of (H ++ (e ∷ []))) held
  revisions_on e n = subst (λ (l : List Edit). AreRevisionsOf (open_at s.first_mask) l held) (sym (edits_same H e n)) told.revisions

  few : (e : Entry) → edit_of e ≡ None → now_of (H ++ (e ∷ [])) ≤ now_of H + 1
  few e n = omega (arith, ap (λ (l : List Edit). length l) (edits_same H e n))

  -- that names nobody
  pub tells_on : (e : Entry) → edit_of e ≡ None → published_of e ≡ None → ((b : ℕ) → names b e ≡ false) → TellsHistory s (H ++ (e ∷ [])) held marks last
  tells_on e n p nobody = record {
    tiling = told.tiling;
    revisions = revisions_on e n;
    cursors = cursors_on s H e marks n nobody told.cursors;
    newest = told.newest ∙ sym (newest_same H e p);
  }

  -- that does an analyst's next command, and neither edits nor publishes
  pub tells_done : (e : Entry) (a : ℕ) (c : Command) → next_command s H a ≡ Some c → edit_of e ≡ None → published_of e ≡ None → ((b : ℕ) → names b e ≡ (a == b)) → TellsHistory s (H ++ (e ∷ [])) held (set marks (a - 1) (slice_index marks (a - 1) + 1)) last
  tells_done e a c next n p named = record {
    tiling = told.tiling;
    revisions = revisions_on e n;
    cursors = cursors_push s H marks e a c told.cursors next named (few e n);
    newest = told.newest ∙ sym (newest_same H e p);
  }

  pub tells_published : (a r : ℕ) → next_command s H a ≡ Some Settle → TellsHistory s (H ++ (Published a r ∷ [])) held (set marks (a - 1) (slice_index marks (a - 1) + 1)) (Some r)
  tells_published a r next = record {
    tiling = told.tiling;
    revisions = revisions_on (Published a r) refl;
    cursors = cursors_push s H marks (Published a r) a Settle told.cursors next (λ b. refl) (few (Published a r) refl);
    newest = sym (newest_more H a r);
  }

  -- ---- after a revision
  module _ (a : ℕ) (edit : Edit) (new : RevisionsView) (tiling : new.tiling ≡ held.tiling) (revisions : AreRevisionsOf (open_at s.first_mask) (edits_of H ++ (edit ∷ [])) new) where
    pub tells_revised : next_command s H a ≡ Some (Change edit) → TellsHistory s (H ++ (Revised a edit ∷ [])) new (set marks (a - 1) (slice_index marks (a - 1) + 1)) last
    tells_revised next = record {
      tiling = tiling ∙ told.tiling;
      revisions = subst (λ (l : List Edit). AreRevisionsOf (open_at s.first_mask) l new) (sym (edits_more H a edit)) revisions;
      cursors = cursors_push s H marks (Revised a edit) a (Change edit) told.cursors next (λ b. refl) (omega (arith, now_more H a edit));
      newest = told.newest ∙ sym (newest_same H (Revised a edit) refl);
    }

    after : (x y : ℕ) → x < s.scene.tiling.width → y < s.scene.tiling.height → open_at new.mask x y ≡ present_mask s (H ++ (Revised a edit ∷ [])) x y
    after x y l m =
        let same = tiling ∙ told.tiling in
        let here = revisions.mask.clear_at x y (rw same l) (rw same m) in
        here ∙ sym (ap (λ (f : Field Bool). f x y) (present_is s (H ++ (Revised a edit ∷ [])) ∙ ap (mask_after (open_at s.first_mask)) (edits_more H a edit)))

    -- the masks that are held differ in the tiles in which the present ones do
    pub differ_told : (t : ℕ) → differ_in s.scene.tiling (open_at held.mask) (open_at new.mask) t ≡ differ_in s.scene.tiling (present_mask s H) (present_mask s (H ++ (Revised a edit ∷ []))) t
    differ_told t = differ_same s.scene.tiling (open_at held.mask) (open_at new.mask) (present_mask s H) (present_mask s (H ++ (Revised a edit ∷ []))) t mask_here after
