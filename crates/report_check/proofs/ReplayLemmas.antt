-- What a replay holds tells which entries may come next, and after each kind of entry it holds what the longer history says.
use Rattle.std.proofs.Common.{◌≡◌, ◌∙◌, ℕ, ◌<◌, inl, inr, refl, sym, ap, subst, arith, Bool, true, false, List, [], ◌∷◌, ◌++◌, length}
use Rattle.std.specs.Prelude.{Option, Some, None, IfSome, unwrap_or, IsTrue, ◌==◌, ◌↔◌, set, slice_get, slice_index_or}
use Rattle.std.proofs.lemmas.Bool.{cases_eq}
use Rattle.std.proofs.lemmas.List.{get_or-set_other, get_or-set_same, length-set}
use Rattle.std.proofs.lemmas.Option.{get_or_from_slice_get, unwrap_or-slice_get}
use Rattle.raster_model.specs.declared.script.Command.{Command}
use Rattle.raster_model.specs.declared.script.Command.TheVariants.{Change, Settle, Show}
use Rattle.raster_model.specs.declared.script.Edit.{Edit}
use Rattle.raster_model.specs.declared.session.Session.{Session}
use Rattle.raster_model.specs.declared.tiling.Tiling.{Tiling}
use Rattle.raster_model.specs.Masks.{open_at}
use Rattle.raster_model.specs.Tiles.{tiles_of}
use Rattle.mask_revisions.specs.Edits.{differ_in}
use Rattle.mask_revisions.specs.Revisions.{AreChanged, AreRevisionsOf}
use Rattle.mask_revisions.specs.RevisionsView.{RevisionsView}
use Rattle.tile_board.specs.declared.entry.Entry.{Entry}
use Rattle.tile_board.specs.declared.entry.Entry.TheVariants.{Revised, Kept, Published, Settled, Shown}
use Rattle.tile_board.specs.Histories.{AreAllKept, IsStep, edit_of, edits_of, is_kept, keeps, names, next_command, present_mask, published_of, script_in, script_of, stamp_in}
use Rattle.tile_board.specs.Places.{AreSet, cursor_at}
use Rattle.tile_board.proofs.HeldLemmas.{cursor_room, cursor_there, differ_told, tells_done, tells_on, tells_published, tells_revised}
use Rattle.tile_board.proofs.HistoryLemmas.{kept_same, legal_push}
use Rattle.tile_board.proofs.KeptLemmas.{kept_elsewhere, kept_gone, kept_here, kept_stays}
use Rattle.tile_board.proofs.StateLemmas.{cursor_is}
use Rattle.report_check.specs.Replays.{CanCount, IsReplay, counted, doer}
use Rattle.sums_and_lists.proofs.Tests.{true_and_false}

-- what is read at one place of two lists
same_read : (old new : List Bool) (t : ℕ) → slice_get new t ≡ slice_get old t → slice_index_or new t false ≡ slice_index_or old t false
same_read old new t e = sym (unwrap_or-slice_get new t false) ∙ ap (λ (o : Option Bool). unwrap_or o false) e ∙ unwrap_or-slice_get old t false

module _ {s : Session} {H : List Entry} {held : RevisionsView} {kept : List Bool} {marks : List ℕ} {last : Option ℕ} (is : IsReplay s H held kept marks last) where
  -- ---- what is held tells
  at_cursor : (a : ℕ) → slice_get (script_in s.scripts.items a) (cursor_at marks a) ≡ next_command s H a
  at_cursor a = ap (slice_get (script_of s a)) (cursor_is s H marks is.legal is.past.cursors a)

  module _ {b : Bool} (a : ℕ) (c : Command) (told : IsTrue b ↔ (slice_get (script_in s.scripts.items a) (cursor_at marks a) ≡ Some c)) where
    pub next_told : b ≡ true → next_command s H a ≡ Some c
    next_told e = sym (at_cursor a) ∙ told.0 e

    pub next_is : next_command s H a ≡ Some c → IsTrue b
    next_is n = told.1 (at_cursor a ∙ n)

  pub all_kept : ((k : ℕ) → k < length kept → IsTrue (slice_index_or kept k false)) → AreAllKept s H
  all_kept all t l = sym (is.kept t l) ∙ all t (omega (arith, l, is.count))

  pub all_told : AreAllKept s H → (k : ℕ) → k < length kept → IsTrue (slice_index_or kept k false)
  all_told all k l = (let m : k < tiles_of s.scene.tiling = omega (arith, l, is.count) in is.kept k m ∙ all k m)

  -- ---- an analyst with a next command has a cursor, and it can be counted
  room : (a : ℕ) (c : Command) → next_command s H a ≡ Some c → CanCount marks a
  room a c n = (let b = cursor_there is.past a c n in (b.0, b.1, cursor_room is.past is.legal a c n))

  pub may_count : (e : Entry) → IsStep s H e → IfSome (doer e) (CanCount marks)
  may_count (Revised a edit) step = room a (Change edit) step
  may_count (Kept t r) step = tt
  may_count (Published a r) step = room a Settle step.0
  may_count (Settled a r) step = room a Settle step.0
  may_count (Shown a r) step = room a Show step.0

  -- ---- after one more entry
  kept_on : (e : Entry) → edit_of e ≡ None → ((t r : ℕ) → keeps t r e ≡ false) → (t : ℕ) → t < tiles_of s.scene.tiling → slice_index_or kept t false ≡ is_kept s (H ++ (e ∷ [])) t
  kept_on e n away t l = is.kept t l ∙ kept_same s H e t n (away t (stamp_in s H t))

  pub replay_kept : (t r : ℕ) → IsStep s H (Kept t r) → IsReplay s (H ++ (Kept t r ∷ [])) held (set kept t true) marks last
  replay_kept t r step = record {
    legal = legal_push s H (Kept t r) is.legal step;
    past = tells_on is.past (Kept t r) refl refl (λ b. refl);
    count = length-set kept t true ∙ is.count;
    kept = λ u l. elim (cases_eq u t) [
      | inl e ↦ (
          let within : t < length kept = omega (arith, l, e, is.count) in
          ap (λ (n : ℕ). slice_index_or (set kept t true) n false) e ∙ get_or-set_same kept t true false within ∙ sym (kept_here s H t r u e step.1))
      | inr d ↦ get_or-set_other kept t u true false d ∙ is.kept u l ∙ kept_elsewhere s H t r u d
    ];
  }

  pub replay_published : (a r : ℕ) → IsStep s H (Published a r) → IsReplay s (H ++ (Published a r ∷ [])) held kept (counted marks (Some a)) (Some r)
  replay_published a r step = record {
    legal = legal_push s H (Published a r) is.legal step;
    past = tells_published is.past a r step.0;
    count = is.count;
    kept = kept_on (Published a r) refl (λ t stamp. refl);
  }

  -- of a command that changes nothing
  pub replay_done : (e : Entry) (a : ℕ) (c : Command) → IsStep s H e → next_command s H a ≡ Some c → edit_of e ≡ None → published_of e ≡ None → ((b : ℕ) → names b e ≡ (a == b)) → ((t r : ℕ) → keeps t r e ≡ false) → IsReplay s (H ++ (e ∷ [])) held kept (counted marks (Some a)) last
  replay_done e a c step next n p named away = record {
    legal = legal_push s H e is.legal step;
    past = tells_done is.past e a c next n p named;
    count = is.count;
    kept = kept_on e n away;
  }

  -- ---- a revision
  module _ (a : ℕ) (edit : Edit) {held' : RevisionsView} (tiling : held'.tiling ≡ held.tiling) (revisions : AreRevisionsOf (open_at s.first_mask) (edits_of H ++ (edit ∷ [])) held') where
    abbrev K : List Entry
    K = H ++ (Revised a edit ∷ [])

    abbrev differs : ℕ → Bool
    differs t = differ_in s.scene.tiling (present_mask s H) (present_mask s K) t

    abbrev held_differ : ℕ → Bool
    held_differ t = differ_in s.scene.tiling (open_at held.mask) (open_at held'.mask) t

    differ_there : (t : ℕ) → held_differ t ≡ differs t
    differ_there = differ_told is.past a edit held' tiling revisions

    module _ {tiles : List ℕ} {kept' : List Bool} (changed : AreChanged held.tiling (open_at held.mask) (open_at held'.mask) tiles) (cleared : AreSet kept kept' tiles (length tiles) false) where
      in_tiles : AreChanged s.scene.tiling (open_at held.mask) (open_at held'.mask) tiles
      in_tiles = subst (λ (g : Tiling). AreChanged g (open_at held.mask) (open_at held'.mask) tiles) is.past.tiling changed

      at : (t : ℕ) → t < tiles_of s.scene.tiling → (b : Bool) → differs t ≡ b → slice_index_or kept' t false ≡ is_kept s K t
      at t l true d =
          let u = in_tiles.all t l (differ_there t ∙ d) in
          let there : slice_get kept' t ≡ Some false = subst (λ (x : ℕ). slice_get kept' x ≡ Some false) u.2 (cleared.given u.0 u.1) in
          get_or_from_slice_get kept' t false false there ∙ sym (kept_gone s H a edit is.legal t d)
      at t l false d =
          let other = cleared.others t (λ i m e. true_and_false (held_differ t) (subst (λ (x : ℕ). IsTrue (held_differ x)) e (in_tiles.changed i m)) (differ_there t ∙ d)) in
          same_read kept kept' t other ∙ is.kept t l ∙ sym (kept_stays s H a edit t d)

      pub replay_revised : IsStep s H (Revised a edit) → IsReplay s K held' kept' (counted marks (Some a)) last
      replay_revised step = record {
        legal = legal_push s H (Revised a edit) is.legal step;
        past = tells_revised is.past a edit held' tiling revisions step;
        count = cleared.count ∙ is.count;
        kept = λ t l. at t l (differs t) refl;
      }
