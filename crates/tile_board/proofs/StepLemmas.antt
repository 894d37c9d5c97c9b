-- What a board holds, after each kind of entry.
use Rattle.std.proofs.Common.{◌≡◌, ℕ, ◌+◌, ◌-◌, ◌^◌, ◌<◌, sym, ◌∙◌, ap, refl, arith, false, List, [], ◌∷◌, ◌++◌, get_or, length}
use Rattle.std.specs.Prelude.{Option, Some, None, IsTrue, if◌then◌else◌, set, slice_get, slice_index, ◌==◌}
use Rattle.std.proofs.lemmas.Bool.Decides.{nat_tests}
use Rattle.std.proofs.lemmas.List.{get_or_read}
use Rattle.raster_model.specs.declared.script.Command.{Command}
use Rattle.raster_model.specs.declared.script.Command.TheVariants.{Change, Settle, Show}
use Rattle.raster_model.specs.declared.script.Edit.{Edit}
use Rattle.raster_model.specs.declared.session.Session.{Session}
use Rattle.raster_model.specs.Masks.{open_at}
use Rattle.raster_model.specs.Tiles.{tiles_of}
use Rattle.certificates.specs.declared.results.TileResult.{TileResult}
use Rattle.certificates.specs.Results.{IsGoodTile}
use Rattle.mask_revisions.specs.Edits.{differ_in}
use Rattle.mask_revisions.specs.Revisions.{AreRevisionsOf}
use Rattle.mask_revisions.specs.RevisionsView.{RevisionsView}
use Rattle.surface_snapshots.specs.Parts.{Parts}
use Rattle.tile_board.specs.declared.answers.AdvanceFault.{AdvanceFault}
use Rattle.tile_board.specs.declared.answers.AdvanceFault.TheVariants.{Memory}
use Rattle.tile_board.specs.declared.entry.Entry.{Entry}
use Rattle.tile_board.specs.declared.entry.Entry.TheVariants.{Revised, Kept, Published, Settled, Shown}
use Rattle.tile_board.specs.Boards.{IsSurfaceOf}
use Rattle.tile_board.specs.BoardView.{BoardView}
use Rattle.tile_board.specs.Calls.{HasAdvanceFault}
use Rattle.tile_board.specs.Histories.{IsStep, edit_of, edits_of, keeps, names, next_command, present_mask, published_of}
use Rattle.tile_board.specs.Lacking.{AreLackingIn, LackingView}
use Rattle.tile_board.specs.States.{IsWithoutOthers, IsState, board_view_of}
use Rattle.tile_board.proofs.HeldLemmas.{cursor_room, cursor_there, tells_done, tells_on, tells_published, tells_revised}
use Rattle.tile_board.proofs.HistoryLemmas.{legal_push}
use Rattle.tile_board.proofs.KeptLemmas.{kept_keep, kept_on, kept_revised}
use Rattle.tile_board.proofs.SurfaceLemmas.{surfaces_on, surfaces_push}

-- what an entry says that names one analyst and nothing else
pub alone_edit : (e : Entry) (a : ℕ) → IsWithoutOthers a e → edit_of e ≡ None
alone_edit (Revised b c) a is = absurd is
alone_edit (Kept t r) a is = absurd is
alone_edit (Published b r) a is = absurd is
alone_edit (Settled b r) a is = refl
alone_edit (Shown b r) a is = refl

alone_published : (e : Entry) (a : ℕ) → IsWithoutOthers a e → published_of e ≡ None
alone_published (Revised b c) a is = absurd is
alone_published (Kept t r) a is = absurd is
alone_published (Published b r) a is = absurd is
alone_published (Settled b r) a is = refl
alone_published (Shown b r) a is = refl

alone_keeps : (e : Entry) (a : ℕ) → IsWithoutOthers a e → (t stamp : ℕ) → keeps t stamp e ≡ false
alone_keeps (Revised b c) a is t stamp = absurd is
alone_keeps (Kept u r) a is t stamp = absurd is
alone_keeps (Published b r) a is t stamp = absurd is
alone_keeps (Settled b r) a is t stamp = refl
alone_keeps (Shown b r) a is t stamp = refl

alone_names : (e : Entry) (a : ℕ) → IsWithoutOthers a e → (b : ℕ) → names b e ≡ (a == b)
alone_names (Revised d c) a is b = absurd is
alone_names (Kept t r) a is b = absurd is
alone_names (Published d r) a is b = absurd is
alone_names (Settled d r) a is b = ap (λ (n : ℕ). n == b) is
alone_names (Shown d r) a is b = ap (λ (n : ℕ). n == b) is

pub alone_next : (s : Session) (H : List Entry) (e : Entry) (a : ℕ) → IsStep s H e → IsWithoutOthers a e → (c : Command) × (next_command s H a ≡ Some c)
alone_next s H (Revised b c) a step is = absurd is
alone_next s H (Kept t r) a step is = absurd is
alone_next s H (Published b r) a step is = absurd is
alone_next s H (Settled b r) a step is = (Settle, ap (next_command s H) (sym is) ∙ step.0)
alone_next s H (Shown b r) a step is = (Show, ap (next_command s H) (sym is) ∙ step.0)

-- why a command is not done whose entry may come next
names_itself : (n : ℕ) → IsTrue (n == n)
names_itself n = grind (arith, nat_tests)

pub revised_refused : (v : BoardView) (a : ℕ) (edit : Edit) (fault : AdvanceFault) → next_command v.session v.entries a ≡ Some (Change edit) → HasAdvanceFault v a fault
revised_refused v a edit Memory next = (Revised a edit, next, names_itself a, refl)

pub alone_refused : (v : BoardView) (a : ℕ) (e : Entry) (fault : AdvanceFault) → IsStep v.session v.entries e → IsWithoutOthers a e → HasAdvanceFault v a fault
alone_refused v a e Memory step alone = (e, step, alone_names e a alone a ∙ names_itself a, alone_published e a alone)

module _ {s : Session} {H : List Entry} {kept : List (Option TileResult)} {surfaces : List Parts} {held : RevisionsView} {waiting : LackingView} {marks : List ℕ} {last : Option ℕ} (state : IsState (board_view_of s H kept surfaces) held waiting marks last) where
  -- other keys of the same tiles
  pub state_claimed : (waiting' : LackingView) → AreLackingIn kept waiting' → IsState (board_view_of s H kept surfaces) held waiting' marks last
  state_claimed waiting' lacking = record { board = state.board; past = state.past; lacking = lacking }

  pub state_keep : (k : TileResult) (entries : List Entry) (waiting' : LackingView) → entries ≡ H ++ (Kept k.tile k.stamp ∷ []) → IsStep s H (Kept k.tile k.stamp) → IsGoodTile s.scene (present_mask s H) k → AreLackingIn (set kept k.tile (Some k)) waiting' → IsState (board_view_of s entries (set kept k.tile (Some k)) surfaces) held waiting' marks last
  state_keep k entries waiting' e step good lacking = rw e (record {
    board = record {
      legal = legal_push s H (Kept k.tile k.stamp) state.board.legal step;
      kept = kept_keep s H k kept step.1 good state.board.kept;
      surfaces = surfaces_on s H (Kept k.tile k.stamp) surfaces refl state.board.surfaces;
    };
    past = tells_on state.past (Kept k.tile k.stamp) refl refl (λ b. refl);
    lacking = lacking;
  })

  -- ---- the cursor of an analyst with a next command, as it is read
  cursor_is_read : (a : ℕ) (c : Command) (x : ℕ) → next_command s H a ≡ Some c → x ≡ get_or marks (a - 1) x → x ≡ slice_index marks (a - 1)
  cursor_is_read a c x n e = get_or_read marks (a - 1) x (cursor_there state.past a c n).1 e 0

  pub cursor_small : (a : ℕ) (c : Command) (x : ℕ) → next_command s H a ≡ Some c → x ≡ get_or marks (a - 1) x → x + 1 < 2 ^ 32
  cursor_small a c x n e = omega (arith, cursor_room state.past state.board.legal a c n, cursor_is_read a c x n e)

  -- ---- an entry that changes nothing else
  pub state_alone : (e : Entry) (a : ℕ) (x : ℕ) (entries : List Entry) → entries ≡ H ++ (e ∷ []) → IsStep s H e → IsWithoutOthers a e → x ≡ get_or marks (a - 1) x → IsState (board_view_of s entries kept surfaces) held waiting (set marks (a - 1) (x + 1)) last
  state_alone e a x entries q step alone r =
      let n = alone_edit e a alone in
      let p = alone_published e a alone in
      rw q (record {
        board = record {
          legal = legal_push s H e state.board.legal step;
          kept = kept_on s H e kept n (λ t stamp. alone_keeps e a alone t stamp) state.board.kept;
          surfaces = surfaces_on s H e surfaces p state.board.surfaces;
        };
        past = (let next = alone_next s H e a step alone in rw (cursor_is_read a next.0 x next.1 r) (tells_done state.past e a next.0 next.1 n p (alone_names e a alone)));
        lacking = state.lacking;
      })

  -- ---- a revision
  pub state_revised : (a : ℕ) (edit : Edit) (x : ℕ) (entries : List Entry) (kept' : List (Option TileResult)) (new : RevisionsView) (waiting' : LackingView) → entries ≡ H ++ (Revised a edit ∷ []) → next_command s H a ≡ Some (Change edit) → x ≡ get_or marks (a - 1) x → new.tiling ≡ held.tiling → AreRevisionsOf (open_at s.first_mask) (edits_of H ++ (edit ∷ [])) new → AreLackingIn kept' waiting' → length kept' ≡ length kept → ((t : ℕ) → t < tiles_of s.scene.tiling → slice_get kept' t ≡ (if differ_in s.scene.tiling (present_mask s H) (present_mask s (H ++ (Revised a edit ∷ []))) t then Some None else slice_get kept t)) → IsState (board_view_of s entries kept' surfaces) new waiting' (set marks (a - 1) (x + 1)) last
  state_revised a edit x entries kept' new waiting' q n r tiling revisions lacking count places = rw q (record {
    board = record {
      legal = legal_push s H (Revised a edit) state.board.legal n;
      kept = kept_revised s H a edit kept kept' state.board.legal count places state.board.kept;
      surfaces = surfaces_on s H (Revised a edit) surfaces refl state.board.surfaces;
    };
    past = rw (cursor_is_read a (Change edit) x n r) (tells_revised state.past a edit new tiling revisions n);
    lacking = lacking;
  })

  -- ---- a publication
  pub state_published : (a r x : ℕ) (entries : List Entry) (surfaces' : List Parts) (p : Parts) → entries ≡ H ++ (Published a r ∷ []) → surfaces' ≡ surfaces ++ (p ∷ []) → IsStep s H (Published a r) → p.seams.revision ≡ r → IsSurfaceOf s H p → x ≡ get_or marks (a - 1) x → IsState (board_view_of s entries kept surfaces') held waiting (set marks (a - 1) (x + 1)) (Some r)
  state_published a r x entries surfaces' p q w step e is y = rw (q, w) (record {
    board = record {
      legal = legal_push s H (Published a r) state.board.legal step;
      kept = kept_on s H (Published a r) kept refl (λ t stamp. refl) state.board.kept;
      surfaces = surfaces_push s H a r surfaces p e is state.board.surfaces;
    };
    past = rw (cursor_is_read a Settle x step.0 y) (tells_published state.past a r step.0);
    lacking = state.lacking;
  })
