-- What is held by a board tells of its history.
use Rattle.std.proofs.Common.{◌≡◌, ℕ, ◌<◌, sym, ◌∙◌, ap, arith, Bool, List, length}
use Rattle.std.specs.Prelude.{Option, Some, None, IfNone, IfSome, MatchOption, IsTrue, IsFalse, map, option_map, slice_get}
use Rattle.std.proofs.lemmas.Bool.{false≢true}
use Rattle.std.proofs.lemmas.List.{length-map}
use Rattle.std.proofs.lemmas.Option.{slice_get-map}
use Rattle.raster_model.specs.declared.session.Session.{Session}
use Rattle.raster_model.specs.Masks.{open_at}
use Rattle.raster_model.specs.Sums.{Field}
use Rattle.raster_model.specs.Tiles.{tiles_of, window_of}
use Rattle.certificates.specs.declared.results.TileResult.{TileResult}
use Rattle.certificates.specs.declared.verdicts.TileVerdict.{TileVerdict}
use Rattle.certificates.specs.Verdicts.{IsTileVerdict}
use Rattle.certificates.specs.Results.{IsGoodTile}
use Rattle.mask_revisions.specs.Revisions.{IsWindowMask}
use Rattle.mask_revisions.specs.RevisionsView.{RevisionsView}
use Rattle.surface_snapshots.specs.Parts.{AreGoodTiles, Parts}
use Rattle.tile_board.specs.declared.entry.Entry.{Entry}
use Rattle.tile_board.specs.Histories.{AreAllKept, IsLeastLacking, is_kept, present_mask}
use Rattle.tile_board.specs.Lacking.{LackingView}
use Rattle.tile_board.specs.States.{HasResult, HaveResults, IsFirstGap, IsGap, IsState, board_view_of}
use Rattle.tile_board.proofs.HeldLemmas.{mask_here}
use Rattle.tile_board.proofs.KeptLemmas.{good_across, within_tile}
use Rattle.tile_board.proofs.ListLemmas.{get_below}
use Rattle.tile_board.proofs.VerdictLemmas.{verdict_under}

module _ {s : Session} {H : List Entry} {kept : List (Option TileResult)} {surfaces : List Parts} {held : RevisionsView} {waiting : LackingView} {marks : List ℕ} {last : Option ℕ} (state : IsState (board_view_of s H kept surfaces) held waiting marks last) where
  pub gap_below : (t : ℕ) → IsGap kept t → t < tiles_of s.scene.tiling
  gap_below t g = omega (arith, get_below kept t None g, state.board.kept.count)

  pub gap_tells : (t : ℕ) → IsGap kept t → IsFalse (is_kept s H t)
  gap_tells t g = state.board.kept.each t None g

  pub one_lacks : (t : ℕ) → IsGap kept t → AreAllKept s H → ⊥
  one_lacks t g all = false≢true (sym (gap_tells t g) ∙ all t (gap_below t g))

  pub held_tells : (t : ℕ) → HasResult kept t → IsTrue (is_kept s H t)
  held_tells t h = (state.board.kept.each t (Some h.0) h.1).told

  pub all_kept : HaveResults kept → AreAllKept s H
  all_kept all t l = held_tells t (all t (omega (arith, l, state.board.kept.count)))

  pub least_lacking : (t : ℕ) → IsFirstGap kept t → IsLeastLacking s H t
  least_lacking t g = record { exists = gap_below t g.0; lacking = gap_tells t g.0; least = λ u l. held_tells u (g.1 u l) }

  -- the first gap, if there is one, is the first tile that is lacking
  pub first_found : (o : Option ℕ) → MatchOption o (HaveResults kept) (IsFirstGap kept) → IfSome o (IsLeastLacking s H)
  first_found None is = tt
  first_found (Some t) is = least_lacking t is

  pub none_found : (o : Option ℕ) → MatchOption o (HaveResults kept) (IsFirstGap kept) → IfNone o (AreAllKept s H)
  none_found None is = all_kept is
  none_found (Some t) is = tt

  pub window_told : (t : ℕ) (list : List Bool) → t < tiles_of s.scene.tiling → IsWindowMask (window_of s.scene.tiling t) (open_at held.mask) list → IsWindowMask (window_of s.scene.tiling t) (present_mask s H) list
  window_told t list l is = record {
    size = is.size;
    clear = λ x y w. (let p = within_tile s t l x y w in is.clear x y w ∙ mask_here state.past x y p.0 p.1);
  }

  -- the kept results are good under a mask that agrees with the present one
  pub kept_good : (mask : Field Bool) → ((x y : ℕ) → x < s.scene.tiling.width → y < s.scene.tiling.height → mask x y ≡ present_mask s H x y) → (results : List TileResult) → map Some results ≡ kept → AreGoodTiles s.scene mask results
  kept_good mask agrees results are = record {
    each = record {
      count = sym (length-map results Some) ∙ ap (λ (ks : List (Option TileResult)). length ks) are ∙ state.board.kept.count;
      own = λ t k q. (state.board.kept.each t (Some k) (there t k q)).tile;
    };
    good = λ t k q. (
        let is = state.board.kept.each t (Some k) (there t k q) in
        let l : k.tile < tiles_of s.scene.tiling = omega (arith, is.tile, get_below kept t (Some k) (there t k q), state.board.kept.count) in
        good_across s (present_mask s H) mask k l (λ x y a b e. sym (agrees x y a b)) is.good);
  }
    where
      there : (t : ℕ) (k : TileResult) → slice_get results t ≡ Some k → slice_get kept t ≡ Some (Some k)
      there t k q = ap (λ (ks : List (Option TileResult)). slice_get ks t) (sym are) ∙ slice_get-map Some results t ∙ ap (option_map Some) q

  -- a verdict under the mask that is held is one under the present mask
  pub verdict_told : (k : TileResult) (verdict : TileVerdict) → k.tile < tiles_of s.scene.tiling → IsTileVerdict s.scene (open_at held.mask) k verdict → IsTileVerdict s.scene (present_mask s H) k verdict
  verdict_told k verdict l is = verdict_under s.scene (open_at held.mask) (present_mask s H) k l (λ x y w. (let p = within_tile s k.tile l x y w in mask_here state.past x y p.0 p.1)) verdict is

  pub good_told : (k : TileResult) → k.tile < tiles_of s.scene.tiling → IsGoodTile s.scene (open_at held.mask) k → IsGoodTile s.scene (present_mask s H) k
  good_told k l good = good_across s (open_at held.mask) (present_mask s H) k l (λ x y a b e. mask_here state.past x y a b) good
