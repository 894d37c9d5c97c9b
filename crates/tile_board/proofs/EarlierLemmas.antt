-- Tiles and masks at two points of a history.
use Rattle.std.proofs.Common.{◌≡◌, ℕ, ◌<◌, ◌≤◌, sym, ◌∙◌, ap, subst, arith, Bool, List, [], ◌++◌, length, take}
use Rattle.std.proofs.lemmas.List.{append-nil, take-append-le}
use Rattle.std.proofs.lemmas.List.Elements.{filter_map-append}
use mathlib.Core.List.{IsPrefix}
use Rattle.raster_model.specs.declared.session.Session.{Session}
use Rattle.raster_model.specs.Masks.{IsMaskOf, open_at}
use Rattle.raster_model.specs.MaskView.{MaskView}
use Rattle.raster_model.specs.Sums.{Field}
use Rattle.raster_model.specs.Tiles.{tile_at}
use Rattle.certificates.specs.declared.results.TileResult.{TileResult}
use Rattle.certificates.specs.Results.{IsGoodTile}
use Rattle.mask_revisions.specs.Edits.{mask_after}
use Rattle.mask_revisions.proofs.CallerLemmas.{same_since_stamp}
use Rattle.tile_board.specs.declared.entry.Entry.{Entry}
use Rattle.tile_board.specs.BoardView.{BoardView}
use Rattle.tile_board.specs.Calls.{HasStamp, IsMaskNow, WasGood, WasGoodAt, WasMask, mask_now}
use Rattle.tile_board.specs.Histories.{edit_of, edits_of, mask_in, now_of, present_mask, stamp_in}
use Rattle.tile_board.proofs.HistoryLemmas.{present_is, stamp_within}
use Rattle.tile_board.proofs.KeptLemmas.{good_across}

-- a pixel is at its tile's stamp as it is now
pub same_at_stamp : (s : Session) (H : List Entry) (t r x y : ℕ) → r ≡ stamp_in s H t → x < s.scene.tiling.width → y < s.scene.tiling.height → tile_at s.scene.tiling x y ≡ t → mask_in s H r x y ≡ present_mask s H x y
same_at_stamp s H t r x y stamp a b e =
    let low : stamp_in s H (tile_at s.scene.tiling x y) ≤ r = omega (arith, stamp, ap (stamp_in s H) e) in
    let high : r ≤ length (edits_of H) = omega (arith, stamp, stamp_within s H t) in
    rw (present_is s H) (same_since_stamp s.scene.tiling (open_at s.first_mask) (edits_of H) x y a b r low high)

-- masks at revisions that were there stay over any number of entries
pub mask_still : (s : Session) (H K : List Entry) (r : ℕ) → IsPrefix H K → r ≤ now_of H → mask_in s K r ≡ mask_in s H r
mask_still s H K r p l =
    let edits : edits_of K ≡ edits_of H ++ edits_of p.0 = ap edits_of (sym p.1) ∙ filter_map-append edit_of H p.0 in
    ap (mask_after (open_at s.first_mask)) (ap (take r) edits ∙ take-append-le r (edits_of H) (edits_of p.0) l)

-- a result that was good is good while its tile has the same stamp
pub still_good : (s : Session) (H K : List Entry) (k : TileResult) → IsPrefix H K → WasGoodAt s H k → k.stamp ≡ stamp_in s K k.tile → IsGoodTile s.scene (present_mask s K) k
still_good s H K k p was stamp = good_across s (present_mask s H) (present_mask s K) k was.exists same was.good
  where
    still : mask_in s K k.stamp ≡ mask_in s H k.stamp
    still = mask_still s H K k.stamp p (omega (arith, was.stamp, stamp_within s H k.tile))

    same : (x y : ℕ) → x < s.scene.tiling.width → y < s.scene.tiling.height → tile_at s.scene.tiling x y ≡ k.tile → present_mask s H x y ≡ present_mask s K x y
    same x y a b e =
        let before = same_at_stamp s H k.tile k.stamp x y was.stamp a b e in
        let after = same_at_stamp s K k.tile k.stamp x y stamp a b e in
        sym before ∙ (sym (ap (λ (f : Field Bool). f x y) still) ∙ after)

-- of a board: what was good is good now, if its tile has its stamp
pub was_good : (v : BoardView) (k : TileResult) → WasGood v k → HasStamp v k → IsGoodTile v.session.scene (mask_now v) k
was_good v k is has = still_good v.session is.earlier v.entries k is.begins is.was has.1

-- what is good now was good at a point of the history, the present one
pub good_now : (v : BoardView) (k : TileResult) → HasStamp v k → IsGoodTile v.session.scene (mask_now v) k → WasGood v k
good_now v k has good = record {
  earlier = v.entries;
  begins = ([], append-nil v.entries);
  was = record { exists = has.0; stamp = has.1; good = good };
}

-- ---- masks at two points
-- the present mask stays while no edit is made
pub present_still : (s : Session) (H K : List Entry) → IsPrefix H K → now_of H ≡ now_of K → present_mask s K ≡ present_mask s H
present_still s H K p e = ap (mask_in s K) (sym e) ∙ mask_still s H K (now_of H) p (omega arith)

-- of a board: the mask of the present revision is the present one, at whichever point it was so
pub mask_is_now : (v : BoardView) (mask : MaskView) (r : ℕ) → WasMask v mask r → r ≡ now_of v.entries → IsMaskNow v mask
mask_is_now v mask r is now =
    subst (λ (f : Field Bool). IsMaskOf mask v.session.scene.phase.width v.session.scene.phase.height f) (sym (present_still v.session is.earlier v.entries is.begins (is.was.revision ∙ now))) is.was.present
