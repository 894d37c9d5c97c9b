-- Kept results under a longer history.
use Rattle.std.proofs.Common.{◌≡◌, ℕ, ◌+◌, ◌<◌, inl, inr, sym, ◌∙◌, ap, refl, subst, arith, Bool, true, false, List, [], ◌∷◌, ◌++◌, length}
use Rattle.std.specs.Prelude.{Option, Some, None, set, slice_get, ◌==◌, if◌then◌else◌, replicate}
use Rattle.std.specs.List.{list_any}
use Rattle.std.proofs.lemmas.List.{length-set, length-replicate}
use Rattle.raster_model.specs.declared.script.Edit.{Edit}
use Rattle.raster_model.specs.declared.session.Session.{Session}
use Rattle.raster_model.specs.Masks.{open_at}
use Rattle.raster_model.specs.Sums.{Field}
use Rattle.raster_model.specs.Tiles.{tile_at, tiles_of, window_of, IsWithin}
use Rattle.raster_model.proofs.TileLemmas.{window_of-pixels}
use Rattle.certificates.specs.declared.results.TileResult.{TileResult}
use Rattle.certificates.specs.Results.{IsGoodTile}
use Rattle.certificates.proofs.CallerLemmas.{good_under}
use Rattle.mask_revisions.specs.Edits.{differ_in, stamp_of}
use Rattle.mask_revisions.proofs.Differences.{same_from}
use Rattle.mask_revisions.proofs.Histories.{stamp_of-push}
use Rattle.tile_board.specs.declared.entry.Entry.{Entry}
use Rattle.tile_board.specs.declared.entry.Entry.TheVariants.{Revised, Kept}
use Rattle.tile_board.specs.Boards.{AreKept, IsHeld, IsPlace}
use Rattle.tile_board.specs.Histories.{IsLegal, edit_of, edits_of, is_kept, keeps, now_of, present_mask, stamp_in}
use Rattle.tile_board.proofs.HistoryLemmas.{edits_more, keeps_push, kept_push, kept_same, none_later, present_is, present_more, present_same, stamp_same}
use Rattle.tile_board.proofs.ListLemmas.{get_below, get_set, get_replicate}
use Rattle.std.proofs.lemmas.Bool.{and_from, or_right, eq-eqb}
use Rattle.sums_and_lists.proofs.Tests.{or_false}
use Rattle.sums_and_lists.proofs.Orders.{not_equal}

-- ---- masks that agree in a tile's window
pub within_tile : (s : Session) (t : ℕ) → t < tiles_of s.scene.tiling → (x y : ℕ) → IsWithin (window_of s.scene.tiling t) x y → (x < s.scene.tiling.width) × (y < s.scene.tiling.height) × (tile_at s.scene.tiling x y ≡ t)
within_tile s t l x y w =
    let is = window_of-pixels s.scene.tiling t l in
    let a : x < s.scene.tiling.width = omega (arith, w.1, is.across.1) in
    let b : y < s.scene.tiling.height = omega (arith, w.3, is.along.1) in
    (a, b, (is.pixels x y a b).1 w)

pub good_across : (s : Session) (mask mask' : Field Bool) (k : TileResult) → k.tile < tiles_of s.scene.tiling → ((x y : ℕ) → x < s.scene.tiling.width → y < s.scene.tiling.height → tile_at s.scene.tiling x y ≡ k.tile → mask x y ≡ mask' x y) → IsGoodTile s.scene mask k → IsGoodTile s.scene mask' k
good_across s mask mask' k l same good = good_under s.scene mask mask' k l (λ x y w. (let p = within_tile s k.tile l x y w in same x y p.0 p.1 p.2)) good

-- ---- places
place_same : (s : Session) (H K : List Entry) (t : ℕ) (place : Option TileResult) → is_kept s H t ≡ is_kept s K t → stamp_in s H t ≡ stamp_in s K t → present_mask s H ≡ present_mask s K → IsPlace s H t place → IsPlace s K t place
place_same s H K t None a b m p = sym a ∙ p
place_same s H K t (Some k) a b m p = record {
  told = sym a ∙ p.told;
  tile = p.tile;
  stamp = p.stamp ∙ b;
  good = subst (λ (f : Field Bool). IsGoodTile s.scene f k) m p.good;
}

pub kept_none : (s : Session) → AreKept s [] (replicate (tiles_of s.scene.tiling) None)
kept_none s = record {
  count = length-replicate (tiles_of s.scene.tiling) None;
  each = λ t place g. subst (IsPlace s [] t) (get_replicate (tiles_of s.scene.tiling) None t place g) refl;
}

-- ---- an entry that neither keeps nor revises
pub kept_on : (s : Session) (H : List Entry) (e : Entry) (kept : List (Option TileResult)) → edit_of e ≡ None → ((t r : ℕ) → keeps t r e ≡ false) → AreKept s H kept → AreKept s (H ++ (e ∷ [])) kept
kept_on s H e kept n away are = record {
  count = are.count;
  each = λ t place g. place_same s H (H ++ (e ∷ [])) t place (kept_same s H e t n (away t (stamp_in s H t))) (stamp_same s H e t n) (present_same s H e n) (are.each t place g);
}

-- ---- a kept result
pub kept_here : (s : Session) (H : List Entry) (t r u : ℕ) → u ≡ t → r ≡ stamp_in s H t → is_kept s (H ++ (Kept t r ∷ [])) u ≡ true
kept_here s H t r u q stamp =
    kept_push s H (Kept t r) u refl
    ∙ or_right (is_kept s H u) (keeps u (stamp_in s H u) (Kept t r)) (and_from (t == u) (r == stamp_in s H u) (eq-eqb t u (sym q)) (eq-eqb r (stamp_in s H u) (stamp ∙ ap (stamp_in s H) (sym q))))

pub kept_elsewhere : (s : Session) (H : List Entry) (t r u : ℕ) → (u ≡ t → ⊥) → is_kept s H u ≡ is_kept s (H ++ (Kept t r ∷ [])) u
kept_elsewhere s H t r u d = kept_same s H (Kept t r) u refl (not_equal t u (r == stamp_in s H u) d)

pub kept_keep : (s : Session) (H : List Entry) (k : TileResult) (kept : List (Option TileResult)) → k.stamp ≡ stamp_in s H k.tile → IsGoodTile s.scene (present_mask s H) k → AreKept s H kept → AreKept s (H ++ (Kept k.tile k.stamp ∷ [])) (set kept k.tile (Some k))
kept_keep s H k kept stamp good are = record {
  count = length-set kept k.tile (Some k) ∙ are.count;
  each = λ u place g. elim (get_set kept k.tile (Some k) u place g) [
    | inl h ↦ subst (IsPlace s K u) h.1 (here u h.0)
    | inr h ↦ place_same s H K u place (kept_elsewhere s H k.tile k.stamp u h.0) (stamp_same s H e u refl) (present_same s H e refl) (are.each u place h.1)
  ];
}
  where
    e : Entry
    e = Kept k.tile k.stamp

    K : List Entry
    K = H ++ (e ∷ [])

    here : (u : ℕ) → u ≡ k.tile → IsHeld s K u k
    here u q = record {
      told = kept_here s H k.tile k.stamp u q stamp;
      tile = sym q;
      stamp = stamp ∙ ap (stamp_in s H) (sym q) ∙ stamp_same s H e u refl;
      good = subst (λ (f : Field Bool). IsGoodTile s.scene f k) (present_same s H e refl) good;
    }

-- ---- a revision
module _ (s : Session) (H : List Entry) (a : ℕ) (c : Edit) where
  abbrev K : List Entry
  K = H ++ (Revised a c ∷ [])

  abbrev differs : ℕ → Bool
  differs t = differ_in s.scene.tiling (present_mask s H) (present_mask s K) t

  stamp_more : (t : ℕ) → stamp_in s K t ≡ (if differs t then now_of H + 1 else stamp_in s H t)
  stamp_more t =
      rw (present_is s H, present_more s H a c)
      (ap (λ (l : List Edit). stamp_of s.scene.tiling (open_at s.first_mask) l t) (edits_more H a c) ∙ stamp_of-push s.scene.tiling (open_at s.first_mask) (edits_of H) c t)

  same_keeps : (t r : ℕ) → list_any (keeps t r) K ≡ list_any (keeps t r) H
  same_keeps t r = keeps_push t r H (Revised a c) ∙ or_false (list_any (keeps t r) H)

  stamp_stays : (t : ℕ) → differs t ≡ false → stamp_in s K t ≡ stamp_in s H t
  stamp_stays t d = rw d at (stamp_more t)

  -- a tile in which the mask changes is kept no longer, and the others are kept as they were
  pub kept_gone : IsLegal s H → (t : ℕ) → differs t ≡ true → is_kept s K t ≡ false
  kept_gone legal t d =
      let stamp : stamp_in s K t ≡ now_of H + 1 = rw d at (stamp_more t) in
      ap (λ (r : ℕ). list_any (keeps t r) K) stamp ∙ same_keeps t (now_of H + 1) ∙ none_later s H legal t (now_of H + 1) (omega arith)

  pub kept_stays : (t : ℕ) → differs t ≡ false → is_kept s K t ≡ is_kept s H t
  kept_stays t d = ap (λ (r : ℕ). list_any (keeps t r) K) (stamp_stays t d) ∙ same_keeps t (stamp_in s H t)

  module _ (kept kept' : List (Option TileResult)) (legal : IsLegal s H) (count : length kept' ≡ length kept) (places : (t : ℕ) → t < tiles_of s.scene.tiling → slice_get kept' t ≡ (if differs t then Some None else slice_get kept t)) (are : AreKept s H kept) where
    gone : (place : Option TileResult) → Some None ≡ Some place → None ≡ place
    gone place h = cc

    at : (t : ℕ) (place : Option TileResult) → t < tiles_of s.scene.tiling → (b : Bool) → differs t ≡ b → (if b then Some None else slice_get kept t) ≡ Some place → IsPlace s K t place
    at t place l true d g = subst (IsPlace s K t) (gone place g) (kept_gone legal t d)
    at t None l false d g = kept_stays t d ∙ are.each t None g
    at t (Some k) l false d g =
        let held = are.each t (Some k) g in
        record {
          told = kept_stays t d ∙ held.told;
          tile = held.tile;
          stamp = held.stamp ∙ sym (stamp_stays t d);
          good = good_across s (present_mask s H) (present_mask s K) k (rw held.tile l) (λ x y p q e. same_from s.scene.tiling (present_mask s H) (present_mask s K) t d x y p q (e ∙ held.tile)) held.good;
        }

    pub kept_revised : AreKept s K kept'
    kept_revised = record {
      count = count ∙ are.count;
      each = λ t place g. (
          let l : t < tiles_of s.scene.tiling = omega (arith, get_below kept' t place g, count, are.count) in
          at t place l (differs t) refl (sym (places t l) ∙ g));
    }
