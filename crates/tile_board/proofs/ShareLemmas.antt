-- Shares of the tiles that have no result.
use Rattle.std.proofs.Common.{◌≡◌, ℕ, zero, suc, ◌+◌, ◌<◌, sym, ◌∙◌, ap, refl, subst, arith, Bool, false, List, [], ◌∷◌, length}
use Rattle.std.specs.Prelude.{Option, Some, None, ◌&&◌, ◌||◌, ◌==◌, IsFalse, IsTrue, count_by, is_none, max, min, slice_get, slice_index}
use Rattle.std.specs.BTreeMap.{is_at}
use Rattle.std.specs.BTreeSet.{IsOrdered, btree_set_len}
use Rattle.std.specs.Cmp.{IsTotalOrder}
use Rattle.std.specs.List.{AllByRecursion, IsDistinct, filter, list_any}
use Rattle.std.specs.Ordering.{eq_by_cmp}
use Rattle.std.proofs.lemmas.Bool.Decides.{nat_tests}
use Rattle.std.proofs.lemmas.Cmp.{eq_by_cmp_equiv, nat_cmp_total, on_total, then_total}
use Rattle.std.proofs.lemmas.List.Sums.{length-filter}
use Rattle.std.proofs.lemmas.Map.Keys.{IsDistinct-cons, IsDistinct-from_sorted}
use Rattle.std.proofs.lemmas.Map.Made.{length-from_same_keys}
use Rattle.std.proofs.lemmas.Bool.{false≢true}
use Rattle.std.proofs.Math.Nat.{div-le_self}
use Rattle.raster_model.specs.declared.session.Session.{Session}
use Rattle.raster_model.specs.Tiles.{tiles_of}
use Rattle.tile_board.specs.declared.ticket.Ticket.{Ticket}
use Rattle.tile_board.specs.BoardView.{BoardView}
use Rattle.tile_board.specs.Calls.{IsClaim, share_size}
use Rattle.tile_board.specs.Histories.{AreAllKept}
use Rattle.tile_board.specs.Lacking.{AreLackingIn, LackingView, is_empty, is_key, key_order, lacks_in}
use Rattle.tile_board.proofs.KeyLemmas.{key_at}

-- where a tile was claimed, one is not kept
pub claim_lacks : (v : BoardView) (ticket : Ticket) → IsClaim v ticket → AreAllKept v.session v.entries → ⊥
claim_lacks v ticket is all = false≢true (sym is.lacking ∙ all ticket.tile (subst (λ (s : Session). ticket.tile < tiles_of s.scene.tiling) is.session ticket.exists))

-- ---- there are as many keys as tiles that have no result
total : IsTotalOrder key_order
total = then_total (on_total (λ (p : ℕ × ℕ). p.0) nat_cmp_total) (on_total (λ (p : ℕ × ℕ). p.1) nat_cmp_total)

other_tile : (c t x a : ℕ) → t < a → is_key c t x a ≡ false
other_tile c t x a l = grind (arith, nat_tests)

neither : (x y : Bool) → x ≡ false → y ≡ false → (x || y) ≡ false
neither x y e f = rw (e, f) refl

only_here : (c t x a : ℕ) (rest : Bool) → t ≡ a → rest ≡ false → (is_key c t x a || rest) ≡ (c == x)
only_here c t x a rest e f = grind (arith, nat_tests)

-- the keys of the places that have no result, if the first place has the number a
module _ {A : Type 0} (claims : List ℕ) where
  abbrev keys_from : List (Option A) → ℕ → List (ℕ × ℕ)
  keys_from [] a = []
  keys_from (None ∷ ks) a = (slice_index claims a, a) ∷ keys_from ks (suc a)
  keys_from (Some k ∷ ks) a = keys_from ks (suc a)

  counted : (ks : List (Option A)) (a : ℕ) → length (keys_from ks a) ≡ length (filter is_none ks)
  counted [] a = refl
  counted (None ∷ ks) a = ap suc (counted ks (suc a))
  counted (Some k ∷ ks) a = counted ks (suc a)

  apart : (ks : List (Option A)) (a c t : ℕ) → t < a → AllByRecursion (λ (y : ℕ × ℕ). eq_by_cmp key_order (c, t) y ≡ false) (keys_from ks a)
  apart [] a c t l = tt
  apart (None ∷ ks) a c t l = (key_at c t (slice_index claims a) a ∙ other_tile c t (slice_index claims a) a l, apart ks (suc a) c t (omega (arith, l)))
  apart (Some k ∷ ks) a c t l = apart ks (suc a) c t (omega (arith, l))

  distinct : (ks : List (Option A)) (a : ℕ) → IsDistinct (eq_by_cmp key_order) (keys_from ks a)
  unfolding IsDistinct
  distinct [] a = tt
  distinct (None ∷ ks) a = IsDistinct-cons (eq_by_cmp key_order) (slice_index claims a, a) (keys_from ks (suc a)) (apart ks (suc a) (slice_index claims a) a (omega arith)) (distinct ks (suc a))
  distinct (Some k ∷ ks) a = distinct ks (suc a)

  not_there : (ks : List (Option A)) (a c t : ℕ) → t < a → list_any (is_at (key_order (c, t))) (keys_from ks a) ≡ false
  not_there [] a c t l = refl
  not_there (None ∷ ks) a c t l = neither _ _ (key_at c t (slice_index claims a) a ∙ other_tile c t (slice_index claims a) a l) (not_there ks (suc a) c t (omega (arith, l)))
  not_there (Some k ∷ ks) a c t l = not_there ks (suc a) c t (omega (arith, l))

  there : (ks : List (Option A)) (a c t j : ℕ) → t ≡ a + j → list_any (is_at (key_order (c, t))) (keys_from ks a) ≡ (is_empty (slice_get ks j) && (c == slice_index claims t))
  there [] a c t zero e = refl
  there [] a c t (suc j) e = refl
  there (None ∷ ks) a c t zero e = (
      let here : t ≡ a = omega (arith, e) in
      ap (λ (b : Bool). b || list_any (is_at (key_order (c, t))) (keys_from ks (suc a))) (key_at c t (slice_index claims a) a)
      ∙ only_here c t (slice_index claims a) a _ here (not_there ks (suc a) c t (omega (arith, here)))
      ∙ ap (λ (n : ℕ). c == slice_index claims n) (sym here))
  there (None ∷ ks) a c t (suc j) e = (
      let later : a < t = omega (arith, e) in
      ap (λ (b : Bool). b || list_any (is_at (key_order (c, t))) (keys_from ks (suc a))) (key_at c t (slice_index claims a) a ∙ earlier_tile c t (slice_index claims a) a later)
      ∙ there ks (suc a) c t j (omega (arith, e)))
    where
      earlier_tile : (c t x a : ℕ) → a < t → is_key c t x a ≡ false
      earlier_tile c t x a l = grind (arith, nat_tests)
  there (Some k ∷ ks) a c t zero e = not_there ks (suc a) c t (omega (arith, e))
  there (Some k ∷ ks) a c t (suc j) e = there ks (suc a) c t j (omega (arith, e))

pub keys_count : {A : Type 0} (kept : List (Option A)) (v : LackingView) → IsOrdered key_order v.keys → AreLackingIn kept v → btree_set_len v.keys ≡ count_by is_none kept
keys_count kept v ordered are =
    let other = keys_from v.claims kept 0 in
    length-from_same_keys (eq_by_cmp_equiv total) v.keys.keys other (IsDistinct-from_sorted key_order v.keys.keys ordered) (distinct v.claims kept 0) (λ q. are.keys q.0 q.1 ∙ sym (there v.claims kept 0 q.0 q.1 q.1 (omega arith)))
    ∙ (counted v.claims kept 0 ∙ length-filter is_none kept)

-- ---- a share has as many tiles as it should: no more than there are without a result
pub share_within : (lacking parts most : ℕ) → 0 < lacking → min (share_size lacking parts most) lacking ≡ share_size lacking parts most
share_within lacking parts most some = let part = div-le_self lacking (max 1 parts) in grind arith

module _ {A : Type 0} where
  none_found : (kept : List (Option A)) → length (filter is_none kept) ≡ 0 → (t : ℕ) → IsFalse (lacks_in kept t)
  none_found [] e zero = refl
  none_found [] e (suc t) = refl
  none_found (None ∷ kept) e t = absurd (omega (arith, e))
  none_found (Some k ∷ kept) e zero = refl
  none_found (Some k ∷ kept) e (suc t) = none_found kept e t

  one_found : (kept : List (Option A)) → 0 < length (filter is_none kept) → (t : ℕ) × IsTrue (lacks_in kept t)
  one_found [] l = absurd (omega (arith, l))
  one_found (None ∷ kept) l = (0, refl)
  one_found (Some k ∷ kept) l = (let rest = one_found kept l in (suc rest.0, rest.1))

  pub none_counted : (kept : List (Option A)) → count_by is_none kept ≡ 0 → (t : ℕ) → IsFalse (lacks_in kept t)
  none_counted kept e = none_found kept (length-filter is_none kept ∙ e)

  pub one_counted : (kept : List (Option A)) → 0 < count_by is_none kept → (t : ℕ) × IsTrue (lacks_in kept t)
  one_counted kept l = one_found kept (omega (arith, l, length-filter is_none kept))
