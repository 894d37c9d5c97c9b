-- Which tiles lack a result, after each change of the results.
use Rattle.std.proofs.Common.{◌≡◌, ◌≢◌, ℕ, zero, suc, ◌<◌, ◌≤◌, inl, inr, sym, ◌∙◌, ap, refl, subst, arith, Bool, false, List, length}
use Rattle.std.specs.Prelude.{Option, Some, None, ◌&&◌, ◌==◌, not, IsTrue, IsFalse, MatchOption, replicate, set, slice_get, slice_index}
use Rattle.std.proofs.lemmas.Bool.{cases_Bool, cases_eq}
use Rattle.std.proofs.lemmas.Bool.Decides.{nat_tests}
use Rattle.std.proofs.lemmas.List.{length-set, length-replicate}
use Rattle.raster_model.specs.declared.script.Edit.{Edit}
use Rattle.raster_model.specs.declared.tiling.Tiling.{Tiling}
use Rattle.raster_model.specs.MaskView.{MaskView}
use Rattle.raster_model.specs.Masks.{IsMaskOf, open_at}
use Rattle.raster_model.specs.Scripts.{rect_of}
use Rattle.raster_model.specs.Sums.{Field}
use Rattle.mask_revisions.specs.Edits.{edited, has_pixel, opens}
use Rattle.mask_revisions.specs.Revisions.{AreChanged, AreMet}
use Rattle.mask_revisions.proofs.Differences.{any_from, any_tells, chosen, differ_tells}
use Rattle.sums_and_lists.proofs.Tests.{true_and_false}
use Rattle.tile_board.specs.Lacking.{AreAllFresh, AreLacking, AreLackingIn, AreLackingWith, IsNextClaim, Keys, LackingView, but_for, is_below, is_empty, is_listed, lacks_in, with_listed}
use Rattle.tile_board.specs.Places.{AreSet}
use Rattle.tile_board.specs.States.{HasResult, HaveResults, IsGap}
use Rattle.tile_board.proofs.KeyLemmas.{lacking_same}
use Rattle.tile_board.proofs.ListLemmas.{get_set_here, get_set_there, none_below}

-- ---- gaps
module _ {A : Type 0} (kept : List (Option A)) where
  pub lacks_gap : (t : ℕ) → IsGap kept t → IsTrue (lacks_in kept t)
  lacks_gap t g = ap is_empty g

  empty_is : (place : Option (Option A)) → IsTrue (is_empty place) → place ≡ Some None
  empty_is None e = absurd (cc)
  empty_is (Some None) e = refl
  empty_is (Some (Some k)) e = absurd (cc)

  pub gap_lacks : (t : ℕ) → IsTrue (lacks_in kept t) → IsGap kept t
  gap_lacks t e = empty_is (slice_get kept t) e

  at : (t : ℕ) (place : Option (Option A)) → slice_get kept t ≡ place → t < length kept → IsFalse (is_empty place) → HasResult kept t
  at t None g l e = absurd (none_below kept t l g)
  at t (Some None) g l e = absurd (cc)
  at t (Some (Some k)) g l e = (k, g)

  pub results_lack : ((t : ℕ) → IsFalse (lacks_in kept t)) → HaveResults kept
  results_lack none t l = at t (slice_get kept t) refl l (none t)

  -- what the next claim says of the results
  pub next_is : (claims : List ℕ) (found : Option ℕ) → IsNextClaim (lacks_in kept) claims found → MatchOption found (HaveResults kept) (IsGap kept)
  next_is claims None is = results_lack is
  next_is claims (Some t) is = gap_lacks t is.lacking

  pub has_not_lack : (t : ℕ) → HasResult kept t → IsFalse (lacks_in kept t)
  has_not_lack t h = ap is_empty h.1

-- ---- no results
none_lack : (A : Type 0) (n t : ℕ) → is_below n t ≡ lacks_in (replicate {A = Option A} n None) t
none_lack A zero t = grind (arith, nat_tests)
none_lack A (suc n) zero = grind (arith, nat_tests)
none_lack A (suc n) (suc t) = (let e : is_below (suc n) (suc t) ≡ is_below n t = grind (arith, nat_tests) in e ∙ none_lack A n t)

pub all_lacking : {A : Type 0} (n : ℕ) (kept : List (Option A)) (v : LackingView) → kept ≡ replicate n None → length v.claims ≡ n → AreLacking (is_below n) v.claims v.keys → AreLackingIn kept v
all_lacking {A} n kept v e count keys = rw e (record {
  count = count ∙ sym (length-replicate {A = Option A} n None);
  keys = λ c t. keys c t ∙ ap (λ (x : Bool). x && (c == slice_index v.claims t)) (none_lack A n t);
})

-- ---- a result is kept
but_here : (l : Bool) (u : ℕ) → false ≡ (l && not (u == u))
but_here l u = grind (arith, nat_tests)

but_there : (l : Bool) (u t : ℕ) → t ≢ u → l ≡ (l && not (u == t))
but_there l u t d = grind (arith, nat_tests)

lack_but : {A : Type 0} (kept : List (Option A)) (u : ℕ) (k : A) → u < length kept → (t : ℕ) → lacks_in (set kept u (Some k)) t ≡ but_for (lacks_in kept) u t
lack_but kept u k l t = elim (cases_eq t u) [
  | inl e ↦ rw e (ap is_empty (get_set_here kept u (Some k) l) ∙ but_here (lacks_in kept u) u)
  | inr d ↦ ap is_empty (get_set_there kept u (Some k) t d) ∙ but_there (lacks_in kept t) u t d
]

pub lacking_keep : {A : Type 0} (kept : List (Option A)) (u : ℕ) (k : A) (old new : LackingView) → u < length kept → AreLackingIn kept old → length new.claims ≡ length old.claims → ((lacks : ℕ → Bool) → AreLacking lacks old.claims old.keys → AreLacking (but_for lacks u) new.claims new.keys) → AreLackingIn (set kept u (Some k)) new
lacking_keep kept u k old new l are count taken = record {
  count = count ∙ are.count ∙ sym (length-set kept u (Some k));
  keys = λ c t. taken (lacks_in kept) are.keys c t ∙ ap (λ (x : Bool). x && (c == slice_index new.claims t)) (sym (lack_but kept u k l t));
}

-- ---- results are taken away
lack_with : {A : Type 0} (kept kept' : List (Option A)) (tiles : List ℕ) (n : ℕ) → AreSet kept kept' tiles n None → (t : ℕ) → with_listed (lacks_in kept) tiles n t ≡ lacks_in kept' t
lack_with kept kept' tiles n is t = elim (cases_Bool (is_listed tiles n t)) [
  | inl h ↦ (
      let u = any_tells n (λ i. slice_index tiles i == t) h in
      let e : slice_index tiles u.0 ≡ t = same (slice_index tiles u.0) t u.2 in
      rw h (sym (ap is_empty (subst (λ (x : ℕ). slice_get kept' x ≡ Some None) e (is.given u.0 u.1)))))
  | inr h ↦ rw h (sym (ap is_empty (is.others t (λ i l e. true_and_false (is_listed tiles n t) (any_from n (λ i. slice_index tiles i == t) i l (here (slice_index tiles i) t e)) h))))
]
  where
    same : (a b : ℕ) → IsTrue (a == b) → a ≡ b
    same a b h = grind (arith, nat_tests)

    here : (a b : ℕ) → a ≡ b → IsTrue (a == b)
    here a b e = grind (arith, nat_tests)

pub lacking_emptied : {A : Type 0} (kept kept' : List (Option A)) (tiles : List ℕ) (fresh : ℕ → Bool) (claims : List ℕ) (keys : Keys) → AreSet kept kept' tiles (length tiles) None → AreLackingWith (with_listed (lacks_in kept) tiles (length tiles)) fresh claims keys → AreLackingWith (lacks_in kept') fresh claims keys
lacking_emptied kept kept' tiles fresh claims keys is = lacking_same (with_listed (lacks_in kept) tiles (length tiles)) (lacks_in kept') fresh fresh claims keys (lack_with kept kept' tiles (length tiles) is) (λ t. refl)

-- ---- each tile that an edit changes is one that its box meets
pub listed_at : (tiles : List ℕ) (n i t : ℕ) → i < n → slice_index tiles i ≡ t → IsTrue (is_listed tiles n t)
listed_at tiles n i t l e = any_from n (λ i. slice_index tiles i == t) i l (here (slice_index tiles i) t e)
  where
    here : (a b : ℕ) → a ≡ b → IsTrue (a == b)
    here a b e = grind (arith, nat_tests)

pub listed_longer : (tiles : List ℕ) (n m t : ℕ) → n ≤ m → IsTrue (is_listed tiles n t) → IsTrue (is_listed tiles m t)
listed_longer tiles n m t l h = (let u = any_tells n (λ i. slice_index tiles i == t) h in any_from m (λ i. slice_index tiles i == t) u.0 (omega (arith, u.1, l)) u.2)

pub changed_are_met : (g : Tiling) (old : Field Bool) (mask : MaskView) (edit : Edit) (tiles met : List ℕ) → IsMaskOf mask g.width g.height (edited edit old) → AreChanged g old (open_at mask) tiles → AreMet g (rect_of edit) met → AreAllFresh (is_listed met (length met)) tiles (length tiles)
changed_are_met g old mask edit tiles met now changed are i l =
    let d = differ_tells g old (open_at mask) (slice_index tiles i) (changed.changed i l) in
    let box = chosen (has_pixel (rect_of edit) d.0 d.1) (opens edit) (old d.0 d.1) (λ e. d.5 (e ∙ sym (now.clear_at d.0 d.1 d.2 d.3))) in
    let u = are.all (slice_index tiles i) (d.0, d.1, d.2, d.3, box.0, d.4) in
    listed_at met (length met) u.0 (slice_index tiles i) u.1 u.2
