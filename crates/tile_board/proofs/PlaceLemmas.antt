-- Places of results: which have one, copies, and places that were emptied.
use Rattle.std.proofs.Common.{◌≡◌, ◌≢◌, ℕ, ◌+◌, ◌<◌, ◌≤◌, inl, inr, sym, ◌∙◌, ap, refl, subst, arith, true, false, List, length}
use Rattle.std.specs.Prelude.{Option, Some, None, is_some, set, slice_get, slice_index}
use Rattle.std.proofs.lemmas.Bool.{cases_eq}
use Rattle.std.proofs.lemmas.List.{length-set}
use Rattle.tile_board.specs.Places.{AreSet}
use Rattle.tile_board.specs.States.{HasResult, HaveResults, IsGap}
use Rattle.tile_board.proofs.ListLemmas.{get_set_here, get_set_there}
use Rattle.sums_and_lists.proofs.Orders.{below_or_last}

-- a place is a gap or has a result
pub gap_at : {A : Type 0} (kept : List (Option A)) (t : ℕ) (place : Option A) → slice_get kept t ≡ Some place → is_some place ≡ false → IsGap kept t
gap_at kept t None e n = e
gap_at kept t (Some k) e n = absurd (cc)

pub result_at : {A : Type 0} (kept : List (Option A)) (t : ℕ) (place : Option A) → slice_get kept t ≡ Some place → is_some place ≡ true → HasResult kept t
result_at kept t None e n = absurd (cc)
result_at kept t (Some k) e n = (k, e)

pub results_on : {A : Type 0} (kept : List (Option A)) (t : ℕ) → ((u : ℕ) → u < t → HasResult kept u) → HasResult kept t → (u : ℕ) → u < t + 1 → HasResult kept u
results_on kept t before here u l = elim (below_or_last u t l) [ inl m ↦ before u m | inr e ↦ subst (HasResult kept) (sym e) here ]

-- ---- places that were given a value
pub set_none : {A : Type 0} (items : List A) (places : List ℕ) (value : A) → AreSet items items places 0 value
set_none items places value = record { count = refl; given = λ i l. absurd (omega arith); others = λ t n. refl }

pub set_one_more : {A : Type 0} (old new : List A) (places : List ℕ) (n : ℕ) (value : A) → AreSet old new places n value → slice_index places n < length new → AreSet old (set new (slice_index places n) value) places (n + 1) value
set_one_more old new places n value is inside = record {
  count = length-set new (slice_index places n) value ∙ is.count;
  given = λ i l. elim (cases_eq (slice_index places i) (slice_index places n)) [
    | inl e ↦ rw e (get_set_here new (slice_index places n) value inside)
    | inr d ↦ elim (below_or_last i n l) [
      | inl m ↦ get_set_there new (slice_index places n) value (slice_index places i) d ∙ is.given i m
      | inr e ↦ absurd (d (ap (slice_index places) e))
    ]
  ];
  others = λ t away. (
      let d : t ≢ slice_index places n = λ e. away n (omega arith) (sym e) in
      get_set_there new (slice_index places n) value t d ∙ is.others t (λ i l. away i (omega arith)));
}

pub until_end : {A : Type 0} (kept : List (Option A)) (t : ℕ) → length kept ≤ t → ((u : ℕ) → u < t → HasResult kept u) → HaveResults kept
until_end kept t l before u m = before u (omega (arith, l, m))

pub no_gap : {A : Type 0} (kept : List (Option A)) (t : ℕ) → HasResult kept t → IsGap kept t → ⊥
no_gap kept t has gap = cc
