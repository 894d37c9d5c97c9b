-- Lists of numbers that rise.
use Rattle.std.proofs.Common.{◌≡◌, ◌∙◌, ℕ, ◌+◌, ◌-◌, ◌<◌, ◌≤◌, List, [], ◌∷◌, length, get_or, take, drop, Some, refl, ap, sym, subst, arith, length-append}
use Rattle.std.specs.Prelude.{IfSome, ◌++◌, Result, slice_get}
use Rattle.std.specs.Result.{MatchResult}
use Rattle.std.specs.List.Sorted.{IsBinarySearchResult}
use Rattle.std.specs.Ordering.{nat_cmp}
use Rattle.std.proofs.lemmas.List.Sorted.{searched}
use Rattle.std.specs.List.{insert}
use Rattle.std.proofs.lemmas.List.{get_or_append_left, get_or_push, length-drop, length-take-le, length_push, take-append-drop}
use Rattle.std.proofs.lemmas.List.Edits.{get_or-insert_above, get_or-insert_at, get_or-insert_below}
use Rattle.std.proofs.lemmas.Option.{get_or_from_slice_get, slice_get-get_or, slice_get_within}
use mathlib.Core.Logic.{dite}
use native.Mathlib.Decide.{dec_lt}
use Rattle.tile_workers.specs.Watching.{HasOneMore, Keeps, Rises}

-- the same by places within the list
abbrev pub Up : List ℕ → Type 0
Up xs = (i j : ℕ) → i < j → j < length xs → get_or xs i 0 < get_or xs j 0

pub up_of : (xs : List ℕ) → Rises xs → Up xs
up_of xs up i j l m = up i j (get_or xs i 0) (get_or xs j 0) l (slice_get-get_or xs i 0 (omega (arith, l, m))) (slice_get-get_or xs j 0 m)

pub rises_of : (xs : List ℕ) → Up xs → Rises xs
rises_of xs up i j a b l ai bj =
    let ea : get_or xs i 0 ≡ a = get_or_from_slice_get xs i a 0 ai in
    let eb : get_or xs j 0 ≡ b = get_or_from_slice_get xs j b 0 bj in
    let below : get_or xs i 0 < get_or xs j 0 = up i j l (slice_get_within xs j b bj) in
    omega (arith, ea, eb, below)

-- all are below a number that is above the last one
all_below : (xs : List ℕ) (r : ℕ) → Up xs → IfSome (slice_get xs (length xs - 1)) (λ l. l < r) → (k : ℕ) → k < length xs → get_or xs k 0 < r
all_below xs r up above k m =
    let n : ℕ = length xs - 1 in
    let last : get_or xs n 0 < r = rw (slice_get-get_or xs n 0 (omega (arith, m))) at above in
    dite (dec_lt k n)
    (λ less. omega (arith, last, up k n less (omega (arith, m))))
    (λ not. (let e : k ≡ n = omega (arith, not, m) in omega (arith, last, ap (λ (i : ℕ). get_or xs i 0) e)))

pub rises_push : (xs : List ℕ) (r : ℕ) → Rises xs → IfSome (slice_get xs (length xs - 1)) (λ l. l < r) → Rises (xs ++ r ∷ [])
rises_push xs r rises above = rises_of (xs ++ r ∷ []) up
  where
    was : Up xs
    was = up_of xs rises

    up : Up (xs ++ r ∷ [])
    up i j l m =
        let many : length (xs ++ r ∷ []) ≡ length xs + 1 = length_push xs r in
        let left : get_or (xs ++ r ∷ []) i 0 ≡ get_or xs i 0 = get_or_append_left xs (r ∷ []) 0 i (omega (arith, l, m, many)) in
        dite (dec_lt j (length xs))
        (λ less. omega (arith, left, get_or_append_left xs (r ∷ []) 0 j less, was i j l less))
        (λ not. omega (arith, left, get_or_push xs r 0 j (omega (arith, not, m, many)), all_below xs r was above i (omega (arith, l, m, many))))

module _ (xs : List ℕ) (at r : ℕ) (rises : Rises xs) (within : at ≤ length xs) (low : (k : ℕ) → k < at → get_or xs k 0 < r) (high : (k : ℕ) → at ≤ k → k < length xs → r < get_or xs k 0) where
  put : List ℕ
  put = insert xs at r

  was : Up xs
  was = up_of xs rises

  many : length (insert xs at r) ≡ length xs + 1
  many = length-append (take at xs) (r ∷ drop at xs) ∙ omega (arith, length-take-le at xs within, length-drop at xs, within)

  before : (k : ℕ) → k < at → get_or (insert xs at r) k 0 ≡ get_or xs k 0
  before k l = get_or-insert_below xs at r 0 k l within

  here : (k : ℕ) → k ≡ at → get_or (insert xs at r) k 0 ≡ r
  here k e = ap (λ (n : ℕ). get_or (insert xs at r) n 0) e ∙ get_or-insert_at xs at r 0 within

  after : (k : ℕ) → at < k → get_or (insert xs at r) k 0 ≡ get_or xs (k - 1) 0
  after k l = (let e : k ≡ (k - 1) + 1 = omega (arith, l) in ap (λ (n : ℕ). get_or (insert xs at r) n 0) e ∙ get_or-insert_above xs at r 0 (k - 1) (omega (arith, l)) within)

  up_insert : Up (insert xs at r)
  up_insert i j l m = dite (dec_lt j at)
      (λ less. omega (arith, before i (omega (arith, l, less)), before j less, was i j l (omega (arith, less, within))))
      (λ not. dite (dec_lt at j) above (λ same. omega (arith, here j (omega (arith, not, same)), before i (omega (arith, l, same)), low i (omega (arith, l, same)))))
    where
      above : at < j → get_or (insert xs at r) i 0 < get_or (insert xs at r) j 0
      above far = dite (dec_lt i at)
          (λ less. omega (arith, before i less, after j far, low i less, high (j - 1) (omega (arith, far)) (omega (arith, far, m, many))))
          (λ not. dite (dec_lt at i)
          (λ more. omega (arith, after i more, after j far, was (i - 1) (j - 1) (omega (arith, l, more)) (omega (arith, far, m, many))))
          (λ same. omega (arith, here i (omega (arith, not, same)), after j far, high (j - 1) (omega (arith, far)) (omega (arith, far, m, many)))))

  pub rises_insert : Rises (insert xs at r)
  rises_insert = rises_of (insert xs at r) up_insert

pub one_more : (xs : List ℕ) (at r : ℕ) → HasOneMore xs (insert xs at r) r
one_more xs at r = record { below = take at xs; above = drop at xs; was = sym (take-append-drop at xs); is = refl }

pub keeps_at : (xs : List ℕ) (at r : ℕ) → at < length xs → get_or xs at 0 ≡ r → Keeps xs r
keeps_at xs at r l e = (at, slice_get-get_or xs at 0 l ∙ ap Some e)

-- what a binary search found
abbrev pub Found : List ℕ → ℕ → Result ℕ ℕ → Type 0
Found xs r answer = MatchResult answer (λ i. (i < length xs) × (get_or xs i 0 ≡ r)) (λ i. (i ≤ length xs) × ((k : ℕ) → k < i → get_or xs k 0 < r) × ((k : ℕ) → i ≤ k → k < length xs → r < get_or xs k 0))

pub found : (xs ys : List ℕ) (r : ℕ) (answer told : Result ℕ ℕ) → answer ≡ told → ys ≡ xs → Rises xs → IsBinarySearchResult (λ y. nat_cmp y r) ys answer → Found xs r told
found xs ys r answer told is same rises searches =
    let s : IsBinarySearchResult (λ y. nat_cmp y r) xs told = subst (λ (p : List ℕ × Result ℕ ℕ). IsBinarySearchResult (λ y. nat_cmp y r) p.0 p.1) (λ i. (same i, is i)) searches in
    searched xs r told s no_fall
  where
    no_fall : (i j : ℕ) → i ≤ j → j < length xs → get_or xs i 0 ≤ get_or xs j 0
    no_fall i j l m = dite (dec_lt i j)
        (λ less. omega (arith, up_of xs rises i j less m))
        (λ not. (let e : i ≡ j = omega (arith, not, l) in omega (arith, ap (λ (n : ℕ). get_or xs n 0) e)))
