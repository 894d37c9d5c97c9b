-- What holds of one item and of those behind it holds of all.
use Rattle.std.proofs.Common.{◌≡◌, ℕ, zero, suc, ◌+◌, ◌-◌, ◌<◌, List, [], ◌∷◌, ◌++◌, inl, inr, arith, ap, get_or, length, length-append, refl, subst, set}
use Rattle.std.proofs.lemmas.Bool.{cases_lt}
use Rattle.std.proofs.lemmas.List.{get_or_append_left, get_or-append_right}
use Rattle.side_by_side.specs.Chains.{AreDone, AreReady}

-- a list of one
only : {X : Type 0} (xs : List X) → length xs ≡ 1 → (x : X) × (xs ≡ x ∷ [])
only [] one = absurd (omega (arith, one))
only (x ∷ []) one = (x, refl)
only (x ∷ y ∷ xs) one = absurd (omega (arith, one))

-- what is asked of the others
behind_ready : {X : Type 0} (P : ℕ → X → Type 0) (a : ℕ) (x : X) (xs : List X) → AreReady P a (x ∷ xs) → AreReady P (a + 1) xs
behind_ready P a x xs ready =
    let room = ready.room in
    record { room = omega (arith, room); each = λ k d l. let e : a + suc k ≡ a + 1 + k = omega arith in subst (λ n. P n (get_or xs k d)) e (ready.each (suc k) d (omega (arith, l))) }

-- what is left of one and of the others
both_done : {X : Type 0} (R : ℕ → X → X → Type 0) (a : ℕ) (x y : X) (xs ys : List X) → AreDone R a (x ∷ []) (y ∷ []) → AreDone R (a + 1) xs ys → (k : ℕ) (d : X) → k < length (x ∷ xs) → R (a + k) (get_or (x ∷ xs) k d) (get_or (y ∷ ys) k d)
both_done R a x y xs ys first rest zero d l = first.each 0 d (omega arith)
both_done R a x y xs ys first rest (suc k) d l = (let e : a + 1 + k ≡ a + suc k = omega arith in subst (λ n. R n (get_or xs k d) (get_or ys k d)) e (rest.each k d (omega (arith, l))))

pub rest_ready : {X : Type 0} (P : ℕ → X → Type 0) (a : ℕ) (all front back : List X) → all ≡ front ++ back → length front ≡ 1 → AreReady P a all → AreReady P (a + 1) back
rest_ready {X = X} P a all front back is one ready =
    let o = only front one in
    behind_ready P a o.0 back (subst (λ (f : List X). AreReady P a (f ++ back)) o.1 (subst (AreReady P a) is ready))

pub all_done : {X : Type 0} (R : ℕ → X → X → Type 0) (a : ℕ) (all front back new_front new_back : List X) → all ≡ front ++ back → length front ≡ 1 → AreDone R a front new_front → AreDone R (a + 1) back new_back → AreDone R a all (new_front ++ new_back)
all_done {X = X} R a all front back new_front new_back is one first rest =
    let o = only front one in
    let len = first.len in
    let n = only new_front (omega (arith, len, one)) in
    let start : AreDone R a (o.0 ∷ []) (n.0 ∷ []) = subst (AreDone R a (o.0 ∷ [])) n.1 (subst (λ (f : List X). AreDone R a f new_front) o.1 first) in
    let rest_len = rest.len in
    let done : AreDone R a (o.0 ∷ back) (n.0 ∷ new_back) = record { len = omega (arith, rest_len); each = both_done R a o.0 n.0 back new_back start rest } in
    rw is (rw (o.1, n.1) done)

-- what is left of the only item
pub one_done : {X : Type 0} (R : ℕ → X → X → Type 0) (a : ℕ) (xs : List X) (y d : X) → length xs ≡ 1 → R a (get_or xs 0 d) y → AreDone R a xs (set xs 0 y)
one_done R a [] y d one call = absurd (omega (arith, one))
one_done {X = X} R a (x ∷ []) y d one call = record { len = refl; each = only_one }
  where
    only_one : (k : ℕ) (e : X) → k < length (x ∷ []) → R (a + k) (get_or (x ∷ []) k e) (get_or (y ∷ []) k e)
    only_one zero e l = (let z : a ≡ a + 0 = omega arith in subst (λ n. R n x y) z call)
    only_one (suc k) e l = absurd (omega (arith, l))
one_done R a (x ∷ z ∷ xs) y d one call = absurd (omega (arith, one))

-- what is left of some and of those behind them
pub joined_done : {X : Type 0} (R : ℕ → X → X → Type 0) (n : ℕ) (all xs ys new_xs new_ys : List X) (i : ℕ) (d : X) → all ≡ xs ++ ys → length xs ≡ n → i < length all → AreDone R 0 xs new_xs → AreDone R n ys new_ys → R i (get_or all i d) (get_or (new_xs ++ new_ys) i d)
joined_done {X = X} R n all xs ys new_xs new_ys i d is there within front back =
    let len = length-append xs ys in
    let same : length all ≡ length (xs ++ ys) = ap length is in
    let front_len = front.len in
    rw is (elim (cases_lt i n) [
      | inl before ↦ rw (get_or_append_left xs ys d i (omega (arith, before, there)), get_or_append_left new_xs new_ys d i (omega (arith, before, front_len, there)))
          (let z : 0 + i ≡ i = omega arith in subst (λ m. R m (get_or xs i d) (get_or new_xs i d)) z (front.each i d (omega (arith, before, there))))
      | inr behind ↦ rw (get_or-append_right xs ys n i d there behind, get_or-append_right new_xs new_ys n i d (omega (arith, front_len, there)) behind)
          (let e : n + (i - n) ≡ i = omega (arith, behind) in
          subst (λ m. R m (get_or ys (i - n) d) (get_or new_ys (i - n) d)) e (back.each (i - n) d (omega (arith, behind, within, len, same, there))))
    ])
