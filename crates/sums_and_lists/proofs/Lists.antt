-- Lists and their elements.
use Rattle.std.proofs.Common.{◌≡◌, ℕ, zero, suc, ◌+◌, ◌<◌, ◌∙◌, sym, ap, refl, arith, inl, inr}
use Rattle.std.specs.Prelude.{ℤ, pos, List, [], ◌∷◌, ◌++◌, length, slice_get, slice_index_or, Some, Result, Ok, Err, OnErr, ◌⊎◌}
use Rattle.std.specs.List.{AllByRecursion}
use Rattle.std.proofs.lemmas.List.{get_or_append_left}
use Rattle.std.proofs.Math.Seq.{get_or-append_seam}
use Rattle.sums_and_lists.proofs.Orders.{below_or_last}

-- there is an element at each place below the length
pub some_at : {A : Type 0} (xs : List A) (t : ℕ) → t < length xs → (x : A) × (slice_get xs t ≡ Some x)
some_at [] t l = absurd (omega arith)
some_at (x ∷ xs) zero l = (x, refl)
some_at (x ∷ xs) (suc t) l = some_at xs t (omega arith)

-- an element of a list with one more is one of the list, or it is the one, at its end
pub last_or_before : {A : Type 0} (xs : List A) (y : A) (k : ℕ) (z : A) → slice_get (xs ++ (y ∷ [])) k ≡ Some z → (slice_get xs k ≡ Some z) ⊎ ((k ≡ length xs) × (y ≡ z))
last_or_before [] y zero z e = inr (refl, cc)
last_or_before [] y (suc k) z e = cc
last_or_before (x ∷ xs) y zero z e = inl e
last_or_before (x ∷ xs) y (suc k) z e = elim (last_or_before xs y k z e) [ inl p ↦ inl p | inr q ↦ inr (omega (arith, q.0), q.1) ]

-- what holds of each element holds with one more
pub all_push : {A : Type 0} (P : A → Type 0) (xs : List A) (x : A) → AllByRecursion P xs → P x → AllByRecursion P (xs ++ x ∷ [])
all_push P [] x a p = (p, tt)
all_push P (y ∷ xs) x a p = (a.0, all_push P xs x a.1 p)

-- one number more in a list whose numbers are told by place
pub longer : (g : ℕ → ℤ) (n : ℕ) (zs : List ℤ) (z : ℤ) → length zs ≡ n → ((k : ℕ) → k < n → slice_index_or zs k (pos 0) ≡ g k) → z ≡ g n → (k : ℕ) → k < n + 1 → slice_index_or (zs ++ z ∷ []) k (pos 0) ≡ g k
longer g n zs z c h e k l =
    elim (below_or_last k n l) [
      | inl m ↦ get_or_append_left zs (z ∷ []) (pos 0) k (omega (arith, c, m)) ∙ h k m
      | inr m ↦ ap (λ (i : ℕ). slice_index_or (zs ++ z ∷ []) i (pos 0)) (m ∙ sym c) ∙ get_or-append_seam zs z [] (pos 0) ∙ e ∙ ap g (sym m)
    ]

pub no_length : {A : Type 0} (xs : List A) → length xs ≡ 0 → xs ≡ []
no_length [] h = refl
no_length (x ∷ xs) h = absurd (omega (arith, h))

-- what holds anyway holds of each error
pub at_any_err : {A E : Type 0} (r : Result A E) (P : Type 0) → P → OnErr r P
at_any_err (Ok x) P p = tt
at_any_err (Err e) P p = p
