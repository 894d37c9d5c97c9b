-- Lists with one more element, by places.
use Rattle.std.proofs.Common.{◌≡◌, ◌≢◌, ℕ, zero, suc, ◌-◌, ◌<◌, ◌≤◌, ◌⊎◌, inl, inr, sym, ap, refl, subst, arith, List, [], ◌∷◌, ◌++◌, length, take}
use Rattle.std.proofs.lemmas.List.{length_push}
use Rattle.std.specs.Prelude.{IfErr, IsErrAnd, OnErr, Result, Ok, Err, Some, None, map, replicate, set, slice_get}

-- an element of a list with one more is one of the list, at the same place, or the one
pub get_push : {A : Type 0} (xs : List A) (y : A) (n : ℕ) (z : A) → slice_get (xs ++ (y ∷ [])) n ≡ Some z → ((slice_get xs n ≡ Some z) × (take n (xs ++ (y ∷ [])) ≡ take n xs)) ⊎ ((y ≡ z) × (take n (xs ++ (y ∷ [])) ≡ xs))
get_push [] y zero z e = inr (cc, refl)
get_push [] y (suc n) z e = cc
get_push (x ∷ xs) y zero z e = inl (e, refl)
get_push (x ∷ xs) y (suc n) z e = elim (get_push xs y n z e) [
  | inl p ↦ inl (p.0, ap (λ (l : List _). x ∷ l) p.1)
  | inr q ↦ inr (q.0, ap (λ (l : List _). x ∷ l) q.1)
]

-- the elements of a beginning are those of the list, and so are its beginnings
pub get_take : {A : Type 0} (xs : List A) (n m : ℕ) (z : A) → slice_get (take n xs) m ≡ Some z → (slice_get xs m ≡ Some z) × (take m (take n xs) ≡ take m xs)
get_take [] zero m z e = cc
get_take [] (suc n) m z e = cc
get_take (x ∷ xs) zero m z e = cc
get_take (x ∷ xs) (suc n) zero z e = (e, refl)
get_take (x ∷ xs) (suc n) (suc m) z e = (let i = get_take xs n m z e in (i.0, ap (λ (l : List _). x ∷ l) i.1))

-- a beginning that is longer by one
pub take_one : {A : Type 0} (xs : List A) (n : ℕ) (z : A) → slice_get xs n ≡ Some z → take (suc n) xs ≡ take n xs ++ (z ∷ [])
take_one [] n z e = cc
take_one (x ∷ xs) zero z e = (let i : x ≡ z = cc in rw i refl)
take_one (x ∷ xs) (suc n) z e = ap (λ (l : List _). x ∷ l) (take_one xs n z e)

pub take_none : {A : Type 0} (xs : List A) (n : ℕ) → slice_get xs n ≡ None → take (suc n) xs ≡ take n xs
take_none [] zero e = refl
take_none [] (suc n) e = refl
take_none (x ∷ xs) zero e = cc
take_none (x ∷ xs) (suc n) e = ap (λ (l : List _). x ∷ l) (take_none xs n e)

-- the last element
get_last : {A : Type 0} (xs : List A) (y : A) → slice_get (xs ++ (y ∷ [])) (length xs) ≡ Some y
get_last [] y = refl
get_last (x ∷ xs) y = get_last xs y

pub last_push : {A : Type 0} (xs : List A) (y : A) → slice_get (xs ++ (y ∷ [])) (length (xs ++ (y ∷ [])) - 1) ≡ Some y
last_push xs y = (let e : length (xs ++ (y ∷ [])) - 1 ≡ length xs = omega (arith, length_push xs y) in rw e (get_last xs y))

-- an element stands below the length, and there is one at each place below it
pub get_below : {A : Type 0} (xs : List A) (n : ℕ) (z : A) → slice_get xs n ≡ Some z → n < length xs
get_below [] n z e = cc
get_below (x ∷ xs) zero z e = omega arith
get_below (x ∷ xs) (suc n) z e = omega (arith, get_below xs n z e)

pub get_beyond : {A : Type 0} (xs : List A) (n : ℕ) → length xs ≤ n → slice_get xs n ≡ None
get_beyond [] zero l = refl
get_beyond [] (suc n) l = refl
get_beyond (x ∷ xs) zero l = absurd (omega arith)
get_beyond (x ∷ xs) (suc n) l = get_beyond xs n (omega arith)

pub get_none : {A : Type 0} (xs : List A) (n : ℕ) → slice_get xs n ≡ None → length xs ≤ n
get_none [] n e = omega arith
get_none (x ∷ xs) zero e = cc
get_none (x ∷ xs) (suc n) e = omega (arith, get_none xs n e)

-- a list in which one place was written
pub get_set : {A : Type 0} (xs : List A) (t : ℕ) (y : A) (n : ℕ) (z : A) → slice_get (set xs t y) n ≡ Some z → ((n ≡ t) × (y ≡ z)) ⊎ ((n ≢ t) × (slice_get xs n ≡ Some z))
get_set [] t y n z e = cc
get_set (x ∷ xs) zero y zero z e = inl (refl, cc)
get_set (x ∷ xs) zero y (suc n) z e = inr ((λ q. absurd (omega arith)), e)
get_set (x ∷ xs) (suc t) y zero z e = inr ((λ q. absurd (omega arith)), e)
get_set (x ∷ xs) (suc t) y (suc n) z e = elim (get_set xs t y n z e) [
  | inl p ↦ inl (ap suc p.0, p.1)
  | inr q ↦ inr ((λ i. q.0 (omega (arith, i))), q.1)
]

-- a list through a function
pub get_map : {A B : Type 0} (f : A → B) (xs : List A) (n : ℕ) (z : A) → slice_get xs n ≡ Some z → slice_get (map f xs) n ≡ Some (f z)
get_map f [] n z e = cc
get_map f (x ∷ xs) zero z e = (let i : x ≡ z = cc in rw i refl)
get_map f (x ∷ xs) (suc n) z e = get_map f xs n z e

pub map_push : {A B : Type 0} (f : A → B) (xs : List A) (y : A) → map f (xs ++ (y ∷ [])) ≡ map f xs ++ (f y ∷ [])
map_push f [] y = refl
map_push f (x ∷ xs) y = ap (λ (l : List _). f x ∷ l) (map_push f xs y)

pub get_set_here : {A : Type 0} (xs : List A) (t : ℕ) (y : A) → t < length xs → slice_get (set xs t y) t ≡ Some y
get_set_here [] t y l = absurd (omega arith)
get_set_here (x ∷ xs) zero y l = refl
get_set_here (x ∷ xs) (suc t) y l = get_set_here xs t y (omega arith)

pub get_set_there : {A : Type 0} (xs : List A) (t : ℕ) (y : A) (n : ℕ) → n ≢ t → slice_get (set xs t y) n ≡ slice_get xs n
get_set_there [] t y n d = refl
get_set_there (x ∷ xs) zero y zero d = absurd (d refl)
get_set_there (x ∷ xs) zero y (suc n) d = refl
get_set_there (x ∷ xs) (suc t) y zero d = refl
get_set_there (x ∷ xs) (suc t) y (suc n) d = get_set_there xs t y n (λ e. d (ap suc e))

pub get_replicate : {A : Type 0} (n : ℕ) (y : A) (k : ℕ) (z : A) → slice_get (replicate n y) k ≡ Some z → y ≡ z
get_replicate zero y k z e = cc
get_replicate (suc n) y zero z e = cc
get_replicate (suc n) y (suc k) z e = get_replicate n y k z e

pub none_below : {A : Type 0} (xs : List A) (k : ℕ) → k < length xs → slice_get xs k ≡ None → ⊥
none_below [] k l e = omega arith
none_below (x ∷ xs) zero l e = cc
none_below (x ∷ xs) (suc k) l e = none_below xs k (omega arith) e

-- what holds of an error holds of a result that is that error
pub err_is : {T E : Type 0} (r : Result T E) (e : E) (P : E → Type 0) → IsErrAnd r (λ (f : E). f ≡ e) → P e → IfErr r P
err_is (Ok x) e P h p = tt
err_is (Err f) e P h p = subst P (sym h) p

-- what holds anyway holds after an error
pub on_err : {T E : Type 0} (r : Result T E) (P : Type 0) → P → OnErr r P
on_err (Ok x) P p = tt
on_err (Err f) P p = p
