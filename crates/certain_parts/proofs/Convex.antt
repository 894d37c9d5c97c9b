-- Steps are convex, so excesses are, and what a departure's neighbours exceed every other one does.
use Rattle.std.proofs.Common.{◌≡◌, ◌≢◌, ℕ, zero, suc, ◌+◌, ◌≤◌, refl, arith, ◌⊎◌, inl, inr}
use Rattle.std.specs.Prelude.{ℤ, pos, negsuc, ◌+ℤ◌, ◌-ℤ◌, ◌≤ℤ◌, unsigned_abs}
use Rattle.std.proofs.lemmas.Int.{ints}
use Rattle.raster_model.specs.Raster.{steps, steps_of}

-- no value is above the mean of its neighbours
abbrev pub IsConvex : (ℤ → ℤ) → Type 0
IsConvex f = (j : ℤ) → (f j +ℤ f j) ≤ℤ (f (j +ℤ pos 1) +ℤ f (j -ℤ pos 1))

size_steps : (q n : ℕ) → 1 ≤ q → steps_of q (suc n) + steps_of q (suc n) ≤ steps_of q (suc (suc n)) + steps_of q n
size_steps q zero one = omega (arith, one)
size_steps q (suc n) one = omega (arith, one)

-- by the sizes of the three
of_sizes : (q : ℕ) (j u v : ℤ) (m n k : ℕ) → unsigned_abs j ≡ m → unsigned_abs u ≡ n → unsigned_abs v ≡ k → steps_of q m + steps_of q m ≤ steps_of q n + steps_of q k → steps q j + steps q j ≤ steps q u + steps q v
of_sizes q j u v m n k a b c h = rw (a, b, c) h

pub steps_convex : (q : ℕ) (j : ℤ) → 1 ≤ q → steps q j + steps q j ≤ steps q (j +ℤ pos 1) + steps q (j -ℤ pos 1)
steps_convex q (pos zero) one = omega arith
steps_convex q (pos (suc n)) one = of_sizes q (pos (suc n)) (pos (suc n) +ℤ pos 1) (pos (suc n) -ℤ pos 1) (suc n) (suc (suc n)) n refl (omega (arith, ints)) (omega (arith, ints)) (size_steps q n one)
steps_convex q (negsuc zero) one = omega (arith, one)
steps_convex q (negsuc (suc n)) one = of_sizes q (negsuc (suc n)) (negsuc (suc n) +ℤ pos 1) (negsuc (suc n) -ℤ pos 1) (suc (suc n)) (suc n) (suc (suc (suc n))) refl (omega (arith, ints)) (omega (arith, ints)) (omega (arith, size_steps q (suc n) one))

-- where f does not fall from k to the next, it does not fall further on; and so on the other side
rises_on : (f : ℤ → ℤ) → IsConvex f → (k : ℤ) → f k ≤ℤ f (k +ℤ pos 1) → (n : ℕ) → (f (k +ℤ pos n) ≤ℤ f (k +ℤ pos n +ℤ pos 1)) × (f (k +ℤ pos 1) ≤ℤ f (k +ℤ pos n +ℤ pos 1))
rises_on f convex k first zero = let same : k +ℤ pos 0 ≡ k = omega (arith, ints) in rw same (first, omega (arith, ints))
rises_on f convex k first (suc n) =
    let so_far = rises_on f convex k first n in
    let next : k +ℤ pos (suc n) ≡ k +ℤ pos n +ℤ pos 1 = omega (arith, ints) in
    let back : k +ℤ pos n +ℤ pos 1 -ℤ pos 1 ≡ k +ℤ pos n = omega (arith, ints) in
    let c = rw back at (convex (k +ℤ pos n +ℤ pos 1)) in
    rw next (omega (arith, ints, so_far.0, c), omega (arith, ints, so_far.0, so_far.1, c))

rises_back : (f : ℤ → ℤ) → IsConvex f → (k : ℤ) → f k ≤ℤ f (k -ℤ pos 1) → (n : ℕ) → (f (k -ℤ pos n) ≤ℤ f (k -ℤ pos n -ℤ pos 1)) × (f (k -ℤ pos 1) ≤ℤ f (k -ℤ pos n -ℤ pos 1))
rises_back f convex k first zero = let same : k -ℤ pos 0 ≡ k = omega (arith, ints) in rw same (first, omega (arith, ints))
rises_back f convex k first (suc n) =
    let so_far = rises_back f convex k first n in
    let next : k -ℤ pos (suc n) ≡ k -ℤ pos n -ℤ pos 1 = omega (arith, ints) in
    let back : k -ℤ pos n -ℤ pos 1 +ℤ pos 1 ≡ k -ℤ pos n = omega (arith, ints) in
    let c = rw back at (convex (k -ℤ pos n -ℤ pos 1)) in
    rw next (omega (arith, ints, so_far.0, c), omega (arith, ints, so_far.0, so_far.1, c))

-- from a place beside which f is no less, f is no less anywhere than at one of the two next places
pub beside_is_least : (f : ℤ → ℤ) → IsConvex f → (k : ℤ) → f k ≤ℤ f (k +ℤ pos 1) → f k ≤ℤ f (k -ℤ pos 1) → (j : ℤ) → j ≢ k → (f (k +ℤ pos 1) ≤ℤ f j) ⊎ (f (k -ℤ pos 1) ≤ℤ f j)
beside_is_least f convex k up down j other = by_difference (j -ℤ k) (omega (arith, ints))
  where
    by_difference : (d : ℤ) → j ≡ k +ℤ d → (f (k +ℤ pos 1) ≤ℤ f j) ⊎ (f (k -ℤ pos 1) ≤ℤ f j)
    by_difference (pos zero) e = absurd (other (omega (arith, ints, e)))
    by_difference (pos (suc n)) e = let here : j ≡ k +ℤ pos n +ℤ pos 1 = omega (arith, ints, e) in inl (rw here (rises_on f convex k up n).1)
    by_difference (negsuc n) e = let here : j ≡ k -ℤ pos n -ℤ pos 1 = omega (arith, ints, e) in inr (rw here (rises_back f convex k down n).1)
