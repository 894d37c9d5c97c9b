-- A product of a departure and a difference, against what the departure costs at a steepness.
use Rattle.std.proofs.Common.{◌≡◌, ℕ, zero, suc, ◌+◌, ◌-◌, ◌*◌, ◌≤◌, refl, arith}
use Rattle.std.specs.Prelude.{ℤ, pos, ◌+ℤ◌, ◌*ℤ◌, ◌≤ℤ◌, unsigned_abs}
use Rattle.std.proofs.lemmas.Int.{ints, unsigned_abs-mul}
use Rattle.std.proofs.lemmas.Nat.{mul-le}
use Rattle.raster_model.specs.Raster.{over, steps, steps_of}
use Rattle.sums_and_lists.proofs.Products.{at_most_abs}

-- the inequality at an edge: the departure has k + 1 cycles, d is the size of the difference, g the weight, and q the steepness
steep : (d g k q : ℕ) → 1 ≤ q → d ≤ q * g → suc k * d ≤ g * (1 + q * k) + (d - g)
steep d g k q one h =
    omega (arith, mul-le d k (q * g) k h (omega arith), mul-le (g * k) 1 (g * k) q (omega arith) one, small)
  where
    small : d ≤ g → d * k ≤ g * k
    small l = mul-le d k g k l (omega arith)

of_sizes : (n d g q : ℕ) → d ≤ q * g → n * d ≤ g * steps_of q n + (d - g)
of_sizes zero d g q h = omega arith
of_sizes (suc k) d g zero h = let e : d ≡ 0 = omega (arith, h) in rw e (omega arith)
of_sizes (suc k) d g (suc q) h = steep d g k (suc q) (omega arith) h

-- where a difference is at most the steepness times the weight, departure times difference is at most what the departure costs and that by which the difference is above the weight
pub product_at_most_steps : (k d : ℤ) (g q : ℕ) → unsigned_abs d ≤ q * g → (k *ℤ d) ≤ℤ (pos (g * steps q k) +ℤ pos (over g d))
product_at_most_steps k d g q h =
    let e : unsigned_abs (k *ℤ d) ≤ g * steps q k + over g d = rw unsigned_abs-mul (of_sizes (unsigned_abs k) (unsigned_abs d) g q h) in
    omega (arith, ints, at_most_abs (k *ℤ d), e)

-- no cycles cost nothing
pub no_steps : (q : ℕ) (k : ℤ) → k ≡ pos 0 → steps q k ≡ 0
no_steps q k e = rw e refl

-- at most the steepness for each cycle
pub steps_small : (q n : ℕ) → 1 ≤ q → steps_of q n ≤ q * n
steps_small q zero one = omega arith
steps_small q (suc n) one = omega (arith, one)
