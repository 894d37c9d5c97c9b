-- Sums of numbers over the numbers below a bound.
use Rattle.std.specs.Prelude.{ℕ, zero, suc, ◌+◌, ℤ, pos, ◌+ℤ◌, Bool, if◌then◌else◌}

-- f 0 + f 1 + .. + f (n - 1)
unfoldable pub sum_below : ℕ → (ℕ → ℤ) → ℤ
sum_below zero f = pos 0
sum_below (suc n) f = sum_below n f +ℤ f n

-- the same for natural numbers
unfoldable pub count_below : ℕ → (ℕ → ℕ) → ℕ
count_below zero f = 0
count_below (suc n) f = count_below n f + f n

-- the number, where the test holds, and else 0
abbrev pub where_true : Bool → ℤ → ℤ
where_true b z = if b then z else pos 0

-- 1, where the test holds, and else 0
abbrev pub one_if : Bool → ℕ
one_if b = if b then 1 else 0
