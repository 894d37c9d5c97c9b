-- Natural numbers compared. The first cases are std's (`cases_lt`, `cases_order`, `cases_eq`).
use Rattle.std.proofs.Common.{◌≡◌, ℕ, suc, ◌+◌, ◌<◌, ◌≤◌, ◌⊎◌, Bool, true, false, arith}
use Rattle.std.specs.Prelude.{◌&&◌, ◌==◌, nat_lt, IsTrue}
use Rattle.std.proofs.lemmas.Bool.Decides.{nat_tests}

-- below one more is below, or at it
pub below_or_last : (u n : ℕ) → u < n + 1 → (u < n) ⊎ (u ≡ n)
below_or_last u n l = grind arith

pub below_or_at : (u n : ℕ) → u < suc n → (u < n) ⊎ (u ≡ n)
below_or_at u n l = grind arith

-- below, at it, or past it
pub below_at_past : (u n : ℕ) → (u < n) ⊎ ((u ≡ n) ⊎ (n + 1 ≤ u))
below_at_past u n = grind arith

pub below_at_above : (m n : ℕ) → (m < n) ⊎ ((m ≡ n) ⊎ (n < m))
below_at_above m n = grind arith

-- what is not above 0 is 0
pub none_left : (p : ℕ) → (0 < p → ⊥) → p ≡ 0
none_left p h = grind arith

-- tests of order
pub is_below : (a n : ℕ) → a < n → IsTrue (nat_lt a n)
is_below a n l = grind (arith, nat_tests)

pub is_lt : (a b : ℕ) → nat_lt a b ≡ true → a < b
is_lt a b h = grind (arith, nat_tests)

pub not_lt : (a b : ℕ) → nat_lt a b ≡ false → b ≤ a
not_lt a b h = grind (arith, nat_tests)

pub not_equal : (a b : ℕ) (c : Bool) → (b ≡ a → ⊥) → ((a == b) && c) ≡ false
not_equal a b c d = grind (arith, nat_tests)

-- two places in a box
pub ends_in : (x y w h a b : ℕ) → IsTrue ((nat_lt x w && nat_lt y h) && (nat_lt a w && nat_lt b h)) → (x < w) × (y < h) × (a < w) × (b < h)
ends_in x y w h a b t = (grind (arith, nat_tests), grind (arith, nat_tests), grind (arith, nat_tests), grind (arith, nat_tests))

pub lt_is : (a b : ℕ) → a < b → nat_lt a b ≡ true
lt_is a b l = grind (arith, nat_tests)

pub not_lt_is : (a b : ℕ) → b ≤ a → nat_lt a b ≡ false
not_lt_is a b l = grind (arith, nat_tests)

pub both_lt : (a b c d : ℕ) → IsTrue (nat_lt a b && nat_lt c d) → (a < b) × (c < d)
both_lt a b c d h = grind (arith, nat_tests)
