-- Truth values. Cases, and what `&&` and `||` say of their parts, are std's (`cases_Bool`, `and_parts`, `and_from`, `or_parts`).
use Rattle.std.proofs.Common.{◌≡◌, Bool, true, false, refl, subst, arith}
use Rattle.std.specs.Prelude.{ℕ, ◌≤◌, ◌==◌, ◌&&◌, ◌||◌, IsTrue}
use Rattle.std.proofs.lemmas.Bool.{and_parts}
use Rattle.std.proofs.lemmas.Bool.Decides.{nat_tests}
use Rattle.sums_and_lists.specs.Sums.{one_if}

pub true_and_false : (b : Bool) → b ≡ true → b ≡ false → ⊥
true_and_false b p q = cc

pub and_first : (a b : Bool) → (a && b) ≡ true → a ≡ true
and_first a b h = (and_parts a b h).0

pub and_second : (a b : Bool) → (a && b) ≡ true → b ≡ true
and_second a b h = (and_parts a b h).1

pub or_false : (b : Bool) → (b || false) ≡ b
or_false true = refl
or_false false = refl

-- the same test beside another that decides where it counts
pub same_beside : (i a b s : Bool) → (IsTrue i → a ≡ b) → IsTrue (i && a && s) → IsTrue (i && b && s)
same_beside true a b s e t = subst (λ (o : Bool). IsTrue (o && s)) (e refl) t
same_beside false a b s e t = t

pub one_at_most : (b : Bool) → one_if b ≤ 1
one_at_most true = omega arith
one_at_most false = omega arith

pub same_number : (a : ℕ) → (a == a) ≡ true
same_number a = grind arith

-- a test and an equation in one
pub tells_both : (k : Bool) (l v : ℕ) → (k && (l == v)) ≡ true → (k ≡ true) × (l ≡ v)
tells_both k l v t = (grind (arith, nat_tests), grind (arith, nat_tests))

pub both_told : (k : Bool) (l v : ℕ) → k ≡ true → l ≡ v → (k && (l == v)) ≡ true
both_told k l v p e = grind (arith, nat_tests)

-- of the numbers one at most is each of two
pub one_test : (u t : ℕ) → (u == t) && (u == t) ≡ u == t
one_test u t = grind (arith, nat_tests)

pub apart : (u v t : ℕ) → (u == v) ≡ false → (u == t) && (v == t) ≡ false
apart u v t e = grind (arith, nat_tests)
