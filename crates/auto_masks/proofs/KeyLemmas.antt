-- Keys as numbers, and the key of a pixel by its place.
use Rattle.std.proofs.Common.{◌≡◌, ℕ, ◌/◌, ◌%◌, ◌∙◌, ap, refl, arith, true, false, List}
use Rattle.std.specs.Prelude.{ℤ, pos, negsuc, ◌==◌, not, slice_index_or}
use Rattle.std.proofs.lemmas.Nat.{div-add-mod'}
use Rattle.std.proofs.lemmas.Bool.Decides.{nat_tests}
use Rattle.auto_masks.specs.Patches.{key_at, key_number}

-- no two keys have one number
pub one_key : (a b : ℤ) → key_number a ≡ key_number b → a ≡ b
one_key (pos m) (pos n) e = let f : m ≡ n = omega arith in ap pos f
one_key (pos m) (negsuc n) e = absurd (omega arith)
one_key (negsuc m) (pos n) e = absurd (omega arith)
one_key (negsuc m) (negsuc n) e = let f : m ≡ n = omega arith in ap negsuc f

-- only the key 0 has the number 0
number_told : (n : ℕ) → (n ≡ 0 → ⊥) → not (n == 0) ≡ true
number_told n h = grind (arith, nat_tests)

pub keyed_is : (k : ℤ) → (k ≡ pos 0 → ⊥) → not (key_number k == 0) ≡ true
keyed_is k h = number_told (key_number k) (λ e. h (one_key k (pos 0) (e ∙ (omega arith))))

pub not_keyed_is : (k : ℤ) → k ≡ pos 0 → not (key_number k == 0) ≡ false
not_keyed_is k e = rw e refl

-- the key at a place
pub key_at_place : (w k : ℕ) (keys : List ℤ) → key_at w keys (k % w) (k / w) ≡ slice_index_or keys k (pos 0)
key_at_place w k keys = ap (λ (i : ℕ). slice_index_or keys i (pos 0)) (div-add-mod' k w)
