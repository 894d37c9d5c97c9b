-- The list of faces that a grid answers.
use Rattle.std.proofs.Common.{◌≡◌, ℕ, ◌+◌, ◌<◌, ◌^◌, arith, List, [], ◌∷◌, ◌++◌, to_z, of_z, w64}
use Rattle.std.specs.Prelude.{ℤ, ◌-ℤ◌, unsigned_abs, FitsSigned}
use Rattle.std.proofs.lemmas.Int.{ints}
use Rattle.std.proofs.lemmas.List.{length-append}
use Rattle.dual_grid.specs.Building.{AreFaces}
use Rattle.sums_and_lists.proofs.Lists.{longer}

pub faces_more : (potential : ℕ → ℤ) (outside n : ℕ) (zs : List ℤ) (z : ℤ) → z ≡ potential outside -ℤ potential n → AreFaces potential outside n zs → AreFaces potential outside (n + 1) (zs ++ z ∷ [])
faces_more potential outside n zs z e h = record {
  count = omega (arith, length-append zs (z ∷ []), h.count);
  values = longer (λ k. potential outside -ℤ potential k) n zs z h.count h.values e;
}

-- a face in code at 64 bits
pub face_is : (m n : ℤ) → unsigned_abs m < 2 ^ 62 → unsigned_abs n < 2 ^ 62 → FitsSigned w64 (to_z w64 (of_z w64 m) -ℤ to_z w64 (of_z w64 n)) × (to_z w64 (of_z w64 (to_z w64 (of_z w64 m) -ℤ to_z w64 (of_z w64 n))) ≡ m -ℤ n)
face_is m n k l = (omega (arith, ints, k, l), omega (arith, ints, k, l))
