-- Sums over a grid that a double loop over a part of it adds up: what lies outside of the part is 0.
use Rattle.std.proofs.Common.{◌≡◌, ℕ, ◌+◌, ◌<◌, ◌≤◌, arith, sym, ◌∙◌}
use Rattle.std.specs.Prelude.{ℤ, pos, ◌+ℤ◌}
use Rattle.std.proofs.lemmas.Int.{ints}
use Rattle.raster_model.specs.Sums.{Field, sum_row, sum_grid}
use Rattle.sums_and_lists.proofs.SumLemmas.{sum_below-more, sum_below-zeros, sum_below-upto}

-- one more value of a row
pub column_more : (f : Field ℤ) (x y : ℕ) (z t R : ℤ) → z ≡ R +ℤ sum_row x f y → t ≡ f x y → z +ℤ t ≡ R +ℤ sum_row (x + 1) f y
column_more f x y z t R p q = omega (arith, ints, p, q, sum_below-more x (λ i. f i y))

-- the grid is w by h, and the part is the columns from a below b in the rows from c below d
module _ (w h a b c d : ℕ) (f : Field ℤ) (across : (a ≤ b) × (b ≤ w)) (along : (c ≤ d) × (d ≤ h)) (out : (x y : ℕ) → x < w → y < h → ((a ≤ x) × (x < b) × (c ≤ y) × (y < d) → ⊥) → f x y ≡ pos 0) where
  empty_row : (y : ℕ) → y < h → ((c ≤ y) × (y < d) → ⊥) → sum_row w f y ≡ pos 0
  empty_row y m n = sum_below-zeros w (λ x. f x y) (λ x l. out x y l m (λ i. n (i.2, i.3)))

  pub part_starts : pos 0 ≡ sum_grid w c f
  part_starts = sym (sum_below-zeros c (sum_row w f) (λ y l. empty_row y (omega arith) (λ i. omega (arith, i))))

  pub row_starts : (y : ℕ) (z : ℤ) → y < d → z ≡ sum_grid w y f → z ≡ sum_grid w y f +ℤ sum_row a f y
  row_starts y z m p =
      let e : sum_row a f y ≡ pos 0 = sum_below-zeros a (λ x. f x y) (λ x l. out x y (omega arith) (omega arith) (λ i. omega (arith, i))) in
      omega (arith, ints, p, e)

  pub row_more : (x y : ℕ) (z : ℤ) → x ≡ b → y < d → z ≡ sum_grid w y f +ℤ sum_row x f y → z ≡ sum_grid w (y + 1) f
  row_more x y z k m p =
      let q = rw k at p in
      let e : sum_row w f y ≡ sum_row b f y = sum_below-upto b w (λ x. f x y) (omega arith) (λ x l n. out x y n (omega arith) (λ i. omega (arith, i))) in
      omega (arith, ints, q, e, sum_below-more y (sum_row w f))

  pub part_ends : (y : ℕ) (z : ℤ) → y ≡ d → z ≡ sum_grid w y f → z ≡ sum_grid w h f
  part_ends y z k p =
      (rw k at p) ∙ sym (sum_below-upto d h (sum_row w f) (omega arith) (λ y l n. empty_row y n (λ i. omega (arith, i))))
