-- The sizes of trees and the places of their first pixels, by the labels of all pixels.
use Rattle.std.specs.Prelude.{◌≡◌, ℕ, ◌<◌, ◌==◌, List, length, slice_index}
use Rattle.std.specs.List.{count_by, position_or_len}

-- the measures of the trees with the numbers below a count; a first place is told of a tree that has a pixel
pub record AreMeasures (labels : List ℕ) (count : ℕ) (sizes firsts : List ℕ) : Type 0 where
  pub sized : length sizes ≡ count
  pub placed : length firsts ≡ count
  pub counts : (n : ℕ) → n < count → slice_index sizes n ≡ count_by (λ label. label == n) labels
  pub places : (n i : ℕ) → n < count → i < length labels → slice_index labels i ≡ n → slice_index firsts n ≡ position_or_len (λ label. label == n) labels
