-- Numbers of pairs of weights that are set in a list. These are words of helpers, which no clause of another module cites.
use Rattle.std.specs.Prelude.{◌≡◌, ℕ, ◌+◌, ◌<◌, List, length, slice_index}

-- from place s on the list has the numbers of the first n pairs of two lists, and before that what it had before
pub record AreNumbered (number : ℕ → ℕ → ℕ) (firsts others : List ℕ) (s n : ℕ) (old new : List ℕ) : Type 0 where
  pub count : length new ≡ length old
  pub before : (k : ℕ) → k < s → slice_index new k ≡ slice_index old k
  pub numbers : (k : ℕ) → k < n → slice_index new (s + k) ≡ number (slice_index firsts k) (slice_index others k)
