-- What is asked of items, and what is left of them, where the first has a place of its own.
use Rattle.std.specs.Prelude.{◌≡◌, ℕ, ◌+◌, ◌^◌, ◌<◌, List, length, slice_index_or}

-- P holds of each item and its place, where the first item has the place a, and the places fit in a `usize`
pub record AreReady {X : Type 0} (P : ℕ → X → Type 0) (a : ℕ) (xs : List X) : Type 0 where
  pub room : a + length xs < 2 ^ 64
  pub each : (k : ℕ) (d : X) → k < length xs → P (a + k) (slice_index_or xs k d)

-- R holds of each item before and after
pub record AreDone {X : Type 0} (R : ℕ → X → X → Type 0) (a : ℕ) (xs ys : List X) : Type 0 where
  pub len : length ys ≡ length xs
  pub each : (k : ℕ) (d : X) → k < length xs → R (a + k) (slice_index_or xs k d) (slice_index_or ys k d)
