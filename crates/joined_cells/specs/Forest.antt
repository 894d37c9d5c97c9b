-- Trees over the numbers below a bound, each given by its parent (Galler and Fischer 1964).
use Rattle.std.specs.Prelude.{◌≡◌, ℕ, ◌<◌, ◌≤◌, ◌==◌, if◌then◌else◌, min, max, List, length, slice_index}

-- the parents lead to the roots: no parent is greater than its number, a number and its parent have the same root, and a number that is its own parent is a root
pub record IsForest (parents : List ℕ) (root : ℕ → ℕ) : Type 0 where
  pub below : (i : ℕ) → i < length parents → slice_index parents i ≤ i
  pub leads : (i : ℕ) → i < length parents → root (slice_index parents i) ≡ root i
  pub ends : (i : ℕ) → i < length parents → slice_index parents i ≡ i → root i ≡ i

-- the roots after the trees of a and b became one tree, whose root is the lesser of their roots
abbrev pub root_with : (ℕ → ℕ) → ℕ → ℕ → ℕ → ℕ
root_with root a b i = if root i == max (root a) (root b) then min (root a) (root b) else root i
