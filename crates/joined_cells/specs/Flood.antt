-- What a flood over the edges of a raster has joined, and the numbers of its trees.
use Rattle.std.specs.Prelude.{◌≡◌, ℕ, ◌+◌, ◌*◌, ◌/◌, ◌%◌, ◌<◌, ◌≤◌, Bool, ◌&&◌, ◌==◌, IsTrue, if◌then◌else◌, List, length, slice_index}
use Rattle.raster_model.specs.declared.edge.Edge.{Edge}
use Rattle.raster_model.specs.Sums.{Field, end_x, end_y}
use Rattle.sums_and_lists.specs.Sums.{count_below, one_if}
use Rattle.joined_cells.specs.Forest.{IsForest}
use Rattle.joined_cells.specs.Joining.{AreJoinedBy, Joining, joins}

-- the number of an edge: edges go in the row order of their other ends, and each pixel has two numbers, for its left edge and its upper edge
abbrev pub edge_rank : ℕ → Edge → ℕ
edge_rank w edge = 2 * (end_y edge * w + end_x edge) + (if edge.down then 1 else 0)

-- a walk joins each pixel to its root, which is no later pixel; both ends of an edge that joins them and has a number below k have the same root; and a pixel whose edges have numbers from k on is its own root
pub record IsFlooded (joining : Joining) (k : ℕ) (root : ℕ → ℕ) : Type 0 where
  pub least : (i : ℕ) → root i ≤ i
  pub stays : (i : ℕ) → root (root i) ≡ root i
  pub walks : (i : ℕ) → AreJoinedBy joining (i % joining.width) (i / joining.width) (root i % joining.width) (root i / joining.width)
  pub edges : (e : Edge) → IsTrue (joins joining e) → edge_rank joining.width e < k → root (e.y * joining.width + e.x) ≡ root (end_y e * joining.width + end_x e)
  pub alone : (i : ℕ) → k ≤ 2 * i → root i ≡ i

-- the parents of the pixels form such trees
pub record IsFlood (joining : Joining) (k : ℕ) (parents : List ℕ) : Type 0 where
  pub root : ℕ → ℕ
  pub size : length parents ≡ joining.width * joining.height
  pub forest : IsForest parents root
  pub flooded : IsFlooded joining k root

-- the pixel at a place is open, and it is the root of its tree
abbrev pub is_first : ℕ → Field Bool → (ℕ → ℕ) → ℕ → Bool
is_first w mask root i = mask (i % w) (i / w) && (root i == i)

-- how many such pixels come before a place
abbrev pub firsts_before : ℕ → Field Bool → (ℕ → ℕ) → ℕ → ℕ
firsts_before w mask root k = count_below k (λ i. one_if (is_first w mask root i))

-- what stands in place of a number at a pixel that has none
abbrev pub no_label : ℕ
no_label = 4294967295

-- the number of a pixel's tree, and none if the pixel is masked
abbrev pub tree_number : ℕ → Field Bool → (ℕ → ℕ) → ℕ → ℕ
tree_number w mask root i = if mask (i % w) (i / w) then firsts_before w mask root (root i) else no_label

-- the first k places have their numbers, the others still have their parents, and `count` numbers are given
pub record IsNumbered (joining : Joining) (k count : ℕ) (labels : List ℕ) : Type 0 where
  pub root : ℕ → ℕ
  pub size : length labels ≡ joining.width * joining.height
  pub flooded : IsFlooded joining (2 * (joining.height * joining.width)) root
  pub below : (i : ℕ) → k ≤ i → i < length labels → slice_index labels i ≤ i
  pub leads : (i : ℕ) → k ≤ i → i < length labels → root (slice_index labels i) ≡ root i
  pub ends : (i : ℕ) → k ≤ i → i < length labels → slice_index labels i ≡ i → root i ≡ i
  pub numbers : (i : ℕ) → i < k → slice_index labels i ≡ tree_number joining.width joining.mask root i
  pub counted : count ≡ firsts_before joining.width joining.mask root k
