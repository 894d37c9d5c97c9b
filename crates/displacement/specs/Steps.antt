-- Words of the steps from a grid to its displacements: no clause of another crate cites them.
use Rattle.std.specs.Prelude.{◌≡◌, ℕ, ◌*◌, ◌/◌, ◌%◌, ◌<◌, ◌≤◌, ℤ, pos, neg_ℤ, ◌+ℤ◌, ◌*ℤ◌, ◌≤ℤ◌, ◌<ℤ◌, List, slice_index_or}
use Rattle.sums_and_lists.specs.Sums.{count_below, sum_below, one_if, where_true}
use Rattle.grid_writer.specs.Grids.{GridOf}
use Rattle.displacement.specs.declared.fault.SightFault.{SightFault}
use Rattle.displacement.specs.declared.fault.SightFault.TheVariants.{Reference, Wide, Memory}
use Rattle.displacement.specs.declared.sight.Sight.{Sight}
use Rattle.grid_writer.specs.Values.{is_value}
use Rattle.displacement.specs.Displacements.{IsBlockValue, IsFirstWideBlock}

-- the sum of n numbers of 64 bits may be z
pub record MayBeSum (n : ℕ) (z : ℤ) : Type 0 where
  pub above : neg_ℤ (pos (n * 9223372036854775808)) ≤ℤ z
  pub below : z ≤ℤ pos (n * 9223372036854775808)

-- q is a over m, rounded down
pub record IsFloor (a m q : ℤ) : Type 0 where
  pub least : (m *ℤ q) ≤ℤ a
  pub most : a <ℤ (m *ℤ (q +ℤ pos 1))

-- of the first n numbers of a list, so many are values, and z is the sum of these values
pub record IsListTotal (zs : List ℤ) (n count : ℕ) (z : ℤ) : Type 0 where
  pub counted : count ≡ count_below n (λ k. one_if (is_value (slice_index_or zs k (pos 0))))
  pub summed : z ≡ sum_below n (λ k. where_true (is_value (slice_index_or zs k (pos 0))) (slice_index_or zs k (pos 0)))
  pub few : count ≤ n
  pub within : MayBeSum count z

-- a list has what stands for the first n blocks in row order, in rows of w blocks
abbrev pub AreBlockValues : Sight → GridOf → ℕ → ℕ → List ℤ → Type 0
AreBlockValues sight grid w n zs = (k : ℕ) → k < n → IsBlockValue sight grid (k % w) (k / w) (slice_index_or zs k (pos 0))

-- what a refusal says once there are a reference and the room for the values
abbrev pub HasBlockCause : Sight → GridOf → SightFault → Type 0
HasBlockCause sight grid Reference = ⊥
HasBlockCause sight grid (Wide x y) = IsFirstWideBlock sight grid x y
HasBlockCause sight grid Memory = ⊥
