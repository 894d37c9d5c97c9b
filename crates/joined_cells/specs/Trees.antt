-- The numbers of trees as a list.
use Rattle.std.specs.Prelude.{◌≡◌, ℕ, ◌+◌, ◌*◌, ◌<◌, ◌≤◌, false, List, length, slice_index}
use Rattle.joined_cells.specs.Flood.{no_label}
use Rattle.joined_cells.specs.Joining.{AreTreeNumbers, Joining}

-- a list has the number of its tree for each open pixel, in row order, and none for the others
pub record HasTreeNumbers (joining : Joining) (labels : List ℕ) (count : ℕ) : Type 0 where
  pub full : length labels ≡ joining.width * joining.height
  pub told : AreTreeNumbers joining (λ x y. slice_index labels (y * joining.width + x)) count
  pub masked : (x y : ℕ) → x < joining.width → y < joining.height → joining.mask x y ≡ false → slice_index labels (y * joining.width + x) ≡ no_label
  pub few : count ≤ joining.width * joining.height
