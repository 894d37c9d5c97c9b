-- The numbers of parts that have at least so many pixels: from 1, in the row order of their first pixels.
use Rattle.std.specs.Prelude.{◌≡◌, ℕ, ◌+◌, ◌*◌, ◌/◌, ◌%◌, ◌<◌, ◌≤◌, ◌==◌, nat_le, List, length, if◌then◌else◌, slice_index}
use Rattle.std.specs.List.{count_by, position_or_len}
use Rattle.raster_model.specs.Limits.{max_pixels}
use Rattle.raster_model.specs.Sums.{Field}
use Rattle.sums_and_lists.specs.Sums.{count_below, one_if}
use Rattle.joined_cells.specs.Flood.{no_label}
use Rattle.joined_cells.specs.Trees.{HasTreeNumbers}
use Rattle.certain_parts.specs.Margins.{Faced}
use Rattle.certain_parts.specs.Parts.{parts_joined}
use Rattle.certain_parts.specs.PartsView.{PartsView}

-- how many places of a list have a number
abbrev pub size_of : List ℕ → ℕ → ℕ
size_of numbers n = count_by (λ number. number == n) numbers

-- where a size is enough, how many before it are, and it itself; else 0
abbrev pub rank_of : ℕ → (ℕ → ℕ) → ℕ → ℕ
rank_of least size n = if nat_le least (size n) then 1 + count_below n (λ i. one_if (nat_le least (size i))) else 0

-- how many of the first sizes are enough
abbrev pub enough : ℕ → (ℕ → ℕ) → ℕ → ℕ
enough least size total = count_below total (λ i. one_if (nat_le least (size i)))

-- the label at a place, where trees of any size are numbered from 0: 0 where there is no tree, or too small a one
abbrev pub part_label : ℕ → List ℕ → ℕ → ℕ
part_label least numbers i = if slice_index numbers i == no_label then 0 else rank_of least (size_of numbers) (slice_index numbers i)

-- the label of a pixel; how many pixels a part has; the place of its first pixel in row order, and the column and the row of that pixel
abbrev pub label_at : PartsView → Field ℕ
label_at v x y = slice_index v.labels (y * v.width + x)

abbrev pub part_size : PartsView → ℕ → ℕ
part_size v n = size_of v.labels n

abbrev pub first_place : PartsView → ℕ → ℕ
first_place v n = position_or_len (λ label. label == n) v.labels

abbrev pub first_column : PartsView → ℕ → ℕ
first_column v n = first_place v n % v.width

abbrev pub first_row : PartsView → ℕ → ℕ
first_row v n = first_place v n / v.width

-- the labels are those of the parts at a limit that have at least so many pixels
pub record ArePartsOf (faced : Faced) (limit least : ℕ) (v : PartsView) : Type 0 where
  pub width : v.width ≡ faced.raster.width
  pub height : v.height ≡ faced.raster.height
  pub full : length v.labels ≡ v.width * v.height
  pub numbers : List ℕ
  pub total : ℕ
  pub parts : HasTreeNumbers (parts_joined faced limit) numbers total
  pub few : total ≤ max_pixels
  pub labels : (i : ℕ) → i < length v.labels → slice_index v.labels i ≡ part_label least numbers i
  pub count : v.count ≡ enough least (size_of numbers) total
