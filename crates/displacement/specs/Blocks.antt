-- Blocks of pixels of a grid: how many of their pixels have a value, and the sum of these values.
use Rattle.std.specs.Prelude.{ℕ, ◌+◌, ◌*◌, ℤ, Bool, ◌&&◌}
use Rattle.std.specs.Int.{div_ceil}
use Rattle.sums_and_lists.specs.Sums.{count_below, one_if, where_true}
use Rattle.raster_model.specs.Sums.{Field, is_pixel, sum_grid}
use Rattle.grid_writer.specs.Grids.{GridOf}
use Rattle.grid_writer.specs.Values.{is_value}

-- the pixel is on the grid and has a value
abbrev pub has_value : GridOf → Field Bool
has_value grid x y = is_pixel grid.width grid.height x y && is_value (grid.values x y)

-- how many blocks of b pixels there are along a side of n pixels: the last may be cut
abbrev pub blocks_of : ℕ → ℕ → ℕ
blocks_of b n = div_ceil n b

-- block (i, j) has the pixels (b * i + u, b * j + v) with u and v below b: how many of them have a value, and the sum of these values
unfoldable pub block_count : GridOf → ℕ → Field ℕ
block_count grid b i j = count_below b (λ v. count_below b (λ u. one_if (has_value grid (b * i + u) (b * j + v))))

unfoldable pub block_sum : GridOf → ℕ → Field ℤ
block_sum grid b i j = sum_grid b b (λ u v. where_true (has_value grid (b * i + u) (b * j + v)) (grid.values (b * i + u) (b * j + v)))
