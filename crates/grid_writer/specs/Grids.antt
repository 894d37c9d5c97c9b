-- Grids as values, and the form of their text.
use Rattle.std.specs.Prelude.{◌≡◌, ℕ, ◌+◌, ◌*◌, ◌<◌, ℤ, pos, IsTrue, List, slice_index_or}
use Rattle.raster_model.specs.Limits.{is_tiled_size}
use Rattle.raster_model.specs.Sums.{Field}
use Rattle.grid_writer.specs.declared.values.Grid.{Grid}
use Rattle.text_lines.specs.Forms.{Form}
use Rattle.grid_writer.specs.Grid.{grid_text}
use Rattle.text_lines.specs.Numbers.{FitsLong}

-- what a grid's text tells: its size, and the value at each pixel
pub record GridOf : Type 0 where
  pub width : ℕ
  pub height : ℕ
  pub values : Field ℤ

-- the value that a list in row order has at a pixel
abbrev pub value_at : ℕ → List ℤ → Field ℤ
value_at width values x y = slice_index_or values (y * width + x) (pos 0)

abbrev pub grid_of : Grid → GridOf
grid_of grid = record { width = grid.width; height = grid.height; values = value_at grid.width grid.values.items }

-- the values on the raster fit 64 bits
abbrev pub AreLong : ℕ → ℕ → Field ℤ → Type 0
AreLong width height values = (x y : ℕ) → x < width → y < height → FitsLong (values x y)

-- the values of a row do
abbrev pub IsLongRow : GridOf → ℕ → Type 0
IsLongRow grid y = (x : ℕ) → x < grid.width → FitsLong (grid.values x y)

-- a size within the limits, and values that fit
pub record IsGrid (grid : GridOf) : Type 0 where
  pub sized : IsTrue (is_tiled_size grid.width grid.height)
  pub fits : AreLong grid.width grid.height grid.values

-- the text of a grid
abbrev pub text_of_grid : GridOf → List ℕ
text_of_grid grid = grid_text grid.width grid.height grid.values

abbrev pub IsGridText : Form
IsGridText text = (grid : GridOf) × (IsGrid grid × (text ≡ text_of_grid grid))

-- the text of a grid of this size
abbrev pub IsGridTextOf : ℕ → ℕ → Form
IsGridTextOf width height text = (values : Field ℤ) × (AreLong width height values × (text ≡ grid_text width height values))

-- two grids are equal on the raster
pub record IsSameGrid (g h : GridOf) : Type 0 where
  pub width : g.width ≡ h.width
  pub height : g.height ≡ h.height
  pub values : (x y : ℕ) → x < g.width → y < g.height → g.values x y ≡ h.values x y

-- no two grids have one text
abbrev pub GridTextsAreUnique : Type 0
GridTextsAreUnique = (g h : GridOf) → IsGrid g → IsGrid h → text_of_grid g ≡ text_of_grid h → IsSameGrid g h
