-- The parts of a grid's text, line by line: words of helpers.
use Rattle.raster_model.specs.declared.limits.TheConstants.{MAX_PIXELS, MAX_SIDE}
use Rattle.std.specs.Prelude.{◌≡◌, ℕ, ◌*◌, ◌≤◌, ℤ, List, ◌++◌, decimal, length}
use Rattle.raster_model.specs.Sums.{Field}
use Rattle.text_lines.specs.Forms.{Form, LineOf}
use Rattle.text_lines.specs.Numbers.{AreLongs, numbers_line}
use Rattle.grid_writer.specs.declared.read.Sizes.{Sizes}
use Rattle.grid_writer.specs.Grid.{frame_lines, grid_rows}
use Rattle.grid_writer.specs.Grids.{AreLong, GridOf, text_of_grid}

-- a number from `least` to `most` after a label, and such a line
abbrev pub IsCount : List ℕ → ℕ → ℕ → List ℕ → Type 0
IsCount label least most line = (n : ℕ) × ((least ≤ n) × ((n ≤ most) × (line ≡ label ++ decimal n)))

abbrev pub IsCountLine : List ℕ → ℕ → ℕ → Form
IsCountLine label least most = LineOf (IsCount label least most)

-- so many values that fit 64 bits, and such a line
abbrev pub IsRow : ℕ → List ℕ → Type 0
IsRow width line = (row : List ℤ) × (AreLongs row × ((length row ≡ width) × (line ≡ numbers_line row)))

abbrev pub IsRowLine : ℕ → Form
IsRowLine width = LineOf (IsRow width)

-- rows of values that fit 64 bits, and what follows the size
abbrev pub IsRowsText : ℕ → ℕ → Form
IsRowsText width height text = (values : Field ℤ) × (AreLong width height values × (text ≡ grid_rows width height values))

abbrev pub IsBodyText : ℕ → ℕ → Form
IsBodyText width height text = (values : Field ℤ) × (AreLong width height values × (text ≡ frame_lines ++ grid_rows width height values))

-- limits of a size that some grid has
pub record AreSizes (s : Sizes) : Type 0 where
  pub wide : 1 ≤ s.least_width
  pub widths : s.least_width ≤ s.most_width
  pub narrow : s.most_width ≤ MAX_SIDE
  pub high : 1 ≤ s.least_height
  pub heights : s.least_height ≤ s.most_height
  pub low : s.most_height ≤ MAX_SIDE
  pub few : s.most_width * s.least_height ≤ s.most_pixels
  pub pixels : s.most_pixels ≤ MAX_PIXELS

-- a size within limits
pub record HasSizeWithin (s : Sizes) (width height : ℕ) : Type 0 where
  pub wide : s.least_width ≤ width
  pub narrow : width ≤ s.most_width
  pub high : s.least_height ≤ height
  pub low : height ≤ s.most_height
  pub few : width * height ≤ s.most_pixels

-- the text of values that fit 64 bits, of a size within limits
abbrev pub IsGridTextIn : Sizes → Form
IsGridTextIn s text = (grid : GridOf) × (AreLong grid.width grid.height grid.values × (HasSizeWithin s grid.width grid.height × (text ≡ text_of_grid grid)))
