-- Parts as contracts see them: the raster's size, a label for each pixel in row order, and how many parts there are.
use Rattle.std.specs.Prelude.{ℕ, List}

pub record PartsView : Type 0 where
  pub width : ℕ
  pub height : ℕ
  pub labels : List ℕ
  pub count : ℕ
