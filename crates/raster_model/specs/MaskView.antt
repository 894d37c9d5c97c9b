-- A mask as contracts see it: its size, and for each pixel in row order whether it is open.
use Rattle.std.specs.Prelude.{ℕ, List, Bool}

pub record MaskView : Type 0 where
  pub width : ℕ
  pub height : ℕ
  pub unmasked : List Bool
