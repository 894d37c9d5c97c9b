-- Wrapped differences as contracts see them: the window, the terms with the ramp, and in row order the numbers of the window's right edges and of its down edges, less the slope of the ramp.
use Rattle.std.specs.Prelude.{ℤ, List}
use Rattle.raster_model.specs.declared.terms.Terms.{Terms}
use Rattle.raster_model.specs.declared.tiling.Window.{Window}

pub record GradientsView : Type 0 where
  pub window : Window
  pub terms : Terms
  pub right : List ℤ
  pub down : List ℤ
