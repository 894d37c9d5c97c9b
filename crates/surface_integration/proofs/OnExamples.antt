-- Worked examples.
use Rattle.std.proofs.Common.{◌≡◌, refl, List, [], ◌∷◌, pos, negsuc}
use Rattle.std.specs.Prelude.{ℤ}
use Rattle.raster_model.specs.declared.tiling.Window.{Window}
use Rattle.surface_integration.specs.Cycles.{cycles_at}

-- ---- three columns and two rows of pixels
abbrev box : Window
box = record { x0 = 5; y0 = 7; x1 = 7; y1 = 8 }

abbrev cycles : List ℤ
cycles = pos 0 ∷ (pos 1 ∷ (pos 2 ∷ (negsuc 0 ∷ (negsuc 1 ∷ (negsuc 2 ∷ [])))))

at_the_first : cycles_at box cycles 5 7 ≡ pos 0
at_the_first = refl

at_the_end_of_the_first_row : cycles_at box cycles 7 7 ≡ pos 2
at_the_end_of_the_first_row = refl

below_the_first : cycles_at box cycles 5 8 ≡ negsuc 0
below_the_first = refl
