-- Worked examples.
use Rattle.std.proofs.Common.{◌≡◌, refl, arith, List, [], ◌∷◌, pos, negsuc}
use Rattle.std.specs.Prelude.{ℤ}
use Rattle.std.proofs.lemmas.Int.{ints}
use Rattle.raster_model.specs.declared.terms.Terms.{Terms}
use Rattle.raster_model.specs.declared.tiling.Window.{Window}
use Rattle.raster_model.specs.Sums.{right_edge, down_edge}
use Rattle.wrapped_gradient.specs.Corrections.{greatest}
use Rattle.wrapped_gradient.specs.Gradients.{residue_at}
use Rattle.wrapped_gradient.specs.Windows.{edge_value, round}

-- ---- three columns and two rows of pixels: four right edges and three down edges
abbrev box : Window
box = record { x0 = 5; y0 = 7; x1 = 7; y1 = 8 }

abbrev rights : List ℤ
rights = pos 1 ∷ (pos 2 ∷ (pos 3 ∷ (pos 4 ∷ [])))

abbrev downs : List ℤ
downs = pos 5 ∷ (pos 6 ∷ (pos 7 ∷ []))

second_right : edge_value box rights downs (right_edge 6 7) ≡ pos 2
second_right = refl

first_right_below : edge_value box rights downs (right_edge 5 8) ≡ pos 3
first_right_below = refl

last_down : edge_value box rights downs (down_edge 7 7) ≡ pos 7
last_down = refl

-- 2 along the top and 7 along the right side, less 4 along the bottom and 6 along the left side
round_the_second_cell : round (edge_value box rights downs) 6 7 ≡ negsuc 0
round_the_second_cell = refl

-- ---- a full turn in four quarters, clockwise with rows from the top
abbrev without_ramp : Terms
without_ramp = record { ramp_x = pos 0; ramp_y = pos 0; steep = 1; across = (omega (arith, ints), omega (arith, ints)); along = (omega (arith, ints), omega (arith, ints)); steepness = (omega arith, omega arith) }

turn : residue_at (record { window = record { x0 = 0; y0 = 0; x1 = 1; y1 = 1 }; terms = without_ramp; right = pos 16384 ∷ (negsuc 16383 ∷ []); down = negsuc 16383 ∷ (pos 16384 ∷ []) }) 0 0 ≡ pos 1
turn = refl

-- ---- the greatest absolute number
greatest_is_negative : greatest (pos 3 ∷ (negsuc 4 ∷ (pos 2 ∷ []))) ≡ 5
unfolding greatest
greatest_is_negative = refl
