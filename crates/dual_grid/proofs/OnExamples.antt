-- Worked examples.
use Rattle.std.proofs.Common.{◌≡◌, refl}
use Rattle.raster_model.specs.declared.tiling.Window.{Window}
use Rattle.raster_model.specs.Sums.{right_edge, down_edge}
use Rattle.std.specs.Prelude.{pos, negsuc, false}
use Rattle.dual_grid.specs.Grids.{cost_in_place, is_taken, residual_at, twin_place}
use Rattle.dual_grid.specs.Nodes.{node_at, node_above, node_left, first_side, other_side, edge_number}

-- ---- three columns and two rows of pixels: the cells 0 and 1, and the outside 2
abbrev box : Window
box = record { x0 = 5; y0 = 7; x1 = 7; y1 = 8 }

second_cell : node_at box 6 7 ≡ 1
unfolding node_at
second_cell = refl

-- the last right edge lies between the second cell above it and the outside
above_the_last_right : first_side box (right_edge 6 8) ≡ 1
unfolding first_side node_above node_at
above_the_last_right = refl

below_the_last_right : other_side box (right_edge 6 8) ≡ 2
unfolding other_side node_at
below_the_last_right = refl

-- the second down edge lies between the second cell on its right and the first on its left
right_of_the_second_down : first_side box (down_edge 6 7) ≡ 1
unfolding first_side node_at
right_of_the_second_down = refl

left_of_the_second_down : other_side box (down_edge 6 7) ≡ 0
unfolding other_side node_left node_at
left_of_the_second_down = refl

-- it is edge 5, after four right edges and one down edge
number_of_the_second_down : edge_number box (down_edge 6 7) ≡ 5
number_of_the_second_down = refl

-- ---- across an edge of weight 4, over which 3 units flow forth, at the steepness 1, in a window with 3969 cells
forth_has_less : residual_at 3970 1 4 (pos 3) 0 ≡ 3967
forth_has_less = refl

its_twin_has_three : residual_at 3970 1 4 (pos 3) 1 ≡ 3
its_twin_has_three = refl

back_has_all : residual_at 3970 1 4 (pos 3) 2 ≡ 3970
back_has_all = refl

twins_at_a_weight : twin_place 4 0 ≡ 1
twins_at_a_weight = refl

a_twin_costs_less_than_nothing : cost_in_place 1 4 1 ≡ negsuc 3
a_twin_costs_less_than_nothing = refl

-- ---- the same at the steepness 5: one unit went along the arc, and two along the steep arc
the_arc_is_full : residual_at 3970 5 4 (pos 3) 0 ≡ 0
the_arc_is_full = refl

its_twin_has_one : residual_at 3970 5 4 (pos 3) 1 ≡ 1
its_twin_has_one = refl

the_steep_arc_has_less : residual_at 3970 5 4 (pos 3) 4 ≡ 3968
the_steep_arc_has_less = refl

its_twin_has_two : residual_at 3970 5 4 (pos 3) 5 ≡ 2
its_twin_has_two = refl

the_arc_back_has_one : residual_at 3970 5 4 (pos 3) 2 ≡ 1
the_arc_back_has_one = refl

a_steep_arc_costs_more : cost_in_place 5 4 4 ≡ pos 20
a_steep_arc_costs_more = refl

no_steep_arc_without_need : is_taken 1 4 4 ≡ false
no_steep_arc_without_need = refl

-- ---- across an edge of weight 0
forth_has_less_at_no_weight : residual_at 3970 1 0 (pos 3) 0 ≡ 3967
forth_has_less_at_no_weight = refl

back_has_more_at_no_weight : residual_at 3970 1 0 (pos 3) 2 ≡ 3973
back_has_more_at_no_weight = refl

twins_at_no_weight : twin_place 0 0 ≡ 2
twins_at_no_weight = refl

no_second_twin : is_taken 1 0 1 ≡ false
no_second_twin = refl
