-- Worked examples.
use Rattle.std.proofs.Common.{◌≡◌, ℕ, ◌+◌, ◌*◌, refl, Bool, true, false, List, [], ◌∷◌, pos, negsuc}
use Rattle.std.specs.Prelude.{ℤ, slice_index, slice_index_or, if◌then◌else◌}
use Rattle.raster_model.specs.Sums.{Field, right_edge, down_edge}
use Rattle.raster_model.specs.Phase.{wrapped, wrapped_by}
use Rattle.raster_model.specs.Raster.{Raster, residue, departure, tile_cost, seam_cost}
use Rattle.raster_model.specs.Certificates.{face_bound, face_over_total, face_total, face_product, face_difference, faces_of_tile}
use Rattle.raster_model.specs.Seams.{shifted, flow_bound, flow_in, flow_out, flow_over_total, flow_total}
use Rattle.raster_model.specs.Cells.{cell_count, face_at}
use Rattle.raster_model.specs.Flows.{flow_at, seam_count, seam_place}
use Rattle.raster_model.specs.Weights.{rule_number}
use Rattle.raster_model.specs.declared.weights.RuleKind.TheVariants.{Mean, Product}
use Rattle.sums_and_lists.specs.Sums.{sum_below, count_below}

-- ---- wrapped differences: an exact half cycle is -32768
wrapped-half_cycle_up : wrapped 0 32768 ≡ negsuc 32767
unfolding wrapped_by
wrapped-half_cycle_up = refl

wrapped-half_cycle_down : wrapped 32768 0 ≡ negsuc 32767
unfolding wrapped_by
wrapped-half_cycle_down = refl

wrapped-below_half : wrapped 0 32767 ≡ pos 32767
unfolding wrapped_by
wrapped-below_half = refl

wrapped-over_the_top : wrapped 50000 10000 ≡ pos 25536
unfolding wrapped_by
wrapped-over_the_top = refl

wrapped-one_more : wrapped 65535 0 ≡ pos 1
unfolding wrapped_by
wrapped-one_more = refl

wrapped-one_less : wrapped 0 65535 ≡ negsuc 0
unfolding wrapped_by
wrapped-one_less = refl

-- around a slope: an exact half cycle beyond it is half a cycle below it
wrapped_by-half_cycle_up : wrapped_by (pos 30000) 0 62768 ≡ negsuc 2767
unfolding wrapped_by
wrapped_by-half_cycle_up = refl

wrapped_by-below_half : wrapped_by (pos 30000) 0 62767 ≡ pos 62767
unfolding wrapped_by
wrapped_by-below_half = refl

wrapped_by-least_slope : wrapped_by (negsuc 32767) 0 0 ≡ negsuc 65535
unfolding wrapped_by
wrapped_by-least_slope = refl

wrapped_by-greatest_slope : wrapped_by (pos 32767) 0 0 ≡ pos 0
unfolding wrapped_by
wrapped_by-greatest_slope = refl

-- ---- rules
mean-rounds_down : rule_number Mean 9 4 9 ≡ 6
mean-rounds_down = refl

product-rounds_down : rule_number Product 9 5 8 ≡ 4
product-rounds_down = refl

-- ---- one residue: 2 by 2 pixels in one tile, weights 5 5 / 3 9 by the rule least
abbrev vortex : Raster
vortex = record {
  width = 2;
  height = 2;
  phase = λ x y. slice_index (0 ∷ 16384 ∷ 49152 ∷ 32768 ∷ []) (y * 2 + x);
  slope = λ down. pos 0;
  weight = λ e. slice_index (if e.down then 3 ∷ 5 ∷ [] else 5 ∷ 3 ∷ []) (if e.down then e.x else e.y);
  tile = λ x y. 0;
  tile_count = 1;
  steep = 1;
}

abbrev all_open : Field Bool
all_open x y = true

-- the surfaces 0 16384 / -16384 32768 and 0 16384 / 49152 32768
abbrev lowered : Field ℤ
lowered x y = slice_index_or (pos 0 ∷ pos 16384 ∷ negsuc 16383 ∷ pos 32768 ∷ []) (y * 2 + x) (pos 0)

abbrev kept : Field ℤ
kept x y = slice_index_or (pos 0 ∷ pos 16384 ∷ pos 49152 ∷ pos 32768 ∷ []) (y * 2 + x) (pos 0)

residue-vortex : residue vortex 0 0 ≡ pos 1
unfolding wrapped_by
residue-vortex = refl

-- where the phase is expected to rise by 30000 along a row, it has no residue, and the first surface costs nothing
abbrev ramped : Raster
ramped = record { width = 2; height = 2; phase = vortex.phase; slope = λ down. if down then pos 0 else pos 30000; weight = vortex.weight; tile = vortex.tile; tile_count = 1; steep = 1 }

residue-ramped : residue ramped 0 0 ≡ pos 0
unfolding wrapped_by
residue-ramped = refl

tile_cost-ramped : tile_cost ramped all_open 0 lowered ≡ pos 0
unfolding wrapped_by tile_cost sum_below
tile_cost-ramped = refl

tile_cost-lowered : tile_cost vortex all_open 0 lowered ≡ pos 3
unfolding wrapped_by tile_cost sum_below
tile_cost-lowered = refl

tile_cost-kept : tile_cost vortex all_open 0 kept ≡ pos 3
unfolding wrapped_by tile_cost sum_below
tile_cost-kept = refl

seam_cost-lowered : seam_cost vortex all_open lowered ≡ pos 0
unfolding wrapped_by seam_cost sum_below
seam_cost-lowered = refl

-- its tile has one cell, and the face 3 certifies both surfaces
cell_count-vortex : cell_count vortex 0 ≡ 1
unfolding cell_count count_below
cell_count-vortex = refl

face_total-vortex : face_total vortex 0 (face_at vortex 0 (pos 3 ∷ [])) ≡ pos 3
unfolding wrapped_by face_total face_product face_at count_below sum_below
face_total-vortex = refl

face_difference-top : face_difference (faces_of_tile vortex 0 (λ x y. pos 3)) (right_edge 0 0) ≡ negsuc 2
face_difference-top = refl

face_difference-bottom : face_difference (faces_of_tile vortex 0 (λ x y. pos 3)) (right_edge 0 1) ≡ pos 3
face_difference-bottom = refl

face_difference-left : face_difference (faces_of_tile vortex 0 (λ x y. pos 3)) (down_edge 0 0) ≡ pos 3
face_difference-left = refl

face_difference-right : face_difference (faces_of_tile vortex 0 (λ x y. pos 3)) (down_edge 1 0) ≡ negsuc 2
face_difference-right = refl

-- at the steepness 3 the face 3 certifies as before, since it is above no weight; the face 4 is above two weights by 1, and its bound is 2
abbrev steeply : ℕ → Raster → Raster
steeply q r = record { width = r.width; height = r.height; phase = r.phase; slope = r.slope; weight = r.weight; tile = r.tile; tile_count = r.tile_count; steep = q }

tile_cost-steep : tile_cost (steeply 3 vortex) all_open 0 lowered ≡ pos 3
unfolding wrapped_by tile_cost sum_below
tile_cost-steep = refl

face_bound-three : face_bound (steeply 3 vortex) all_open 0 (face_at vortex 0 (pos 3 ∷ [])) ≡ pos 3
unfolding wrapped_by face_total face_product face_over_total face_at count_below sum_below
face_bound-three = refl

face_bound-four : face_bound (steeply 3 vortex) all_open 0 (face_at vortex 0 (pos 4 ∷ [])) ≡ pos 2
unfolding wrapped_by face_total face_product face_over_total face_at count_below sum_below
face_bound-four = refl

-- ---- two tiles: 4 by 3 pixels, the tile on the right is one column
abbrev seam : Raster
seam = record {
  width = 4;
  height = 3;
  phase = λ x y. slice_index (0 ∷ 0 ∷ 0 ∷ 0 ∷ 0 ∷ 0 ∷ 0 ∷ 20000 ∷ 0 ∷ 0 ∷ 0 ∷ 40000 ∷ []) (y * 4 + x);
  slope = λ down. pos 0;
  weight = λ e. if e.down then 4 else slice_index (4 ∷ 4 ∷ 9 ∷ []) e.y;
  tile = λ x y. slice_index (0 ∷ 0 ∷ 0 ∷ 1 ∷ []) x;
  tile_count = 2;
  steep = 1;
}

abbrev unmoved : Field ℤ
unmoved x y = slice_index_or (pos 0 ∷ pos 0 ∷ pos 0 ∷ pos 0 ∷ pos 0 ∷ pos 0 ∷ pos 0 ∷ pos 20000 ∷ pos 0 ∷ pos 0 ∷ pos 0 ∷ pos 40000 ∷ []) (y * 4 + x) (pos 0)

abbrev one_down : Field ℤ
one_down x y = slice_index_or (pos 0 ∷ pos 0 ∷ pos 0 ∷ negsuc 0 ∷ []) x (pos 0)

abbrev flows : List ℤ
flows = negsuc 3 ∷ negsuc 3 ∷ pos 8 ∷ []

abbrev on_the_right : Field Bool
on_the_right x y = slice_index_or (false ∷ false ∷ false ∷ true ∷ []) x false

-- unmoved the seams cost 9, and 8 where the tile on the right is one cycle lower
seam_cost-unmoved : seam_cost seam all_open unmoved ≡ pos 9
unfolding wrapped_by seam_cost sum_below
seam_cost-unmoved = refl

seam_cost-one_down : seam_cost seam all_open (shifted unmoved one_down) ≡ pos 8
unfolding wrapped_by seam_cost sum_below
seam_cost-one_down = refl

departure-top : departure seam (shifted unmoved one_down) (right_edge 2 0) ≡ negsuc 0
unfolding wrapped_by
departure-top = refl

departure-last : departure seam (shifted unmoved one_down) (right_edge 2 2) ≡ pos 0
unfolding wrapped_by
departure-last = refl

-- the flows -4 -4 8 certify that
seam_count-three : seam_count seam ≡ 3
unfolding seam_count count_below
seam_count-three = refl

seam_place-last : seam_place seam (right_edge 2 2) ≡ 2
unfolding seam_place count_below
seam_place-last = refl

flow_in-balanced : flow_in seam (flow_at seam flows) on_the_right ≡ pos 0
unfolding flow_at seam_place count_below sum_below
flow_in-balanced = refl

flow_out-balanced : flow_out seam (flow_at seam flows) on_the_right ≡ pos 0
unfolding flow_at seam_place count_below sum_below
flow_out-balanced = refl

flow_total-equal : flow_total seam all_open (shifted unmoved one_down) (flow_at seam flows) ≡ pos 8
unfolding wrapped_by flow_total flow_at seam_place count_below sum_below
flow_total-equal = refl

-- ---- a tile on the right that falls where its neighbour rises: two cycles on one edge cost more than one on each of two
abbrev parting : Raster
parting = record {
  width = 4;
  height = 3;
  phase = λ x y. slice_index (0 ∷ 0 ∷ 0 ∷ 0 ∷ 33536 ∷ 33536 ∷ 33536 ∷ 32000 ∷ 1536 ∷ 1536 ∷ 1536 ∷ 64000 ∷ []) (y * 4 + x);
  slope = λ down. pos 0;
  weight = λ e. slice_index (if e.down then 1 ∷ 1 ∷ [] else 9 ∷ 1 ∷ 4 ∷ []) e.y;
  tile = seam.tile;
  tile_count = 2;
  steep = 1;
}

abbrev falling : ℤ → ℤ → ℤ → Field ℤ
falling a b c x y = slice_index_or (pos 0 ∷ pos 0 ∷ pos 0 ∷ a ∷ negsuc 31999 ∷ negsuc 31999 ∷ negsuc 31999 ∷ b ∷ negsuc 63999 ∷ negsuc 63999 ∷ negsuc 63999 ∷ c ∷ []) (y * 4 + x) (pos 0)

abbrev at_top : Field ℤ
at_top = falling (pos 0) (pos 32000) (pos 64000)

abbrev in_the_middle : Field ℤ
in_the_middle = falling (negsuc 65535) (negsuc 33535) (negsuc 1535)

seam_cost-at_top : seam_cost parting all_open at_top ≡ pos 9
unfolding wrapped_by seam_cost sum_below
seam_cost-at_top = refl

flow_bound-at_top : flow_bound parting all_open at_top (flow_at parting (negsuc 4 ∷ pos 1 ∷ pos 4 ∷ [])) ≡ pos 9
unfolding wrapped_by flow_total flow_over_total flow_at seam_place count_below sum_below
flow_bound-at_top = refl

-- at the steepness 3
steep_cost-at_top : seam_cost (steeply 3 parting) all_open at_top ≡ pos 17
unfolding wrapped_by seam_cost sum_below
steep_cost-at_top = refl

steep_cost-in_the_middle : seam_cost (steeply 3 parting) all_open in_the_middle ≡ pos 13
unfolding wrapped_by seam_cost sum_below
steep_cost-in_the_middle = refl

flow_bound-in_the_middle : flow_bound (steeply 3 parting) all_open in_the_middle (flow_at parting (negsuc 8 ∷ pos 0 ∷ pos 9 ∷ [])) ≡ pos 13
unfolding wrapped_by flow_total flow_over_total flow_at seam_place count_below sum_below
flow_bound-in_the_middle = refl
