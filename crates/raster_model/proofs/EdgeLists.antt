use Rattle.std.proofs.Common.{◌≡◌, ℕ, zero, suc, ◌+◌, sym, refl, arith, Bool, true, false, List, [], ◌∷◌, ◌++◌}
use Rattle.std.specs.Prelude.{ℤ, ◌+ℤ◌, nat_lt, if◌then◌else◌}
use Rattle.std.proofs.lemmas.Int.{ints}
use Rattle.raster_model.specs.declared.edge.Edge.{Edge}
use Rattle.raster_model.specs.Sums.{right_edge, down_edge, sum_row, sum_grid, edges_from}
use Rattle.raster_model.specs.EdgeList.{edges_at, edges_in_row, edges_in_rows, list_sum, SumsTheList}
use Rattle.sums_and_lists.specs.Sums.{where_true, sum_below}

list_sum-append : (F : Edge → ℤ) (es fs : List Edge) → list_sum F (es ++ fs) ≡ list_sum F es +ℤ list_sum F fs
unfolding list_sum
list_sum-append F [] fs = omega (arith, ints)
list_sum-append F (e ∷ es) fs = omega (arith, ints, list_sum-append F es fs)

one : (F : Edge → ℤ) (t : Bool) (e : Edge) → list_sum F (if t then e ∷ [] else []) ≡ where_true t (F e)
unfolding list_sum
one F true e = omega (arith, ints)
one F false e = refl

at_pixel : (w h x y : ℕ) (F : Edge → ℤ) → list_sum F (edges_at w h x y) ≡ edges_from w h F x y
at_pixel w h x y F =
    omega (arith, ints, list_sum-append F (if nat_lt (x + 1) w then right_edge x y ∷ [] else []) (if nat_lt (y + 1) h then down_edge x y ∷ [] else []), one F (nat_lt (x + 1) w) (right_edge x y), one F (nat_lt (y + 1) h) (down_edge x y))

in_row : (w h y x : ℕ) (F : Edge → ℤ) → list_sum F (edges_in_row w h y x) ≡ sum_row x (edges_from w h F) y
unfolding list_sum sum_below edges_in_row
in_row w h y zero F = refl
in_row w h y (suc x) F = omega (arith, ints, list_sum-append F (edges_in_row w h y x) (edges_at w h x y), in_row w h y x F, at_pixel w h x y F)

in_rows : (w h y : ℕ) (F : Edge → ℤ) → list_sum F (edges_in_rows w h y) ≡ sum_grid w y (edges_from w h F)
unfolding list_sum sum_below edges_in_rows
in_rows w h zero F = refl
in_rows w h (suc y) F = omega (arith, ints, list_sum-append F (edges_in_rows w h y) (edges_in_row w h y w), in_rows w h y F, in_row w h y w F)

pub sums_the_list : SumsTheList
sums_the_list w h F = sym (in_rows w h h F)
