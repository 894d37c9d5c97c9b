-- A sum of terms of which none is below 0 is at least each of them.
use Rattle.std.proofs.Common.{◌≡◌, ℕ, ◌+◌, ◌<◌, arith, refl, Bool, true, false}
use Rattle.std.specs.Prelude.{ℤ, pos, ◌≤ℤ◌, ◌==◌, nat_lt, IsTrue}
use Rattle.std.proofs.lemmas.Int.{ints}
use Rattle.std.proofs.lemmas.Bool.Decides.{nat_tests}
use Rattle.sums_and_lists.specs.Sums.{sum_below, where_true}
use Rattle.sums_and_lists.proofs.SumLemmas.{picked, sum_below-le, sum_below-pick, sum_below-zeros}
use Rattle.sums_and_lists.proofs.Orders.{is_lt}
use Rattle.raster_model.specs.declared.edge.Edge.{Edge}
use Rattle.raster_model.specs.Sums.{Field, down_edge, edges_from, is_edge, right_edge, sum_edges, sum_grid}
use Rattle.raster_model.proofs.SumLemmas.{down_is_edge, on_each_edge, right_is_edge}

part_of : (t : Bool) (z : ℤ) → pos 0 ≤ℤ z → where_true t z ≤ℤ z
part_of true z h = omega (arith, ints)
part_of false z h = h

none_below : (t : Bool) (z : ℤ) → (t ≡ true → pos 0 ≤ℤ z) → pos 0 ≤ℤ where_true t z
none_below true z h = h refl
none_below false z h = omega (arith, ints)

sum_below-positive : (n : ℕ) (f : ℕ → ℤ) → ((k : ℕ) → k < n → pos 0 ≤ℤ f k) → pos 0 ≤ℤ sum_below n f
sum_below-positive n f h = rw (sum_below-zeros n (λ k. pos 0) (λ k l. refl)) at (sum_below-le n (λ k. pos 0) f h)

sum_below-has : (n i : ℕ) (f : ℕ → ℤ) → i < n → ((k : ℕ) → k < n → pos 0 ≤ℤ f k) → f i ≤ℤ sum_below n f
sum_below-has n i f l h = rw (sum_below-pick n i f l) at (sum_below-le n (λ k. where_true (i == k) (f k)) f (λ k m. part_of (i == k) (f k) (h k m)))

sum_grid-has : (w h x y : ℕ) (f : Field ℤ) → x < w → y < h → ((a b : ℕ) → a < w → b < h → pos 0 ≤ℤ f a b) → f x y ≤ℤ sum_grid w h f
sum_grid-has w h x y f l m p =
    let row = sum_below-has w x (λ a. f a y) l (λ a k. p a y k m) in
    let all = sum_below-has h y (λ b. sum_below w (λ a. f a b)) m (λ b k. sum_below-positive w (λ a. f a b) (λ a i. p a b i k)) in
    omega (arith, ints, row, all)

pub sum_edges-has : (w h : ℕ) (F : Edge → ℤ) → ((e : Edge) → IsTrue (is_edge w h e) → pos 0 ≤ℤ F e) → (e : Edge) → IsTrue (is_edge w h e) → F e ≤ℤ sum_edges w h F
sum_edges-has w h F p = on_each_edge w h (λ e. F e ≤ℤ sum_edges w h F) at_right at_down
  where
    right_part : (x y : ℕ) → x < w → y < h → pos 0 ≤ℤ where_true (nat_lt (x + 1) w) (F (right_edge x y))
    right_part x y l m = none_below (nat_lt (x + 1) w) (F (right_edge x y)) (λ t. p (right_edge x y) (right_is_edge w h x y l m (is_lt (x + 1) w t)))

    down_part : (x y : ℕ) → x < w → y < h → pos 0 ≤ℤ where_true (nat_lt (y + 1) h) (F (down_edge x y))
    down_part x y l m = none_below (nat_lt (y + 1) h) (F (down_edge x y)) (λ t. p (down_edge x y) (down_is_edge w h x y l m (is_lt (y + 1) h t)))

    all : (x y : ℕ) → x < w → y < h → edges_from w h F x y ≤ℤ sum_edges w h F
    all x y l m = sum_grid-has w h x y (edges_from w h F) l m (λ a b k n. omega (arith, ints, right_part a b k n, down_part a b k n))

    at_right : (x y : ℕ) → x < w → y < h → x + 1 < w → F (right_edge x y) ≤ℤ sum_edges w h F
    at_right x y l m n =
        let one = picked (nat_lt (x + 1) w) (F (right_edge x y)) (grind (arith, nat_tests)) in
        omega (arith, ints, one, down_part x y l m, all x y l m)

    at_down : (x y : ℕ) → x < w → y < h → y + 1 < h → F (down_edge x y) ≤ℤ sum_edges w h F
    at_down x y l m n =
        let one = picked (nat_lt (y + 1) h) (F (down_edge x y)) (grind (arith, nat_tests)) in
        omega (arith, ints, one, right_part x y l m, all x y l m)
