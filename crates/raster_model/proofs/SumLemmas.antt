use Rattle.std.proofs.Common.{◌≡◌, ℕ, zero, suc, ◌+◌, ◌<◌, sym, ◌∙◌, ap, arith, Bool, true, false}
use Rattle.std.specs.Prelude.{ℤ, pos, ◌+ℤ◌, ◌-ℤ◌, ◌*ℤ◌, ◌≤ℤ◌, nat_lt, IsTrue, ◌&&◌}
use Rattle.std.proofs.lemmas.Int.{ints}
use Rattle.std.proofs.lemmas.Bool.Decides.{nat_tests}
use Rattle.std.proofs.lemmas.Bool.{and_parts}
use Rattle.raster_model.specs.declared.edge.Edge.{Edge}
use Rattle.raster_model.specs.Sums.{sum_grid, sum_edges, is_edge, right_edge, down_edge}
use Rattle.sums_and_lists.proofs.Products.{mul-add}
use Rattle.sums_and_lists.proofs.Orders.{both_lt, is_lt}
use Rattle.sums_and_lists.proofs.SumLemmas.{sum_below-add, sum_below-le, sum_below-same, sum_below-scale, sum_below-swap, sum_below-zeros, where_true-add, where_true-le, where_true-same, where_true-scale, where_true-zero}
use Rattle.sums_and_lists.specs.Sums.{sum_below, where_true}

-- rows first or columns first
pub sum_grid-swap : (w h : ℕ) (f : ℕ → ℕ → ℤ) → sum_grid w h f ≡ sum_grid h w (λ y x. f x y)
sum_grid-swap w h f = sum_below-swap h w (λ y x. f x y)

pub sum_grid-same : (w h : ℕ) (f g : ℕ → ℕ → ℤ) → ((x y : ℕ) → x < w → y < h → f x y ≡ g x y) → sum_grid w h f ≡ sum_grid w h g
sum_grid-same w h f g e =
    sum_below-same h (λ y. sum_below w (λ x. f x y)) (λ y. sum_below w (λ x. g x y)) (λ y m. sum_below-same w (λ x. f x y) (λ x. g x y) (λ x l. e x y l m))

pub sum_grid-le : (w h : ℕ) (f g : ℕ → ℕ → ℤ) → ((x y : ℕ) → x < w → y < h → f x y ≤ℤ g x y) → sum_grid w h f ≤ℤ sum_grid w h g
sum_grid-le w h f g e =
    sum_below-le h (λ y. sum_below w (λ x. f x y)) (λ y. sum_below w (λ x. g x y)) (λ y m. sum_below-le w (λ x. f x y) (λ x. g x y) (λ x l. e x y l m))

pub sum_grid-add : (w h : ℕ) (f g : ℕ → ℕ → ℤ) → sum_grid w h (λ x y. f x y +ℤ g x y) ≡ sum_grid w h f +ℤ sum_grid w h g
sum_grid-add w h f g =
    sum_below-same h (λ y. sum_below w (λ x. f x y +ℤ g x y)) (λ y. sum_below w (λ x. f x y) +ℤ sum_below w (λ x. g x y)) (λ y m. sum_below-add w (λ x. f x y) (λ x. g x y))
    ∙ sum_below-add h (λ y. sum_below w (λ x. f x y)) (λ y. sum_below w (λ x. g x y))

pub right_is_edge : (w h x y : ℕ) → x < w → y < h → x + 1 < w → IsTrue (is_edge w h (right_edge x y))
right_is_edge w h x y l m n = grind (arith, nat_tests)

pub down_is_edge : (w h x y : ℕ) → x < w → y < h → y + 1 < h → IsTrue (is_edge w h (down_edge x y))
down_is_edge w h x y l m n = grind (arith, nat_tests)

-- what holds of each right_edge edge and of each down_edge edge holds of each edge
pub on_each_edge : (w h : ℕ) (P : Edge → Type 0) → ((x y : ℕ) → x < w → y < h → x + 1 < w → P (right_edge x y)) → ((x y : ℕ) → x < w → y < h → y + 1 < h → P (down_edge x y)) → (e : Edge) → IsTrue (is_edge w h e) → P e
on_each_edge w h P p q e i = go e.down i
  where
    go : (d : Bool) → IsTrue (is_edge w h (record { x = e.x; y = e.y; down = d })) → P (record { x = e.x; y = e.y; down = d })
    go true i =
        let b = and_parts (nat_lt e.x w && nat_lt e.y h) (nat_lt e.x w && nat_lt (e.y + 1) h) i in
        q e.x e.y (both_lt e.x w e.y h b.0).0 (both_lt e.x w e.y h b.0).1 (both_lt e.x w (e.y + 1) h b.1).1
    go false i =
        let b = and_parts (nat_lt e.x w && nat_lt e.y h) (nat_lt (e.x + 1) w && nat_lt e.y h) i in
        p e.x e.y (both_lt e.x w e.y h b.0).0 (both_lt e.x w e.y h b.0).1 (both_lt (e.x + 1) w e.y h b.1).0

pub sum_edges-le : (w h : ℕ) (F G : Edge → ℤ) → ((e : Edge) → IsTrue (is_edge w h e) → F e ≤ℤ G e) → sum_edges w h F ≤ℤ sum_edges w h G
sum_edges-le w h F G e =
    sum_grid-le w h (λ x y. where_true (nat_lt (x + 1) w) (F (right_edge x y)) +ℤ where_true (nat_lt (y + 1) h) (F (down_edge x y))) (λ x y. where_true (nat_lt (x + 1) w) (G (right_edge x y)) +ℤ where_true (nat_lt (y + 1) h) (G (down_edge x y)))
    (λ x y l m. omega (arith, ints, where_true-le (nat_lt (x + 1) w) (F (right_edge x y)) (G (right_edge x y)) (λ t. e (right_edge x y) (right_is_edge w h x y l m (is_lt (x + 1) w t))), where_true-le (nat_lt (y + 1) h) (F (down_edge x y)) (G (down_edge x y)) (λ t. e (down_edge x y) (down_is_edge w h x y l m (is_lt (y + 1) h t)))))

pub sum_edges-same : (w h : ℕ) (F G : Edge → ℤ) → ((e : Edge) → IsTrue (is_edge w h e) → F e ≡ G e) → sum_edges w h F ≡ sum_edges w h G
sum_edges-same w h F G e =
    sum_grid-same w h (λ x y. where_true (nat_lt (x + 1) w) (F (right_edge x y)) +ℤ where_true (nat_lt (y + 1) h) (F (down_edge x y))) (λ x y. where_true (nat_lt (x + 1) w) (G (right_edge x y)) +ℤ where_true (nat_lt (y + 1) h) (G (down_edge x y)))
    (λ x y l m. omega (arith, ints, where_true-same (nat_lt (x + 1) w) (F (right_edge x y)) (G (right_edge x y)) (λ t. e (right_edge x y) (right_is_edge w h x y l m (is_lt (x + 1) w t))), where_true-same (nat_lt (y + 1) h) (F (down_edge x y)) (G (down_edge x y)) (λ t. e (down_edge x y) (down_is_edge w h x y l m (is_lt (y + 1) h t)))))

pub sum_edges-add : (w h : ℕ) (F G : Edge → ℤ) → sum_edges w h (λ e. F e +ℤ G e) ≡ sum_edges w h F +ℤ sum_edges w h G
sum_edges-add w h F G =
    sum_grid-same w h (λ x y. where_true (nat_lt (x + 1) w) (F (right_edge x y) +ℤ G (right_edge x y)) +ℤ where_true (nat_lt (y + 1) h) (F (down_edge x y) +ℤ G (down_edge x y))) (λ x y. (where_true (nat_lt (x + 1) w) (F (right_edge x y)) +ℤ where_true (nat_lt (y + 1) h) (F (down_edge x y))) +ℤ (where_true (nat_lt (x + 1) w) (G (right_edge x y)) +ℤ where_true (nat_lt (y + 1) h) (G (down_edge x y))))
    (λ x y l m. omega (arith, ints, where_true-add (nat_lt (x + 1) w) (F (right_edge x y)) (G (right_edge x y)), where_true-add (nat_lt (y + 1) h) (F (down_edge x y)) (G (down_edge x y))))
    ∙ sum_grid-add w h (λ x y. where_true (nat_lt (x + 1) w) (F (right_edge x y)) +ℤ where_true (nat_lt (y + 1) h) (F (down_edge x y))) (λ x y. where_true (nat_lt (x + 1) w) (G (right_edge x y)) +ℤ where_true (nat_lt (y + 1) h) (G (down_edge x y)))

pub sum_edges-less : (w h : ℕ) (F G : Edge → ℤ) → sum_edges w h (λ e. F e -ℤ G e) ≡ sum_edges w h F -ℤ sum_edges w h G
sum_edges-less w h F G =
    less _ _ _ (sym (sum_edges-add w h (λ e. F e -ℤ G e) G) ∙ sum_edges-same w h (λ e. (F e -ℤ G e) +ℤ G e) F (λ e i. back (F e) (G e)))
  where
    back : (a b : ℤ) → (a -ℤ b) +ℤ b ≡ a
    back a b = omega (arith, ints)

    less : (a b c : ℤ) → a +ℤ b ≡ c → a ≡ c -ℤ b
    less a b c e = omega (arith, ints, e)

pub sum_edges-zeros : (w h : ℕ) → sum_edges w h (λ e. pos 0) ≡ pos 0
sum_edges-zeros w h =
    sum_below-zeros h (λ y. sum_below w (λ x. where_true (nat_lt (x + 1) w) (pos 0) +ℤ where_true (nat_lt (y + 1) h) (pos 0))) (λ y m. sum_below-zeros w (λ x. where_true (nat_lt (x + 1) w) (pos 0) +ℤ where_true (nat_lt (y + 1) h) (pos 0)) (λ x l. omega (arith, ints, where_true-zero (nat_lt (x + 1) w), where_true-zero (nat_lt (y + 1) h))))

-- a sum over the edges of sums is a sum of sums over the edges
pub sum_edges-below : (w h n : ℕ) (G : ℕ → Edge → ℤ) → sum_edges w h (λ e. sum_below n (λ v. G v e)) ≡ sum_below n (λ v. sum_edges w h (G v))
unfolding sum_below
sum_edges-below w h zero G = sum_edges-zeros w h
sum_edges-below w h (suc n) G =
    sum_edges-add w h (λ e. sum_below n (λ v. G v e)) (G n) ∙ ap (λ (z : ℤ). z +ℤ sum_edges w h (G n)) (sum_edges-below w h n G)

pub sum_edges-scale : (w h : ℕ) (c : ℤ) (F : Edge → ℤ) → sum_edges w h (λ e. c *ℤ F e) ≡ c *ℤ sum_edges w h F
sum_edges-scale w h c F =
    sum_below-same h (λ y. sum_below w (λ x. where_true (nat_lt (x + 1) w) (c *ℤ F (right_edge x y)) +ℤ where_true (nat_lt (y + 1) h) (c *ℤ F (down_edge x y)))) (λ y. c *ℤ sum_below w (λ x. where_true (nat_lt (x + 1) w) (F (right_edge x y)) +ℤ where_true (nat_lt (y + 1) h) (F (down_edge x y))))
    (λ y m. sum_below-same w (λ x. where_true (nat_lt (x + 1) w) (c *ℤ F (right_edge x y)) +ℤ where_true (nat_lt (y + 1) h) (c *ℤ F (down_edge x y))) (λ x. c *ℤ (where_true (nat_lt (x + 1) w) (F (right_edge x y)) +ℤ where_true (nat_lt (y + 1) h) (F (down_edge x y))))
    (λ x l. omega (arith, ints, where_true-scale (nat_lt (x + 1) w) c (F (right_edge x y)), where_true-scale (nat_lt (y + 1) h) c (F (down_edge x y)), mul-add c (where_true (nat_lt (x + 1) w) (F (right_edge x y))) (where_true (nat_lt (y + 1) h) (F (down_edge x y)))))
    ∙ sum_below-scale w c (λ x. where_true (nat_lt (x + 1) w) (F (right_edge x y)) +ℤ where_true (nat_lt (y + 1) h) (F (down_edge x y))))
    ∙ sum_below-scale h c (λ y. sum_below w (λ x. where_true (nat_lt (x + 1) w) (F (right_edge x y)) +ℤ where_true (nat_lt (y + 1) h) (F (down_edge x y))))
