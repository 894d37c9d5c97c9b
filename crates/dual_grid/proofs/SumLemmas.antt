-- Sums over arcs as sums over edges, and sums of which one term is not 0.
use Rattle.std.proofs.Common.{◌≡◌, ℕ, zero, suc, ◌+◌, ◌*◌, ◌<◌, ◌∙◌, sym, ap, refl, arith, Bool, true, false}
use Rattle.std.specs.Prelude.{ℤ, pos, ◌+ℤ◌, ◌==◌, ◌&&◌}
use Rattle.std.proofs.lemmas.Int.{ints}
use Rattle.raster_model.specs.Sums.{Field, sum_grid}
use Rattle.raster_model.proofs.SumLemmas.{sum_grid-same}
use Rattle.sums_and_lists.proofs.SumLemmas.{where_both, sum_below-none, sum_below-more, sum_below-same, sum_below-zeros, sum_below-pick}
use Rattle.sums_and_lists.specs.Sums.{sum_below, where_true}

-- a sum in two parts
pub sum_below-parts : (m n : ℕ) (f : ℕ → ℤ) → sum_below (m + n) f ≡ sum_below m f +ℤ sum_below n (λ i. f (m + i))
sum_below-parts m zero f = let e : m + 0 ≡ m = omega arith in rw e (omega (arith, ints, sum_below-none (λ i. f (m + i))))
sum_below-parts m (suc n) f =
    let e : m + suc n ≡ m + n + 1 = omega arith in
    let k : suc n ≡ n + 1 = omega arith in
    rw (e, k) (omega (arith, ints, sum_below-parts m n f, sum_below-more (m + n) f, sum_below-more n (λ i. f (m + i))))

-- a sum by rows
pub sum_below-rows : (w h : ℕ) (f : ℕ → ℤ) → sum_below (h * w) f ≡ sum_grid w h (λ x y. f (y * w + x))
sum_below-rows w zero f = let e : zero * w ≡ 0 = omega arith in rw e (sum_below-none f ∙ sym (sum_below-none (λ y. sum_below w (λ x. f (y * w + x)))))
sum_below-rows w (suc h) f =
    let e : suc h * w ≡ h * w + w = omega arith in
    let k : suc h ≡ h + 1 = omega arith in
    rw e (rw k (sum_below-parts (h * w) w f ∙ ap (λ (z : ℤ). z +ℤ sum_below w (λ i. f (h * w + i))) (sum_below-rows w h f) ∙ sym (sum_below-more h (λ y. sum_below w (λ x. f (y * w + x))))))

-- eight at a time
pub sum_below-eights : (n : ℕ) (f : ℕ → ℤ) → sum_below (n * 8) f ≡ sum_below n (λ k. f (k * 8) +ℤ f (k * 8 + 1) +ℤ f (k * 8 + 2) +ℤ f (k * 8 + 3) +ℤ f (k * 8 + 4) +ℤ f (k * 8 + 5) +ℤ f (k * 8 + 6) +ℤ f (k * 8 + 7))
sum_below-eights n f =
    sum_below-rows 8 n f
    ∙ sum_below-same n (λ y. sum_below 8 (λ x. f (y * 8 + x))) (λ k. f (k * 8) +ℤ f (k * 8 + 1) +ℤ f (k * 8 + 2) +ℤ f (k * 8 + 3) +ℤ f (k * 8 + 4) +ℤ f (k * 8 + 5) +ℤ f (k * 8 + 6) +ℤ f (k * 8 + 7)) (λ k l. one_row k)
  where
    one_row : (k : ℕ) → sum_below 8 (λ x. f (k * 8 + x)) ≡ f (k * 8) +ℤ f (k * 8 + 1) +ℤ f (k * 8 + 2) +ℤ f (k * 8 + 3) +ℤ f (k * 8 + 4) +ℤ f (k * 8 + 5) +ℤ f (k * 8 + 6) +ℤ f (k * 8 + 7)
    one_row k =
        let zero_more : k * 8 + 0 ≡ k * 8 = omega arith in
        omega (arith, ints, sum_below-more 7 (λ x. f (k * 8 + x)), sum_below-more 6 (λ x. f (k * 8 + x)), sum_below-more 5 (λ x. f (k * 8 + x)), sum_below-more 4 (λ x. f (k * 8 + x)), sum_below-more 3 (λ x. f (k * 8 + x)), sum_below-more 2 (λ x. f (k * 8 + x)), sum_below-more 1 (λ x. f (k * 8 + x)), sum_below-more 0 (λ x. f (k * 8 + x)), sum_below-none (λ x. f (k * 8 + x)), ap f zero_more)

sum_where : (n : ℕ) (t : Bool) (f : ℕ → ℤ) → sum_below n (λ i. where_true t (f i)) ≡ where_true t (sum_below n f)
sum_where n true f = refl
sum_where n false f = sum_below-zeros n (λ i. pos 0) (λ i l. refl)

-- the one term of a grid that a test picks
pub sum_grid-pick : (w h a b : ℕ) (t : Field Bool) (g : Field ℤ) → a < w → b < h → ((x y : ℕ) → x < w → y < h → t x y ≡ ((b == y) && (a == x))) → sum_grid w h (λ x y. where_true (t x y) (g x y)) ≡ g a b
sum_grid-pick w h a b t g l m is =
    sum_grid-same w h (λ x y. where_true (t x y) (g x y)) (λ x y. where_true (b == y) (where_true (a == x) (g x y)))
    (λ x y p q. ap (λ (u : Bool). where_true u (g x y)) (is x y p q) ∙ where_both (b == y) (a == x) (g x y))
    ∙ sum_below-same h (λ y. sum_below w (λ x. where_true (b == y) (where_true (a == x) (g x y)))) (λ y. where_true (b == y) (g a y))
    (λ y q. sum_where w (b == y) (λ x. where_true (a == x) (g x y)) ∙ ap (λ (z : ℤ). where_true (b == y) z) (sum_below-pick w a (λ x. g x y) l))
    ∙ sum_below-pick h b (λ y. g a y) m
