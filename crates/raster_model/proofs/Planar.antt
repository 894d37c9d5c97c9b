-- A sum over the cells is a sum over the edges.
use Rattle.std.proofs.Common.{◌≡◌, ℕ, zero, suc, ◌+◌, ◌≤◌, sym, ◌∙◌, ap₂, refl, arith, Bool, true, false}
use Rattle.std.specs.Prelude.{ℤ, pos, ◌+ℤ◌, ◌-ℤ◌, ◌*ℤ◌, neg_ℤ, nat_lt}
use Rattle.std.proofs.lemmas.Int.{ints}
use Rattle.raster_model.specs.declared.edge.Edge.{Edge}
use Rattle.raster_model.specs.Sums.{Field, sum_grid, sum_edges, right_edge, down_edge}
use Rattle.raster_model.specs.Certificates.{before, above, left, face_difference}
use Rattle.raster_model.proofs.SumLemmas.{sum_grid-same, sum_grid-add, sum_grid-swap}
use Rattle.sums_and_lists.proofs.Orders.{not_lt}
use Rattle.sums_and_lists.specs.Sums.{sum_below, where_true}
use Rattle.sums_and_lists.proofs.Products.{products, four}
use Rattle.sums_and_lists.proofs.SumLemmas.{sum_below-same}

-- a sum by parts
pub by_parts : (n : ℕ) (f k : ℕ → ℤ) → sum_below n (λ i. f i *ℤ (k (i + 1) -ℤ k i)) ≡ sum_below n (λ i. k i *ℤ (before f i -ℤ f i)) +ℤ k n *ℤ before f n
unfolding sum_below
by_parts zero f k = omega (arith, ints)
by_parts (suc n) f k =
    let e : n + 1 ≡ suc n = omega arith in
    rw (← e) (omega (arith, ints, by_parts n f k, part (f n) (before f n) (k n) (k (n + 1))))
  where
    part : (a b c d : ℤ) → a *ℤ (d -ℤ c) +ℤ c *ℤ b ≡ c *ℤ (b -ℤ a) +ℤ d *ℤ a
    part a b c d = simp products (omega (arith, ints))

-- nothing stands at the last place
before_end : (n : ℕ) (f : ℕ → ℤ) → ((i : ℕ) → n ≤ i + 1 → f i ≡ pos 0) → before f n ≡ pos 0
before_end zero f z = refl
before_end (suc n) f z = z n (omega arith)

-- by parts, where nothing stands at the last place
along : (n : ℕ) (f k : ℕ → ℤ) → ((i : ℕ) → n ≤ i + 1 → f i ≡ pos 0) → sum_below n (λ i. f i *ℤ (k (i + 1) -ℤ k i)) ≡ sum_below n (λ i. k i *ℤ (before f i -ℤ f i))
along n f k z =
    let e : k n *ℤ before f n ≡ pos 0 = rw (before_end n f z) (omega (arith, ints)) in
    omega (arith, ints, by_parts n f k, e)

-- a number that is 0 where the test fails
pub where_true_kept : (t : Bool) (z : ℤ) → (t ≡ false → z ≡ pos 0) → where_true t z ≡ z
where_true_kept true z h = refl
where_true_kept false z h = sym (h refl)

times_zero : (k a b : ℤ) → a ≡ pos 0 → b ≡ pos 0 → k *ℤ (a -ℤ b) ≡ pos 0
times_zero k a b p q = rw (p, q) (omega (arith, ints))

-- the sum over the cells of a face times what goes round the cell, as a sum over the edges of what goes along times the
-- difference of the faces on its sides
module _ (w h : ℕ) (f : Field ℤ) (K : Edge → ℤ) (no_column : (x y : ℕ) → w ≤ x + 1 → f x y ≡ pos 0) (no_row : (x y : ℕ) → h ≤ y + 1 → f x y ≡ pos 0) where
  rights : sum_grid w h (λ x y. f x y *ℤ (K (right_edge x (y + 1)) -ℤ K (right_edge x y))) ≡ sum_grid w h (λ x y. K (right_edge x y) *ℤ (above f x y -ℤ f x y))
  rights =
      sum_grid-swap w h (λ x y. f x y *ℤ (K (right_edge x (y + 1)) -ℤ K (right_edge x y)))
      ∙ sum_below-same w (λ x. sum_below h (λ y. f x y *ℤ (K (right_edge x (y + 1)) -ℤ K (right_edge x y)))) (λ x. sum_below h (λ y. K (right_edge x y) *ℤ (above f x y -ℤ f x y))) (λ x l. along h (f x) (λ y. K (right_edge x y)) (λ y m. no_row x y m))
      ∙ sym (sum_grid-swap w h (λ x y. K (right_edge x y) *ℤ (above f x y -ℤ f x y)))

  downs : sum_grid w h (λ x y. f x y *ℤ (K (down_edge x y) -ℤ K (down_edge (x + 1) y))) ≡ sum_grid w h (λ x y. K (down_edge x y) *ℤ (f x y -ℤ left f x y))
  downs =
      sum_grid-same w h (λ x y. f x y *ℤ (K (down_edge x y) -ℤ K (down_edge (x + 1) y))) (λ x y. f x y *ℤ (neg_ℤ (K (down_edge (x + 1) y)) -ℤ neg_ℤ (K (down_edge x y)))) (λ x y l m. turn_round (f x y) (K (down_edge x y)) (K (down_edge (x + 1) y)))
      ∙ sum_below-same h (λ y. sum_below w (λ x. f x y *ℤ (neg_ℤ (K (down_edge (x + 1) y)) -ℤ neg_ℤ (K (down_edge x y))))) (λ y. sum_below w (λ x. neg_ℤ (K (down_edge x y)) *ℤ (left f x y -ℤ f x y))) (λ y m. along w (λ x. f x y) (λ x. neg_ℤ (K (down_edge x y))) (λ x l. no_column x y l))
      ∙ sum_grid-same w h (λ x y. neg_ℤ (K (down_edge x y)) *ℤ (left f x y -ℤ f x y)) (λ x y. K (down_edge x y) *ℤ (f x y -ℤ left f x y)) (λ x y l m. turn_back (K (down_edge x y)) (f x y) (left f x y))
    where
      turn_round : (a b c : ℤ) → a *ℤ (b -ℤ c) ≡ a *ℤ (neg_ℤ c -ℤ neg_ℤ b)
      turn_round a b c = simp products (omega (arith, ints))

      turn_back : (a b c : ℤ) → neg_ℤ a *ℤ (c -ℤ b) ≡ a *ℤ (b -ℤ c)
      turn_back a b c = simp products (omega (arith, ints))

  -- an edge past the raster's side has no face beside it
  no_above : (x y : ℕ) → w ≤ x + 1 → above f x y ≡ pos 0
  no_above x zero l = refl
  no_above x (suc y) l = no_column x y l

  no_left : (x y : ℕ) → h ≤ y + 1 → left f x y ≡ pos 0
  no_left zero y l = refl
  no_left (suc x) y l = no_row x y l

  pub planar : sum_grid w h (λ x y. f x y *ℤ (K (right_edge x (y + 1)) +ℤ K (down_edge x y) -ℤ K (right_edge x y) -ℤ K (down_edge (x + 1) y))) ≡ sum_edges w h (λ e. K e *ℤ face_difference f e)
  planar =
      sum_grid-same w h (λ x y. f x y *ℤ (K (right_edge x (y + 1)) +ℤ K (down_edge x y) -ℤ K (right_edge x y) -ℤ K (down_edge (x + 1) y))) (λ x y. f x y *ℤ (K (right_edge x (y + 1)) -ℤ K (right_edge x y)) +ℤ f x y *ℤ (K (down_edge x y) -ℤ K (down_edge (x + 1) y))) (λ x y l m. four (f x y) (K (right_edge x (y + 1))) (K (down_edge x y)) (K (right_edge x y)) (K (down_edge (x + 1) y)))
      ∙ sum_grid-add w h (λ x y. f x y *ℤ (K (right_edge x (y + 1)) -ℤ K (right_edge x y))) (λ x y. f x y *ℤ (K (down_edge x y) -ℤ K (down_edge (x + 1) y)))
      ∙ ap₂ (λ (a b : ℤ). a +ℤ b) rights downs
      ∙ sym (sum_grid-add w h (λ x y. K (right_edge x y) *ℤ (above f x y -ℤ f x y)) (λ x y. K (down_edge x y) *ℤ (f x y -ℤ left f x y)))
      ∙ sum_grid-same w h (λ x y. K (right_edge x y) *ℤ (above f x y -ℤ f x y) +ℤ K (down_edge x y) *ℤ (f x y -ℤ left f x y)) (λ x y. where_true (nat_lt (x + 1) w) (K (right_edge x y) *ℤ (above f x y -ℤ f x y)) +ℤ where_true (nat_lt (y + 1) h) (K (down_edge x y) *ℤ (f x y -ℤ left f x y)))
      (λ x y l m. ap₂ (λ (a b : ℤ). a +ℤ b) (sym (where_true_kept (nat_lt (x + 1) w) (K (right_edge x y) *ℤ (above f x y -ℤ f x y)) (λ t. times_zero (K (right_edge x y)) (above f x y) (f x y) (no_above x y (not_lt (x + 1) w t)) (no_column x y (not_lt (x + 1) w t))))) (sym (where_true_kept (nat_lt (y + 1) h) (K (down_edge x y) *ℤ (f x y -ℤ left f x y)) (λ t. times_zero (K (down_edge x y)) (f x y) (left f x y) (no_row x y (not_lt (y + 1) h t)) (no_left x y (not_lt (y + 1) h t))))))
