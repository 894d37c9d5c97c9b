-- Sums over the seam edges are sums over their places.
use Rattle.std.proofs.Common.{◌≡◌, ℕ, zero, suc, ◌+◌, ◌<◌, ◌≤◌, ◌∙◌, ap, sym, refl, arith, Bool, true, false}
use Rattle.std.specs.Prelude.{ℤ, ◌+ℤ◌, ◌&&◌, nat_lt, IsTrue}
use Rattle.std.proofs.lemmas.Int.{ints}
use Rattle.raster_model.specs.declared.edge.Edge.{Edge}
use Rattle.raster_model.specs.Sums.{Field, down_edge, edges_from, right_edge, sum_edges, sum_grid, sum_row}
use Rattle.raster_model.specs.Raster.{Raster, is_seam}
use Rattle.raster_model.specs.Flows.{is_seam_edge, seam_count, seam_place, seams_before}
use Rattle.raster_model.proofs.FlowLemmas.{before-next, before-none, before-row, place-down, place-right}
use Rattle.sums_and_lists.specs.Sums.{one_if, sum_below, where_true}
use Rattle.sums_and_lists.proofs.Orders.{lt_is}
use Rattle.sums_and_lists.proofs.SumLemmas.{sum_below-more, sum_below-none}

-- the term of an edge that starts at a pixel of the raster
right_picked : (i j c s : Bool) (p q : ℤ) → i ≡ true → j ≡ true → ((((i && j) && (c && j)) && s) ≡ true → p ≡ q) → where_true (((i && j) && (c && j)) && s) p ≡ where_true c (where_true s q)
right_picked true true true true p q ei ej h = h refl
right_picked true true true false p q ei ej h = refl
right_picked true true false s p q ei ej h = refl
right_picked true false c s p q ei ej h = cc
right_picked false j c s p q ei ej h = cc

down_picked : (i j c s : Bool) (p q : ℤ) → i ≡ true → j ≡ true → ((((i && j) && (i && c)) && s) ≡ true → p ≡ q) → where_true (((i && j) && (i && c)) && s) p ≡ where_true c (where_true s q)
down_picked true true true true p q ei ej h = h refl
down_picked true true true false p q ei ej h = refl
down_picked true true false s p q ei ej h = refl
down_picked true false c s p q ei ej h = cc
down_picked false j c s p q ei ej h = cc

-- one term more, if any
sum_if : (n : ℕ) (t : Bool) (H : ℕ → ℤ) → sum_below (n + one_if t) H ≡ sum_below n H +ℤ where_true t (H n)
sum_if n true H = sum_below-more n H
sum_if n false H = let e : n + 0 ≡ n = omega arith in rw e (omega (arith, ints))

module _ (r : Raster) (G : Edge → ℤ) (H : ℕ → ℤ) (same : (e : Edge) → IsTrue (is_seam_edge r e) → H (seam_place r e) ≡ G e) where
  abbrev term : Edge → ℤ
  term e = where_true (is_seam r e) (G e)

  abbrev terms : Field ℤ
  terms = edges_from r.width r.height term

  one_pixel : (x y : ℕ) → x < r.width → y < r.height → sum_below (seams_before r (x + 1) y) H ≡ sum_below (seams_before r x y) H +ℤ terms x y
  one_pixel x y l m =
      let b = seams_before r x y in
      let right = is_seam_edge r (right_edge x y) in
      let down = is_seam_edge r (down_edge x y) in
      let next : seams_before r (x + 1) y ≡ b + one_if right + one_if down = omega (arith, before-next r x y) in
      let first = right_picked (nat_lt x r.width) (nat_lt y r.height) (nat_lt (x + 1) r.width) (is_seam r (right_edge x y)) (H b) (G (right_edge x y)) (lt_is x r.width l) (lt_is y r.height m) (λ t. ap H (sym (place-right r x y)) ∙ same (right_edge x y) t) in
      let second = down_picked (nat_lt x r.width) (nat_lt y r.height) (nat_lt (y + 1) r.height) (is_seam r (down_edge x y)) (H (b + one_if right)) (G (down_edge x y)) (lt_is x r.width l) (lt_is y r.height m) (λ t. ap H (sym (place-down r x y)) ∙ same (down_edge x y) t) in
      rw next (omega (arith, ints, sum_if (b + one_if right) down H, sum_if b right H, first, second))

  one_row : (x y : ℕ) → x ≤ r.width → y < r.height → sum_below (seams_before r x y) H ≡ sum_below (seams_before r 0 y) H +ℤ sum_row x terms y
  one_row zero y l m = omega (arith, ints, sum_below-none (λ x. terms x y))
  one_row (suc x) y l m =
      let e : suc x ≡ x + 1 = omega arith in
      rw e (omega (arith, ints, one_pixel x y (omega arith) m, one_row x y (omega arith) m, sum_below-more x (λ i. terms i y)))

  all_rows : (y : ℕ) → y ≤ r.height → sum_below (seams_before r 0 y) H ≡ sum_grid r.width y terms
  all_rows zero m = let e : seams_before r 0 0 ≡ 0 = sym (before-none r) in rw e (sum_below-none H ∙ sym (sum_below-none (sum_row r.width terms)))
  all_rows (suc y) m =
      let e : suc y ≡ y + 1 = omega arith in
      let last = before-row r y in
      rw (e, last) (omega (arith, ints, one_row r.width y (omega arith) (omega arith), all_rows y (omega arith), sum_below-more y (sum_row r.width terms)))

  pub sum_at_places : sum_edges r.width r.height term ≡ sum_below (seam_count r) H
  unfolding seam_count
  sum_at_places = sym (all_rows r.height (omega arith))
