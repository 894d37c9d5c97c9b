-- Pieces of a row: what their edges add up to, and edges that add nothing, since the surface does not depart there.
use Rattle.std.proofs.Common.{◌≡◌, ◌∙◌, ℕ, ◌+◌, ◌-◌, ◌*◌, ◌/◌, ◌%◌, ◌<◌, ◌≤◌, sym, ap, ap₂, refl, arith, Bool, true, false, inl, inr, of_z, w64, FitsSigned}
use Rattle.std.specs.Prelude.{ℤ, pos, ◌+ℤ◌, ◌==◌, ◌||◌, not, nat_lt, IsTrue}
use Rattle.std.proofs.lemmas.Bool.{cases_lt}
use Rattle.std.proofs.lemmas.Bool.Decides.{nat_tests}
use Rattle.std.proofs.lemmas.Int.{ints}
use Rattle.std.proofs.lemmas.Nat.{div-add-mod', mod-mul-add, mod_below}
use Rattle.raster_model.specs.declared.edge.Edge.{Edge}
use Rattle.raster_model.specs.MaskView.{MaskView}
use Rattle.raster_model.specs.Masks.{open_at}
use Rattle.raster_model.specs.Raster.{Raster, departure, edge_cost, has_open_ends, is_seam, masked_weight, seam_cost_from, seam_edge_cost, steps}
use Rattle.raster_model.specs.Sums.{Field, right_edge, down_edge, sum_row}
use Rattle.raster_model.proofs.Steps.{no_steps}
use Rattle.certificates.proofs.SeamLemmas.{is_zero}
use Rattle.surface_snapshots.specs.Loops.{AddUpTo, AreOpenFrom, FollowsDown, FollowsRight, KnowsFrom, KnowsOpenRows, inner_cost_from, inner_edge_cost}
use Rattle.sums_and_lists.specs.Sums.{where_true}
use Rattle.sums_and_lists.proofs.Orders.{below_or_last, lt_is, not_lt_is}
use Rattle.sums_and_lists.proofs.SumLemmas.{no_number, picked, sum_below-more, sum_below-upto, where_true-zero}

-- ---- open pixels of a piece
-- they are known, and so are those of each of its pixels' edges
pub knows_from : (r : Raster) (m : MaskView) (knows : Field Bool) (y a b : ℕ) → m.width ≡ r.width → m.height ≡ r.height → KnowsOpenRows r (open_at m) knows y (y + 1) → AreOpenFrom m y a b → KnowsFrom r knows y a b
knows_from r m knows y a b w h known clear x z l k i j p q = known x z l k p q (clear x z (omega (arith, w, l)) (omega (arith, h, k)) i j p q)

pub open_within : (m : MaskView) (y a b x : ℕ) → a ≤ x → x < b → AreOpenFrom m y a b → AreOpenFrom m y x (x + 1)
open_within m y a b x l k clear c z p q i j s t = clear c z p q (omega (arith, l, i)) (omega (arith, k, j)) s t

-- ---- the columns that are left of a tile
pub left_from : (x side : ℕ) → 0 < side → (x + (side - x % side)) % side ≡ 0
left_from x side p =
    let s = div-add-mod' x side in
    let b = mod_below x side p in
    let e : x + (side - x % side) ≡ (x / side + 1) * side + 0 = omega (arith, s, b) in
    ap (λ (n : ℕ). n % side) e ∙ mod-mul-add (x / side + 1) side 0 p

-- ---- edges without departures add nothing
pub zero_too : (t : Bool) (z : ℤ) → z ≡ pos 0 → where_true t z ≡ pos 0
zero_too t z e = rw e (where_true-zero t)

pub no_product : (t : Bool) (w q : ℕ) (d : ℤ) → d ≡ pos 0 → where_true t (pos (w * steps q d)) ≡ pos 0
no_product t w q d e =
    let z : w * 0 ≡ 0 = omega arith in
    rw (no_steps q d e) (ap (λ (n : ℕ). where_true t (pos n)) z ∙ where_true-zero t)

pub none_before : (a b : ℕ) (z : ℤ) → (a < b → z ≡ pos 0) → where_true (nat_lt a b) z ≡ pos 0
none_before a b z f =
    elim (cases_lt a b) [ inl l ↦ picked (nat_lt a b) z (lt_is a b l) ∙ f l | inr l ↦ no_number (nat_lt a b) z (not_lt_is a b l) ]

module _ (r : Raster) (mask : Field Bool) (S : Field ℤ) (y a b : ℕ) (right : FollowsRight r S y a b) (down : y + 1 < r.height → FollowsDown r S y a b) where
  free_edge : (t : Bool) (e : Edge) → departure r S e ≡ pos 0 → where_true t (edge_cost r mask S e) ≡ pos 0
  free_edge t e d = zero_too t (edge_cost r mask S e) (no_product (has_open_ends mask e) (masked_weight r mask e) r.steep (departure r S e) d)

  pub no_inner : (x : ℕ) → a ≤ x → x < b → inner_cost_from r mask S x y ≡ pos 0
  unfolding inner_cost_from inner_edge_cost
  no_inner x l m =
      ap₂ (λ (c d : ℤ). c +ℤ d)
      (none_before (x + 1) r.width (inner_edge_cost r mask S (right_edge x y)) (λ n. free_edge (not (is_seam r (right_edge x y))) (right_edge x y) (right x l m n)))
      (none_before (y + 1) r.height (inner_edge_cost r mask S (down_edge x y)) (λ n. free_edge (not (is_seam r (down_edge x y))) (down_edge x y) (down n x l m)))

  pub no_seam : (x : ℕ) → a ≤ x → x < b → seam_cost_from r mask S x y ≡ pos 0
  unfolding seam_cost_from
  no_seam x l m =
      ap₂ (λ (c d : ℤ). c +ℤ d)
      (none_before (x + 1) r.width (seam_edge_cost r mask S (right_edge x y)) (λ n. free_edge (is_seam r (right_edge x y)) (right_edge x y) (right x l m n)))
      (none_before (y + 1) r.height (seam_edge_cost r mask S (down_edge x y)) (λ n. free_edge (is_seam r (down_edge x y)) (down_edge x y) (down n x l m)))

  pub free_tiles : a ≤ b → AddUpTo (inner_cost_from r mask S) y a b (pos 0)
  free_tiles l = none_more (sum_row a (inner_cost_from r mask S) y) (sum_below-upto a b (λ x. inner_cost_from r mask S x y) l no_inner)
    where
      none_more : (z : ℤ) → sum_row b (inner_cost_from r mask S) y ≡ z → sum_row b (inner_cost_from r mask S) y ≡ z +ℤ pos 0
      none_more z e = omega (arith, ints, e)

  pub free_seams : a ≤ b → AddUpTo (seam_cost_from r mask S) y a b (pos 0)
  free_seams l = none_more (sum_row a (seam_cost_from r mask S) y) (sum_below-upto a b (λ x. seam_cost_from r mask S x y) l no_seam)
    where
      none_more : (z : ℤ) → sum_row b (seam_cost_from r mask S) y ≡ z → sum_row b (seam_cost_from r mask S) y ≡ z +ℤ pos 0
      none_more z e = omega (arith, ints, e)

-- ---- sums over pieces: none, a pixel more, and a piece more
pub none_yet : (f : Field ℤ) (y a : ℕ) → AddUpTo f y a a (pos 0)
none_yet f y a = omega (arith, ints)

pub pixel_more : (f : Field ℤ) (y a x m n : ℕ) → AddUpTo f y a x (pos m) → pos n ≡ f x y → AddUpTo f y a (x + 1) (pos (m + n))
pixel_more f y a x m n p q = omega (arith, ints, p, q, sum_below-more x (λ c. f c y))

pub piece_more : (f : Field ℤ) (y a b m n : ℕ) → pos m ≡ sum_row a f y → AddUpTo f y a b (pos n) → pos (m + n) ≡ sum_row b f y
piece_more f y a b m n p q = omega (arith, ints, p, q)

-- ---- one pixel: the departure at an edge is none
pub is_nothing : (z : ℤ) → FitsSigned w64 z → IsTrue (of_z w64 z == 0) → z ≡ pos 0
is_nothing z fits t = is_zero z fits (grind (arith, nat_tests))

module _ (r : Raster) (S : Field ℤ) (x y : ℕ) where
  pub right_there : departure r S (right_edge x y) ≡ pos 0 → FollowsRight r S y x (x + 1)
  right_there none n l m w = let e : n ≡ x = omega (arith, l, m) in rw e none

  pub down_there : departure r S (down_edge x y) ≡ pos 0 → FollowsDown r S y x (x + 1)
  down_there none n l m = let e : n ≡ x = omega (arith, l, m) in rw e none

-- ---- a departure more that is looked at
pub neither : (a b : Bool) → (a || b) ≡ false → (a ≡ false) × (b ≡ false)
neither true b e = absurd cc
neither false b e = (refl, e)

pub is_false : (b : Bool) → IsTrue (not b) → b ≡ false
is_false true e = absurd cc
is_false false e = refl

tells_zero : (n : ℕ) → not (n == 0) ≡ false → n ≡ 0
tells_zero n e = grind (arith, nat_tests)

module _ (r : Raster) (S : Field ℤ) (y a n : ℕ) (departs : Bool) (z : ℤ) (fits : FitsSigned w64 z) (all : (departs || not (of_z w64 z == 0)) ≡ false) where
  stays : departs ≡ false
  stays = (neither departs (not (of_z w64 z == 0)) all).0

  is_none : z ≡ pos 0
  is_none = is_zero z fits (tells_zero (of_z w64 z) (neither departs (not (of_z w64 z == 0)) all).1)

  pub right_more : z ≡ departure r S (right_edge n y) → (departs ≡ false → FollowsRight r S y a n) → FollowsRight r S y a (n + 1)
  right_more is before x l m w = elim (below_or_last x n m) [ inl b ↦ before stays x l b w | inr b ↦ rw b (sym is ∙ is_none) ]

  pub down_more : z ≡ departure r S (down_edge n y) → (departs ≡ false → FollowsDown r S y a n) → FollowsDown r S y a (n + 1)
  down_more is before x l m = elim (below_or_last x n m) [ inl b ↦ before stays x l b | inr b ↦ rw b (sym is ∙ is_none) ]
