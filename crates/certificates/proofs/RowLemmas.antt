-- What the rows of a tile add up to, row by row and strip by strip.
use Rattle.std.proofs.Common.{◌≡◌, ◌∙◌, ℕ, ◌+◌, ◌*◌, ◌/◌, ◌%◌, ◌^◌, ◌<◌, ◌≤◌, ℤ, List, Bool, true, false, arith, refl, sym, subst, inl, inr, to_z, of_z}
use Rattle.std.specs.Int.{w128}
use Rattle.std.specs.Prelude.{pos, ◌+ℤ◌, ◌-ℤ◌, IsTrue, nat_lt, unsigned_abs, min}
use Rattle.std.proofs.lemmas.Bool.{and_from, cases_lt}
use Rattle.std.proofs.lemmas.Bool.Decides.{nat_tests}
use Rattle.std.proofs.lemmas.Grind.{div_ceil_times}
use Rattle.std.proofs.lemmas.Int.{ints}
use Rattle.std.proofs.Math.Nat.{mul-le-mul_right}
use Rattle.raster_model.specs.declared.edge.Edge.{Edge}
use Rattle.raster_model.specs.Cells.{face_at}
use Rattle.raster_model.specs.Certificates.{face_difference, face_over, face_over_from, face_over_total, face_total, faces_of_tile}
use Rattle.raster_model.specs.Raster.{cost_from, is_inner, masked_weight, over, tile_cost}
use Rattle.raster_model.specs.Sums.{Field, down_edge, is_edge, right_edge, sum_row}
use Rattle.certificates.specs.declared.row_sums.Sums.{Sums}
use Rattle.certificates.specs.declared.tile.Tile.{Tile}
use Rattle.certificates.specs.EdgeWords.{HoldsFrom}
use Rattle.certificates.specs.RowWords.{AreSums, FitUpTo}
use Rattle.certificates.specs.TileWords.{AreCertified, FitAt, FitIn, HasFaces, IsInner, bound_in, cost_at, cost_in, held_mask, held_raster, over_at, product_at}
use Rattle.certificates.proofs.CostLemmas.{is_lower, is_right}
use Rattle.certificates.proofs.FaceLemmas.{product_outside}
use Rattle.certificates.proofs.TileParts.{in_window}
use Rattle.sums_and_lists.proofs.Orders.{below_or_last}
use Rattle.sums_and_lists.proofs.SumLemmas.{sum_below-more, sum_below-none, sum_below-upto, sum_below-zeros}
use Rattle.sums_and_lists.specs.Sums.{sum_below, where_true}

-- ---- one row
module _ (k : Tile) (faces : List ℤ) where
  pub none_fit : (y : ℕ) → FitUpTo k faces k.window.x0 y
  none_fit y e i ey l = let w = in_window k e i in absurd (omega (arith, w, l))

  pub one_more_fits : (x y : ℕ) → FitUpTo k faces x y → HoldsFrom (IsInner k) (FitAt k faces) x y → FitUpTo k faces (x + 1) y
  one_more_fits x y before here e i ey l =
      elim (below_or_last e.x x l) [ inl m ↦ before e i ey m | inr m ↦ here e i m ey ]

  pub row_fits : (x y : ℕ) → x ≡ k.window.x1 + 1 → FitUpTo k faces x y → FitIn k faces y
  row_fits x y last before e i ey = let w = in_window k e i in before e i ey (omega (arith, w, last))

  -- the products are 0 where the tile has no cell
  pub products_start : (y : ℕ) → y < k.window.y1 → pos 0 ≡ sum_row k.window.x0 (product_at k faces) y
  products_start y l =
      sym (sum_below-zeros k.window.x0 (λ x. product_at k faces x y) (λ x m. product_outside k (face_at (held_raster k) k.number faces) x y (omega (arith, m, k.pixels.across)) (omega (arith, l, k.pixels.along)) (λ i. omega (arith, i, m))))

  pub products_end : (y : ℕ) → y < k.window.y1 → sum_row k.sheet.phase.now.width (product_at k faces) y ≡ sum_row k.window.x1 (product_at k faces) y
  products_end y l =
      sum_below-upto k.window.x1 k.sheet.phase.now.width (λ x. product_at k faces x y) (omega (arith, k.pixels.across)) (λ x m n. product_outside k (face_at (held_raster k) k.number faces) x y n (omega (arith, l, k.pixels.along)) (λ i. omega (arith, i, m)))

  pub no_products : (y : ℕ) → y ≡ k.window.y1 → pos 0 ≡ sum_row k.sheet.phase.now.width (product_at k faces) y
  no_products y e =
      sym (sum_below-zeros k.sheet.phase.now.width (λ x. product_at k faces x y) (λ x m. product_outside k (face_at (held_raster k) k.number faces) x y m (omega (arith, e, k.pixels.along)) (λ i. omega (arith, i, e))))

pub one_more_product : (f : Field ℤ) (x y : ℕ) (z t : ℤ) → z ≡ sum_row x f y → t ≡ f x y → z +ℤ t ≡ sum_row (x + 1) f y
one_more_product f x y z t p q = omega (arith, ints, p, q, sum_below-more x (λ i. f i y))

-- ---- at the steepness 1 no edge of faces that fit is above its weight
nothing_over : (t : Bool) (g : ℕ) (d : ℤ) → (t ≡ true → unsigned_abs d ≤ g) → where_true t (pos (over g d)) ≡ pos 0
nothing_over true g d h = let e : over g d ≡ 0 = omega (arith, h refl) in rw e refl
nothing_over false g d h = refl

from_plain : (q g n : ℕ) → q ≡ 1 → n ≤ q * g → n ≤ g
from_plain q g n e l = let m = rw e at l in omega (arith, m)

both_none : (a b : Bool) (p q : ℤ) → (a ≡ true → p ≡ pos 0) → (b ≡ true → q ≡ pos 0) → where_true a p +ℤ where_true b q ≡ pos 0
both_none true true p q h i = rw (h refl, i refl) refl
both_none true false p q h i = rw (h refl) refl
both_none false true p q h i = rw (i refl) refl
both_none false false p q h i = refl

lt_from : (a b : ℕ) → IsTrue (nat_lt a b) → a < b
lt_from a b t = grind (arith, nat_tests)

module _ (k : Tile) (faces : List ℤ) (y : ℕ) (plain : k.sheet.terms.steep ≡ 1) (fit : FitIn k faces y) where
  edge_none : (e : Edge) → e.y ≡ y → IsTrue (is_edge k.sheet.phase.now.width k.sheet.phase.now.height e) → face_over (held_raster k) (held_mask k) k.number (face_at (held_raster k) k.number faces) e ≡ pos 0
  edge_none e ey is =
      nothing_over (is_inner (held_raster k) k.number e) (masked_weight (held_raster k) (held_mask k) e) (face_difference (faces_of_tile (held_raster k) k.number (face_at (held_raster k) k.number faces)) e)
      (λ n. from_plain (held_raster k).steep (masked_weight (held_raster k) (held_mask k) e) _ plain (fit e (and_from (is_edge k.sheet.phase.now.width k.sheet.phase.now.height e) (is_inner (held_raster k) k.number e) is n) ey))

  pixel_none : (x : ℕ) → x < k.sheet.phase.now.width → y < k.sheet.phase.now.height → over_at k faces x y ≡ pos 0
  unfolding face_over_from
  pixel_none x l m =
      let w = k.sheet.phase.now.width in
      let h = k.sheet.phase.now.height in
      both_none (nat_lt (x + 1) w) (nat_lt (y + 1) h) _ _ (λ t. edge_none (right_edge x y) refl (is_right w h x y (lt_from (x + 1) w t) m)) (λ t. edge_none (down_edge x y) refl (is_lower w h x y l (lt_from (y + 1) h t)))

  pub no_row_over : y < k.sheet.phase.now.height → pos 0 ≡ sum_row k.sheet.phase.now.width (over_at k faces) y
  no_row_over m = sym (sum_below-zeros k.sheet.phase.now.width (λ x. over_at k faces x y) (λ x l. pixel_none x l m))

-- ---- sums of rows, and of those that follow them
bound_adds : (y : ℕ) (f g : ℕ → ℤ) (b : ℤ) → b ≡ f y -ℤ g y → (sum_below y f -ℤ sum_below y g) +ℤ b ≡ sum_below (y + 1) f -ℤ sum_below (y + 1) g
bound_adds y f g b e = omega (arith, ints, e, sum_below-more y f, sum_below-more y g)

cost_adds : (y : ℕ) (f : ℕ → ℤ) (n : ℕ) → pos n ≡ f y → sum_below y f +ℤ pos n ≡ sum_below (y + 1) f
cost_adds y f n e = omega (arith, ints, e, sum_below-more y f)

plus_none : (x : ℤ) → x +ℤ pos 0 ≡ x
plus_none x = omega (arith, ints)

chain : (x y z s t u : ℤ) → x +ℤ s ≡ y → y +ℤ t ≡ z → u ≡ s +ℤ t → x +ℤ u ≡ z
chain x y z s t u p q e = omega (arith, ints, p, q, e)

chain_costs : (x y z : ℤ) (s t u : ℕ) → x +ℤ pos s ≡ y → y +ℤ pos t ≡ z → u ≡ s + t → x +ℤ pos u ≡ z
chain_costs x y z s t u p q e = omega (arith, ints, p, q, e)

few_both : (a b c : ℕ) (s t u : ℤ) → unsigned_abs s + 2 ^ 80 * a ≤ 2 ^ 80 * b → unsigned_abs t + 2 ^ 80 * b ≤ 2 ^ 80 * c → u ≡ s +ℤ t → unsigned_abs u + 2 ^ 80 * a ≤ 2 ^ 80 * c
few_both a b c s t u p q e = omega (arith, ints, p, q, e)

all_bound : (h : ℕ) (f g : ℕ → ℤ) (b : ℤ) → (sum_below 0 f -ℤ sum_below 0 g) +ℤ b ≡ sum_below h f -ℤ sum_below h g → b ≡ sum_below h f -ℤ sum_below h g
all_bound h f g b e = omega (arith, ints, e, sum_below-none f, sum_below-none g)

all_cost : (h : ℕ) (f : ℕ → ℤ) (n : ℕ) → sum_below 0 f +ℤ pos n ≡ sum_below h f → pos n ≡ sum_below h f
all_cost h f n e = omega (arith, ints, e, sum_below-none f)

module _ (k : Tile) (cycles : Field ℤ) (faces : List ℤ) where
  pub no_sums : (a : ℕ) → AreSums k cycles faces a a (record { bound = pos 0; cost = 0 })
  no_sums a = record {
    fits = λ e i l m. absurd (omega (arith, l, m));
    adds_bound = plus_none _;
    adds_cost = plus_none _;
    few_bound = omega arith;
    few_cost = omega arith;
  }

  row_adds : (y : ℕ) (s : Sums) → FitIn k faces y → s.bound ≡ sum_row k.sheet.phase.now.width (product_at k faces) y -ℤ sum_row k.sheet.phase.now.width (over_at k faces) y → unsigned_abs s.bound ≤ 2 ^ 80 → pos s.cost ≡ sum_row k.sheet.phase.now.width (cost_at k cycles) y → s.cost ≤ 2 ^ 90 → AreSums k cycles faces y (y + 1) s
  row_adds y s fit b few c cheap = record {
    fits = λ e i l m. fit e i (omega (arith, l, m));
    adds_bound = bound_adds y (sum_row k.sheet.phase.now.width (product_at k faces)) (sum_row k.sheet.phase.now.width (over_at k faces)) s.bound b;
    adds_cost = cost_adds y (sum_row k.sheet.phase.now.width (cost_at k cycles)) s.cost c;
    few_bound = omega (arith, few);
    few_cost = omega (arith, cheap);
  }

  -- as code holds the bound
  pub row_held : (y : ℕ) (b : ℤ) (n : ℕ) → FitIn k faces y → b ≡ sum_row k.sheet.phase.now.width (product_at k faces) y -ℤ sum_row k.sheet.phase.now.width (over_at k faces) y → unsigned_abs b ≤ 2 ^ 80 → pos n ≡ sum_row k.sheet.phase.now.width (cost_at k cycles) y → n ≤ 2 ^ 90 → AreSums k cycles faces y (y + 1) (record { bound = to_z w128 (of_z w128 b); cost = n })
  row_held y b n fit e few c cheap =
      let back : to_z w128 (of_z w128 b) ≡ b = omega (arith, ints, few) in
      row_adds y (record { bound = to_z w128 (of_z w128 b); cost = n }) fit (back ∙ e) (rw back few) c cheap

  pub sums_joined : (a b c : ℕ) (s t u : Sums) → AreSums k cycles faces a b s → AreSums k cycles faces b c t → u.bound ≡ s.bound +ℤ t.bound → u.cost ≡ s.cost + t.cost → AreSums k cycles faces a c u
  sums_joined a b c s t u p q e f = record {
    fits = λ d i l m. elim (cases_lt d.y b) [ inl n ↦ p.fits d i l n | inr n ↦ q.fits d i n m ];
    adds_bound = chain _ _ _ s.bound t.bound u.bound p.adds_bound q.adds_bound e;
    adds_cost = chain_costs _ _ _ s.cost t.cost u.cost p.adds_cost q.adds_cost f;
    few_bound = few_both a b c s.bound t.bound u.bound p.few_bound q.few_bound e;
    few_cost = omega (arith, p.few_cost, q.few_cost, f);
  }

  pub sums_few : (a b : ℕ) (s : Sums) → AreSums k cycles faces a b s → b ≤ 65535 → (unsigned_abs s.bound ≤ 2 ^ 100) × (s.cost ≤ 2 ^ 120)
  sums_few a b s p l = (omega (arith, p.few_bound, l), omega (arith, p.few_cost, l))

  -- ---- all rows
  all_bounds : (s : Sums) → AreSums k cycles faces 0 k.sheet.phase.now.height s → s.bound ≡ bound_in k faces
  unfolding face_total face_over_total face_over_from
  all_bounds s p = all_bound k.sheet.phase.now.height (sum_row k.sheet.phase.now.width (product_at k faces)) (sum_row k.sheet.phase.now.width (over_at k faces)) s.bound p.adds_bound

  all_costs : (s : Sums) → AreSums k cycles faces 0 k.sheet.phase.now.height s → pos s.cost ≡ cost_in k cycles
  unfolding tile_cost cost_from
  all_costs s p = all_cost k.sheet.phase.now.height (sum_row k.sheet.phase.now.width (cost_at k cycles)) s.cost p.adds_cost

  pub sums_certify : (s : Sums) → HasFaces k faces → AreSums k cycles faces 0 k.sheet.phase.now.height s → to_z w128 (of_z w128 s.bound) ≡ pos s.cost → AreCertified k cycles faces × (pos s.cost ≡ cost_in k cycles)
  sums_certify s count p same =
      let few = (sums_few 0 k.sheet.phase.now.height s p (omega (arith, k.sheet.phase.now.high))).0 in
      let c = all_costs s p in
      ((count, record { fits = λ e i. p.fits e i (omega arith) (omega (arith, in_window k e i, k.pixels.along)); equal = sym (all_bounds s p) ∙ sym (back s.bound few) ∙ same ∙ c }), c)
    where
      back : (z : ℤ) → unsigned_abs z ≤ 2 ^ 100 → to_z w128 (of_z w128 z) ≡ z
      back z l = omega (arith, ints)

-- ---- strips of so many rows begin before the end of the raster, and all of them have all of its rows
pub strip_begins : (h rows place : ℕ) → 0 < rows → place < h / rows + min 1 (h % rows) → place * rows < h
strip_begins h rows place some below =
    let next : place + 1 ≤ h / rows + min 1 (h % rows) = omega (arith, below) in
    omega (arith, (div_ceil_times h rows some).1, mul-le-mul_right rows next)

pub strips_end : (h rows place : ℕ) → 0 < rows → h / rows + min 1 (h % rows) ≤ place → min (place * rows) h ≡ h
strips_end h rows place some past = omega (arith, (div_ceil_times h rows some).0, mul-le-mul_right rows past)

-- the sums of the strips so far and of one more
module _ (k : Tile) (cycles : Field ℤ) (faces : List ℤ) (rows place : ℕ) (s t : Sums) (begins : place * rows < k.sheet.phase.now.height) (p : AreSums k cycles faces 0 (min (place * rows) k.sheet.phase.now.height) s) (q : AreSums k cycles faces (place * rows) (min ((place + 1) * rows) k.sheet.phase.now.height) t) where
  before : AreSums k cycles faces 0 (place * rows) s
  before = let same : min (place * rows) k.sheet.phase.now.height ≡ place * rows = omega (arith, begins) in subst (λ (n : ℕ). AreSums k cycles faces 0 n s) same p

  pub strips_few : record { bounds : (unsigned_abs s.bound ≤ 2 ^ 100) × (unsigned_abs t.bound ≤ 2 ^ 100); costs : (s.cost ≤ 2 ^ 120) × (t.cost ≤ 2 ^ 120) }
  strips_few =
      let a = sums_few k cycles faces 0 (place * rows) s before (omega (arith, begins, k.sheet.phase.now.high)) in
      let b = sums_few k cycles faces (place * rows) (min ((place + 1) * rows) k.sheet.phase.now.height) t q (omega (arith, k.sheet.phase.now.high)) in
      record { bounds = (a.0, b.0); costs = (a.1, b.1) }

  pub strips_joined : (u : Sums) → u.bound ≡ s.bound +ℤ t.bound → u.cost ≡ s.cost + t.cost → AreSums k cycles faces 0 (min ((place + 1) * rows) k.sheet.phase.now.height) u
  strips_joined u = sums_joined k cycles faces 0 (place * rows) (min ((place + 1) * rows) k.sheet.phase.now.height) s t u before q
