-- Sums of flows at regions and of their products with departures, as double loops add them up.
use Rattle.std.proofs.Common.{◌≡◌, ℕ, ◌+◌, ◌*◌, ◌^◌, ◌<◌, ◌≤◌, to_z, of_z, w64, FitsSigned, sym, ◌∙◌, ap, refl, arith, Bool, true, false, List, length, get_or, set, replicate, inl, inr}
use Rattle.std.specs.Prelude.{ℤ, pos, ◌+ℤ◌, ◌-ℤ◌, ◌*ℤ◌, ◌&&◌, ◌==◌, nat_lt, unsigned_abs}
use Rattle.std.proofs.lemmas.Int.{ints, fits_signed_from_abs}
use Rattle.std.proofs.lemmas.Bool.Decides.{nat_tests, eqb_tells}
use Rattle.std.proofs.lemmas.List.{length-set, get_or-set_same, get_or-set_other, get_or-replicate, get_or_past, length-replicate}
use Rattle.raster_model.specs.declared.edge.Edge.{Edge}
use Rattle.raster_model.specs.Sums.{Field, is_edge, right_edge, down_edge, edges_from, sum_edges, sum_grid, sum_row, at_edge_start, at_edge_end}
use Rattle.raster_model.specs.Raster.{Raster, departure, has_open_ends, is_seam, lifted}
use Rattle.raster_model.specs.Seams.{flow_in, flow_out, flow_over, flow_over_total, flow_total}
use Rattle.raster_model.proofs.SumLemmas.{sum_edges-add, sum_edges-less, sum_edges-same}
use Rattle.certificates.specs.declared.seam_flows.SeamFlows.{SeamFlows}
use Rattle.certificates.specs.FlowWords.{held_raster, held_mask, flow_of, region_in, net_flow, moved_on, moved_from, seam_part, part_on, parts_from, bound_of}
use Rattle.certificates.specs.Growth.{AreWithinWeights, HasGrown}
use Rattle.std.proofs.lemmas.Bool.{cases_lt}
use Rattle.sums_and_lists.proofs.Tests.{same_number}
use Rattle.sums_and_lists.specs.Sums.{where_true}
use Rattle.sums_and_lists.proofs.SumLemmas.{sum_below-none, sum_below-more, picked, no_number}

-- ---- one number that grows
pub set_grown : (xs : List ℤ) (place : ℕ) (a z : ℤ) → place < length xs → z ≡ get_or xs place (pos 0) +ℤ a → HasGrown xs (set xs place z) (λ v. where_true (place == v) a)
set_grown xs place a z l e = record {
  same_length = length-set xs place z;
  grown = λ v m. elim (eqb_tells place v) [
    | inl t ↦ rw (← t.1) (get_or-set_same xs place z (pos 0) l ∙ e ∙ ap (λ (n : ℤ). get_or xs place (pos 0) +ℤ n) (sym (picked (place == place) a (same_number place))))
    | inr t ↦ get_or-set_other xs place v z (pos 0) (λ p. t.1 (sym p)) ∙ none (get_or xs v (pos 0)) (where_true (place == v) a) (no_number (place == v) a t.0)
  ];
}
  where
    none : (x m : ℤ) → m ≡ pos 0 → x ≡ x +ℤ m
    none x m p = omega (arith, ints)

pub set_within : (xs : List ℤ) (place : ℕ) (a z : ℤ) → place < length xs → z ≡ get_or xs place (pos 0) +ℤ a → unsigned_abs a ≤ 1048560 → (n : ℕ) → AreWithinWeights n xs → AreWithinWeights (n + 1) (set xs place z)
set_within xs place a z l e small n h v = elim (eqb_tells place v) [
  | inl t ↦ rw (← t.1, get_or-set_same xs place z (pos 0) l, e) (grows (get_or xs place (pos 0)) a n (h place) small)
  | inr t ↦ rw (get_or-set_other xs place v z (pos 0) (λ p. t.1 (sym p))) (stays (get_or xs v (pos 0)) n (h v))
]
  where
    grows : (x a : ℤ) (n : ℕ) → unsigned_abs x ≤ 1048560 * n → unsigned_abs a ≤ 1048560 → unsigned_abs (x +ℤ a) ≤ 1048560 * (n + 1)
    grows x a n k l = omega (arith, ints)

    stays : (x : ℤ) (n : ℕ) → unsigned_abs x ≤ 1048560 * n → unsigned_abs x ≤ 1048560 * (n + 1)
    stays x n k = omega (arith, k)

-- the code's sum, at 64 bits
pub number_fits : (x a : ℤ) → unsigned_abs x ≤ 1048560 * 2 ^ 31 → unsigned_abs a ≤ 1048560 → (to_z w64 (of_z w64 (to_z w64 (of_z w64 x) +ℤ to_z w64 (of_z w64 a))) ≡ x +ℤ a) × FitsSigned w64 (to_z w64 (of_z w64 x) +ℤ to_z w64 (of_z w64 a))
number_fits x a k l =
    let p : to_z w64 (of_z w64 x) ≡ x = omega (arith, ints, k) in
    let q : to_z w64 (of_z w64 a) ≡ a = omega (arith, ints, l) in
    rw (p, q) (back (x +ℤ a) (sum x a k l), fits_signed_from_abs w64 (x +ℤ a) (sum x a k l))
  where
    sum : (x a : ℤ) → unsigned_abs x ≤ 1048560 * 2 ^ 31 → unsigned_abs a ≤ 1048560 → unsigned_abs (x +ℤ a) < 2 ^ 63
    sum x a k l = omega (arith, ints)

    back : (z : ℤ) → unsigned_abs z < 2 ^ 63 → to_z w64 (of_z w64 z) ≡ z
    back z l = omega (arith, ints)

-- ---- both edges that start at a pixel
right_test : (w h x y : ℕ) → x < w → y < h → is_edge w h (right_edge x y) ≡ nat_lt (x + 1) w
right_test w h x y l m = grind (arith, nat_tests)

down_test : (w h x y : ℕ) → x < w → y < h → is_edge w h (down_edge x y) ≡ nat_lt (y + 1) h
down_test w h x y l m = grind (arith, nat_tests)

pub both_terms : (w h x y : ℕ) (G : Edge → ℤ) → x < w → y < h → where_true (is_edge w h (right_edge x y)) (G (right_edge x y)) +ℤ where_true (is_edge w h (down_edge x y)) (G (down_edge x y)) ≡ edges_from w h G x y
both_terms w h x y G l m = rw (right_test w h x y l m, down_test w h x y l m) refl

pub moved_both : (k : SeamFlows) (labels : List ℕ) (x y : ℕ) → x < k.scene.now.phase.width → y < k.scene.now.phase.height → (a b c : List ℤ) → HasGrown a b (λ v. moved_on k labels v (right_edge x y)) → HasGrown b c (λ v. moved_on k labels v (down_edge x y)) → HasGrown a c (λ v. moved_from k labels v x y)
moved_both k labels x y l m a b c g h = record {
  same_length = h.same_length ∙ g.same_length;
  grown = λ v n. (
      let t = both_terms k.scene.now.phase.width k.scene.now.phase.height x y (net_flow (held_raster k) (flow_of k) (region_in k labels v)) l m in
      added _ _ _ _ _ _ (g.grown v n) (h.grown v (omega (arith, g.same_length))) t);
}
  where
    added : (a b c t u m : ℤ) → b ≡ a +ℤ t → c ≡ b +ℤ u → t +ℤ u ≡ m → c ≡ a +ℤ m
    added a b c t u m p q r = omega (arith, ints)

pub parts_both : (k : SeamFlows) (cycles : Field ℤ) (x y : ℕ) → x < k.scene.now.phase.width → y < k.scene.now.phase.height → (p q : ℤ) → p ≡ part_on k cycles (right_edge x y) → q ≡ part_on k cycles (down_edge x y) → p +ℤ q ≡ parts_from k cycles x y
parts_both k cycles x y l m p q e f =
    rw (e, f) (both_terms k.scene.now.phase.width k.scene.now.phase.height x y (seam_part (held_raster k) (held_mask k) (lifted (held_raster k) cycles) (flow_of k)) l m)

pub bound_is : (k : SeamFlows) (cycles : Field ℤ) → sum_grid k.scene.now.phase.width k.scene.now.phase.height (parts_from k cycles) ≡ bound_of k cycles
unfolding flow_total flow_over_total seam_part
bound_is k cycles =
    let r = held_raster k in
    sum_edges-less r.width r.height (λ e. where_true (is_seam r e && has_open_ends (held_mask k) e) (flow_of k e *ℤ departure r (lifted r cycles) e)) (flow_over r (held_mask k) (flow_of k))

-- ---- what all the edges add to a region
net_is : (s t u : Bool) (z : ℤ) → where_true s (where_true t z -ℤ where_true u z) +ℤ where_true (s && u) z ≡ where_true (s && t) z
net_is true true true z = omega (arith, ints)
net_is true true false z = omega (arith, ints)
net_is true false true z = omega (arith, ints)
net_is true false false z = omega (arith, ints)
net_is false t u z = omega (arith, ints)

net_total : (r : Raster) (F : Edge → ℤ) (R : Field Bool) → sum_edges r.width r.height (net_flow r F R) ≡ flow_in r F R -ℤ flow_out r F R
unfolding net_flow
net_total r F R =
    let a = sum_edges-add r.width r.height (λ e. where_true (is_seam r e) (where_true (at_edge_end R e) (F e) -ℤ where_true (at_edge_start R e) (F e))) (λ e. where_true (is_seam r e && at_edge_start R e) (F e)) in
    let b = sum_edges-same r.width r.height (λ e. where_true (is_seam r e) (where_true (at_edge_end R e) (F e) -ℤ where_true (at_edge_start R e) (F e)) +ℤ where_true (is_seam r e && at_edge_start R e) (F e)) (λ e. where_true (is_seam r e && at_edge_end R e) (F e)) (λ e i. net_is (is_seam r e) (at_edge_end R e) (at_edge_start R e) (F e)) in
    less _ _ _ (sym a ∙ b)
  where
    less : (x y z : ℤ) → x +ℤ y ≡ z → x ≡ z -ℤ y
    less x y z e = omega (arith, ints)

-- what the edges that start before a pixel have added to each region
pub record AreSoFar (k : SeamFlows) (labels : List ℕ) (x y : ℕ) (sums : List ℤ) : Type 0 where
  pub each : (v : ℕ) → v < length sums → get_or sums v (pos 0) ≡ sum_grid k.scene.now.phase.width y (moved_from k labels v) +ℤ sum_row x (moved_from k labels v) y

module _ (k : SeamFlows) (labels : List ℕ) where
  pub so_far_none : (sums : List ℤ) → ((v : ℕ) → get_or sums v (pos 0) ≡ pos 0) → AreSoFar k labels 0 0 sums
  so_far_none sums z = record {
    each = λ v l. (
        let f : Field ℤ = moved_from k labels v in
        none (get_or sums v (pos 0)) (sum_grid k.scene.now.phase.width 0 f) (sum_row 0 f 0) (z v) (sum_below-none (sum_row k.scene.now.phase.width f)) (sum_below-none (λ i. f i 0)));
  }
    where
      none : (a g s : ℤ) → a ≡ pos 0 → g ≡ pos 0 → s ≡ pos 0 → a ≡ g +ℤ s
      none a g s p q e = omega (arith, ints)

  pub so_far_more : (x y : ℕ) (old new : List ℤ) → AreSoFar k labels x y old → HasGrown old new (λ v. moved_from k labels v x y) → AreSoFar k labels (x + 1) y new
  so_far_more x y old new s g = record {
    each = λ v l. (
        let f : Field ℤ = moved_from k labels v in
        let w = k.scene.now.phase.width in
        more (get_or old v (pos 0)) (get_or new v (pos 0)) (f x y) (sum_grid w y f) (sum_row x f y) (sum_row (x + 1) f y) (s.each v (omega (arith, g.same_length))) (g.grown v (omega (arith, g.same_length))) (sum_below-more x (λ i. f i y)));
  }
    where
      more : (a b t g s u : ℤ) → a ≡ g +ℤ s → b ≡ a +ℤ t → u ≡ s +ℤ t → b ≡ g +ℤ u
      more a b t g s u p q e = omega (arith, ints)

  pub so_far_row : (x y : ℕ) (sums : List ℤ) → x ≡ k.scene.now.phase.width → AreSoFar k labels x y sums → AreSoFar k labels 0 (y + 1) sums
  so_far_row x y sums e s = record {
    each = λ v l. (
        let f : Field ℤ = moved_from k labels v in
        let w = k.scene.now.phase.width in
        let t = rw e at (s.each v l) in
        row (get_or sums v (pos 0)) (sum_grid w y f) (sum_row w f y) (sum_grid w (y + 1) f) (sum_row 0 f (y + 1)) t (sum_below-more y (sum_row w f)) (sum_below-none (λ i. f i (y + 1))));
  }
    where
      row : (a g s h n : ℤ) → a ≡ g +ℤ s → h ≡ g +ℤ s → n ≡ pos 0 → a ≡ h +ℤ n
      row a g s h n p q e = omega (arith, ints)

  pub so_far_all : (y : ℕ) (sums : List ℤ) → y ≡ k.scene.now.phase.height → AreSoFar k labels 0 y sums → (v : ℕ) → v < length sums → get_or sums v (pos 0) ≡ flow_in (held_raster k) (flow_of k) (region_in k labels v) -ℤ flow_out (held_raster k) (flow_of k) (region_in k labels v)
  so_far_all y sums e s v l =
      let f : Field ℤ = moved_from k labels v in
      let t = rw e at (s.each v l) in
      last _ _ _ t (sum_below-none (λ i. f i k.scene.now.phase.height)) ∙ net_total (held_raster k) (flow_of k) (region_in k labels v)
    where
      last : (a g n : ℤ) → a ≡ g +ℤ n → n ≡ pos 0 → a ≡ g
      last a g n p e = omega (arith, ints)

pub zeros : (xs : List ℤ) (n : ℕ) → xs ≡ replicate n (pos 0) → (v : ℕ) → get_or xs v (pos 0) ≡ pos 0
zeros xs n e v = elim (cases_lt v n) [ inl l ↦ rw e (get_or-replicate n v (pos 0) (pos 0) l) | inr l ↦ rw e (get_or_past (replicate n (pos 0)) v (pos 0) (rw length-replicate l)) ]
