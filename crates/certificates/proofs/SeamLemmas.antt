-- Seam edges, the places of their flows, and what a flow other than 0 tells of its edge.
use Rattle.std.proofs.Common.{◌≡◌, ◌∙◌, ℕ, ◌+◌, ◌-◌, ◌*◌, ◌<◌, ◌≤◌, ◌^◌, sym, ap, ap₂, refl, arith, Bool, true, false, List, length, get_or, to_z, of_z, w64, Fits, FitsSigned}
use Rattle.std.specs.Prelude.{ℤ, pos, neg_ℤ, ◌+ℤ◌, ◌-ℤ◌, ◌*ℤ◌, ◌&&◌, ◌==◌, nat_lt, IsTrue, MatchBool, unsigned_abs, if◌then◌else◌}
use Rattle.std.specs.Int.{w128}
use Rattle.std.proofs.lemmas.Int.{ints, unsigned_abs-mul, to_z-of_z, fits_signed_from_abs}
use Rattle.std.proofs.lemmas.Nat.{mul-add-lt, mul-le}
use Rattle.std.proofs.lemmas.Bool.Decides.{nat_tests}
use Rattle.raster_model.specs.declared.edge.Edge.{Edge}
use Rattle.raster_model.specs.declared.scene.Scene.{Scene}
use Rattle.raster_model.specs.Sums.{Field, is_edge, end_x, end_y, at_edge_start, at_edge_end}
use Rattle.raster_model.specs.Heights.{KnowsOpen, KnowsEnds}
use Rattle.raster_model.specs.Raster.{Raster, is_seam, has_open_ends, masked_weight, departure, lifted, over}
use Rattle.raster_model.specs.Flows.{is_seam_edge, flow_at}
use Rattle.raster_model.specs.Seams.{IsOpenPixel}
use Rattle.raster_model.proofs.FlowLemmas.{place_below}
use Rattle.certificates.specs.declared.seam_flows.SeamFlows.{SeamFlows}
use Rattle.certificates.specs.EdgeWords.{HoldsIfPart, IsBreak}
use Rattle.certificates.specs.SeamVerdicts.{label_at}
use Rattle.certificates.specs.FlowWords.{held_raster, held_mask, flow_of, flow_or_none, PlacedAt, IsSeamOf, IsSmallAt, FlowFitsAt, FlowsFit, HasLabels, net_flow, moved_on, seam_part, part_on}
use Rattle.certificates.specs.Growth.{AreWithinWeights, HasGrown}
use Rattle.sums_and_lists.proofs.Orders.{ends_in, not_lt}
use Rattle.sums_and_lists.specs.Sums.{where_true, one_if}

-- ---- the place of a flow
pub place_is_below : (k : SeamFlows) (e : Edge) (place : ℕ) → PlacedAt k e place → is_seam_edge (held_raster k) e ≡ true → place < length k.flows.now
place_is_below k e place p s =
    let one : one_if (is_seam_edge (held_raster k) e) ≡ 1 = rw s refl in
    omega (arith, p, k.count, place_below (held_raster k) e p.0 p.1, one)

pub flow_there : (k : SeamFlows) (e : Edge) (place : ℕ) → PlacedAt k e place → is_seam_edge (held_raster k) e ≡ true → get_or k.flows.now place (pos 0) ≡ flow_or_none k e
unfolding flow_at
flow_there k e place p s = rw (s, p.2) refl

-- ---- what a flow other than 0 tells
chosen : (t : Bool) (f z : ℤ) → z ≡ where_true t f → (z ≡ pos 0 → ⊥) → (t ≡ true) × (z ≡ f)
chosen true f z e n = (refl, e)
chosen false f z e n = absurd (n e)

open_if : (b : Bool) (w q : ℕ) (z : ℤ) → unsigned_abs z ≤ q * (if b then w else 0) → (z ≡ pos 0 → ⊥) → b ≡ true
open_if true w q z l n = refl
open_if false w q z l n = absurd (n (omega (arith, ints, l)))

both_hold : (a b : Bool) → (a && b) ≡ true → (a ≡ true) × (b ≡ true)
both_hold true true e = (refl, refl)
both_hold true false e = cc
both_hold false b e = cc

pub in_raster : (k : SeamFlows) (e : Edge) → IsSeamOf k e → (0 ≤ e.x) × (e.x < k.scene.now.phase.width) × (0 ≤ e.y) × (e.y < k.scene.now.phase.height)
in_raster k e i =
    let w = k.scene.now.phase.width in
    let h = k.scene.now.phase.height in
    let t = ends_in e.x e.y w h (end_x e) (end_y e) (both_hold (is_edge w h e) (is_seam (held_raster k) e) i).0 in
    (omega arith, t.0, omega arith, t.1)

pub edge_of_seam : (k : SeamFlows) (e : Edge) → is_seam_edge (held_raster k) e ≡ true → is_edge k.scene.now.phase.width k.scene.now.phase.height e ≡ true
edge_of_seam k e s = (both_hold (is_edge k.scene.now.phase.width k.scene.now.phase.height e) (is_seam (held_raster k) e) s).0

-- what a test of a flow against its weight says
module _ (k : SeamFlows) (e : Edge) (z : ℤ) (u w : ℕ) (is : z ≡ flow_or_none k e) (a : u ≡ unsigned_abs z) (b : w ≡ (held_raster k).steep * masked_weight (held_raster k) (held_mask k) e) (s : is_seam_edge (held_raster k) e ≡ true) where
  size_there : u ≡ unsigned_abs (flow_of k e)
  size_there =
      let here : flow_or_none k e ≡ flow_of k e = rw s refl in
      rw (← here, ← is) a

  pub heavy_cases : MatchBool (nat_lt w u) (IsBreak (IsSeamOf k) (FlowFitsAt k) e) (HoldsIfPart (IsSeamOf k) (FlowFitsAt k) e)
  heavy_cases = go (nat_lt w u) refl
    where
      breaks : (w u : ℕ) → nat_lt w u ≡ true → u ≤ w → ⊥
      breaks w u t l = grind (arith, nat_tests)

      go : (t : Bool) → nat_lt w u ≡ t → MatchBool t (IsBreak (IsSeamOf k) (FlowFitsAt k) e) (HoldsIfPart (IsSeamOf k) (FlowFitsAt k) e)
      go true t = (s, λ f. breaks w u t (rw (size_there, b) f))
      go false t = λ i. rw (← size_there, ← b) (not_lt w u t)

  pub small_there : w ≤ 1048560 → nat_lt w u ≡ false → HoldsIfPart (IsSeamOf k) (IsSmallAt k) e
  small_there l t i = rw (← size_there) (low w u l t)
    where
      low : (w u : ℕ) → w ≤ 1048560 → nat_lt w u ≡ false → u ≤ 1048560
      low w u l t = grind (arith, nat_tests)

-- no seam edge is heavy where there is none
pub no_seam : (P : Type 0) (t : Bool) → t ≡ false → t ≡ true → P
no_seam P t e f = cc

pub ends_known : (r : Raster) (mask knows : Field Bool) (e : Edge) → KnowsOpen r mask knows → (is_edge r.width r.height e && is_seam r e) ≡ true → IsTrue (is_edge r.width r.height e) × KnowsEnds mask knows e
ends_known r mask knows e known s =
    let i = (both_hold (is_edge r.width r.height e) (is_seam r e) s).0 in
    let t = ends_in e.x e.y r.width r.height (end_x e) (end_y e) i in (
      i,
      λ o. (let b = both_hold (at_edge_start mask e) (at_edge_end mask e) o in (known e.x e.y t.0 t.1 b.0, known (end_x e) (end_y e) t.2 t.3 b.1)),
    )

pub not_zero : (z : ℤ) → (of_z w64 z ≡ 0 → ⊥) → z ≡ pos 0 → ⊥
not_zero z n e = n (ap (of_z w64) e)

pub is_zero : (z : ℤ) → FitsSigned w64 z → of_z w64 z ≡ 0 → z ≡ pos 0
is_zero z f e = sym (to_z-of_z w64 z f) ∙ ap (to_z w64) e

module _ (k : SeamFlows) (e : Edge) (fit : FlowsFit k) (z : ℤ) (is : z ≡ flow_or_none k e) (n : z ≡ pos 0 → ⊥) where
  pub seam : is_seam_edge (held_raster k) e ≡ true
  seam = (chosen (is_seam_edge (held_raster k) e) (flow_of k e) z is n).0

  pub is_flow : z ≡ flow_of k e
  is_flow = (chosen (is_seam_edge (held_raster k) e) (flow_of k e) z is n).1

  pub is_small : unsigned_abs z ≤ 1048560
  is_small = rw is_flow (fit.1 e seam)

  pub on_edge : is_edge k.scene.now.phase.width k.scene.now.phase.height e ≡ true
  on_edge = (both_hold (is_edge k.scene.now.phase.width k.scene.now.phase.height e) (is_seam (held_raster k) e) seam).0

  on_seam : is_seam (held_raster k) e ≡ true
  on_seam = (both_hold (is_edge k.scene.now.phase.width k.scene.now.phase.height e) (is_seam (held_raster k) e) seam).1

  pub ends_open : has_open_ends (held_mask k) e ≡ true
  ends_open = open_if (has_open_ends (held_mask k) e) ((held_raster k).weight e) (held_raster k).steep (flow_of k e) (fit.0 e seam) (λ q. n (is_flow ∙ q))

  pub start_open : IsOpenPixel (held_raster k) (held_mask k) e.x e.y
  start_open =
      let t = ends_in e.x e.y k.scene.now.phase.width k.scene.now.phase.height (end_x e) (end_y e) on_edge in
      (t.0, t.1, (both_hold (at_edge_start (held_mask k) e) (at_edge_end (held_mask k) e) ends_open).0)

  pub end_open : IsOpenPixel (held_raster k) (held_mask k) (end_x e) (end_y e)
  end_open =
      let t = ends_in e.x e.y k.scene.now.phase.width k.scene.now.phase.height (end_x e) (end_y e) on_edge in
      (t.2, t.3, (both_hold (at_edge_start (held_mask k) e) (at_edge_end (held_mask k) e) ends_open).1)

-- ---- the label of an open pixel
module _ (k : SeamFlows) (labels : List ℕ) (count : ℕ) (has : HasLabels k labels count) where
  pub label_place : (x y a b : ℕ) → a ≡ x → b ≡ y → IsOpenPixel (held_raster k) (held_mask k) x y → b * k.scene.now.phase.width + a < length labels
  label_place x y a b p q o =
      omega (arith, has.0, mul-add-lt b k.scene.now.phase.width a k.scene.now.phase.height (omega (arith, q, o.1)) (omega (arith, p, o.0)))

  pub label_below : (x y a b : ℕ) → a ≡ x → b ≡ y → IsOpenPixel (held_raster k) (held_mask k) x y → label_at k.scene.now.phase.width labels a b < count
  label_below x y a b p q o = rw (p, q) (has.1 x y o)

  pub label_fits : (x y a b : ℕ) → a ≡ x → b ≡ y → IsOpenPixel (held_raster k) (held_mask k) x y → Fits w64 (b * k.scene.now.phase.width) × Fits w64 (b * k.scene.now.phase.width + a) × Fits w64 ((b * k.scene.now.phase.width + a) * 4)
  label_fits x y a b p q o =
      let s = k.scene.now in
      let m = mul-le b s.phase.width 4096 4096 (omega (arith, q, o.1, s.high)) (omega (arith, s.wide)) in
      let l : a ≤ 4096 = omega (arith, p, o.0, s.wide) in
      (record { fits = omega (arith, m) }, record { fits = omega (arith, m, l) }, record { fits = omega (arith, m, l) })

-- ---- a flow taken from one region to another
pub within_more : (m n : ℕ) (xs : List ℤ) → m ≤ n → AreWithinWeights m xs → AreWithinWeights n xs
within_more m n xs l h v = let k = h v in omega (arith, k, l)

pub few_moves : (s : Scene) (x y : ℕ) → x < s.phase.width → y < s.phase.height → 4 * (4096 * y + x) ≤ 536870912
few_moves s x y l m = omega (arith, s.wide, s.high)

pub amounts : (z : ℤ) → unsigned_abs z ≤ 1048560 → (to_z w64 (of_z w64 z) ≡ z) × (unsigned_abs (to_z w64 (of_z w64 z)) ≤ 1048560)
amounts z l = (omega (arith, ints), omega (arith, ints))

pub negated : (z : ℤ) → unsigned_abs z ≤ 1048560 → (to_z w64 (of_z w64 (pos 0 -ℤ to_z w64 (of_z w64 z))) ≡ neg_ℤ z) × (unsigned_abs (to_z w64 (of_z w64 (pos 0 -ℤ to_z w64 (of_z w64 z)))) ≤ 1048560) × FitsSigned w64 (pos 0 -ℤ to_z w64 (of_z w64 z))
negated z l = (omega (arith, ints), omega (arith, ints), fits_signed_from_abs w64 (pos 0 -ℤ to_z w64 (of_z w64 z)) (omega (arith, ints)))

moved_value : (ie is me ms te ts : Bool) (f z : ℤ) → ie ≡ true → is ≡ true → me ≡ true → ms ≡ true → z ≡ f → where_true ie (where_true is (where_true (me && te) f -ℤ where_true (ms && ts) f)) ≡ where_true te z +ℤ where_true ts (neg_ℤ z)
moved_value ie is me ms te ts f z a b c d e = rw (a, b, c, d, e) (both te ts f)
  where
    both : (t s : Bool) (f : ℤ) → where_true t f -ℤ where_true s f ≡ where_true t f +ℤ where_true s (neg_ℤ f)
    both true true f = omega (arith, ints)
    both true false f = omega (arith, ints)
    both false true f = omega (arith, ints)
    both false false f = omega (arith, ints)

pub moved_grown : (k : SeamFlows) (labels : List ℕ) (e : Edge) (fit : FlowsFit k) (z : ℤ) → z ≡ flow_or_none k e → (z ≡ pos 0 → ⊥) → (x y : ℕ) (p q : ℤ) → x ≡ end_x e → y ≡ end_y e → p ≡ z → q ≡ neg_ℤ z → (a b c : List ℤ)
    → HasGrown a b (λ v. where_true (label_at k.scene.now.phase.width labels x y == v) p) → HasGrown b c (λ v. where_true (label_at k.scene.now.phase.width labels e.x e.y == v) q) → HasGrown a c (λ v. moved_on k labels v e)
unfolding net_flow
moved_grown k labels e fit z is n x y p q ex ey ep eq a b c g h = record {
  same_length = h.same_length ∙ g.same_length;
  grown = λ v l. (
      let w = k.scene.now.phase.width in
      let s = rw (ex, ey, ep) at (g.grown v l) in
      let t = rw eq at (h.grown v (omega (arith, g.same_length))) in
      let m = moved_value (is_edge w k.scene.now.phase.height e) (is_seam (held_raster k) e) (at_edge_end (held_mask k) e) (at_edge_start (held_mask k) e) (label_at w labels (end_x e) (end_y e) == v) (label_at w labels e.x e.y == v) (flow_of k e) z
      (on_edge k e fit z is n) (on_seam k e fit z is n) (end_open k e fit z is n).2 (start_open k e fit z is n).2 (is_flow k e fit z is n) in
      added _ _ _ _ _ _ s t m);
}
  where
    added : (a b c t u m : ℤ) → b ≡ a +ℤ t → c ≡ b +ℤ u → m ≡ t +ℤ u → c ≡ a +ℤ m
    added a b c t u m p q r = omega (arith, ints)

nothing_moved : (ie is te ts : Bool) (f : ℤ) → where_true (ie && is) f ≡ pos 0 → where_true ie (where_true is (where_true te f -ℤ where_true ts f)) ≡ pos 0
nothing_moved true true true true f e = omega (arith, ints)
nothing_moved true true true false f e = rw e refl
nothing_moved true true false true f e = rw e refl
nothing_moved true true false false f e = refl
nothing_moved true false te ts f e = refl
nothing_moved false is te ts f e = refl

pub none_grown : (k : SeamFlows) (labels : List ℕ) (e : Edge) (z : ℤ) → z ≡ flow_or_none k e → z ≡ pos 0 → (a : List ℤ) → HasGrown a a (λ v. moved_on k labels v e)
unfolding net_flow
none_grown k labels e z is n a = record {
  same_length = refl;
  grown = λ v l. (
      let w = k.scene.now.phase.width in
      let m = nothing_moved (is_edge w k.scene.now.phase.height e) (is_seam (held_raster k) e) (held_mask k (end_x e) (end_y e) && (label_at w labels (end_x e) (end_y e) == v)) (held_mask k e.x e.y && (label_at w labels e.x e.y == v)) (flow_of k e) (sym is ∙ n) in
      omega (arith, ints, m));
}

-- ---- a flow times a departure, less that by which the flow is above the weight
part_value : (ie is oe : Bool) (f z d : ℤ) (w : ℕ) → ie ≡ true → is ≡ true → oe ≡ true → z ≡ f → z *ℤ d -ℤ pos (over w z) ≡ where_true ie (where_true (is && oe) (f *ℤ d) -ℤ where_true is (pos (over w f)))
part_value ie is oe f z d w a b c e = rw (a, b, c, e) refl

pub part_there : (k : SeamFlows) (cycles : Field ℤ) (e : Edge) (fit : FlowsFit k) (z d : ℤ) (n : ℕ) → z ≡ flow_or_none k e → (z ≡ pos 0 → ⊥) → d ≡ departure (held_raster k) (lifted (held_raster k) cycles) e → n ≡ over (masked_weight (held_raster k) (held_mask k) e) z → z *ℤ d -ℤ pos n ≡ part_on k cycles e
unfolding seam_part
part_there k cycles e fit z d a is n m o =
    ap₂ (λ (d : ℤ) (a : ℕ). z *ℤ d -ℤ pos a) m o
    ∙ part_value (is_edge k.scene.now.phase.width k.scene.now.phase.height e) (is_seam (held_raster k) e) (has_open_ends (held_mask k) e) (flow_of k e) z (departure (held_raster k) (lifted (held_raster k) cycles) e) (masked_weight (held_raster k) (held_mask k) e) (on_edge k e fit z is n) (on_seam k e fit z is n) (ends_open k e fit z is n) (is_flow k e fit z is n)

no_part_value : (ie is oe : Bool) (f d : ℤ) (w : ℕ) → where_true (ie && is) f ≡ pos 0 → pos 0 ≡ where_true ie (where_true (is && oe) (f *ℤ d) -ℤ where_true is (pos (over w f)))
no_part_value true true true f d w e = rw e (omega (arith, ints))
no_part_value true true false f d w e = rw e (omega (arith, ints))
no_part_value true false oe f d w e = refl
no_part_value false is oe f d w e = refl

pub no_part : (k : SeamFlows) (cycles : Field ℤ) (e : Edge) (z : ℤ) → z ≡ flow_or_none k e → z ≡ pos 0 → pos 0 ≡ part_on k cycles e
unfolding seam_part
no_part k cycles e z is n =
    no_part_value (is_edge k.scene.now.phase.width k.scene.now.phase.height e) (is_seam (held_raster k) e) (has_open_ends (held_mask k) e) (flow_of k e) (departure (held_raster k) (lifted (held_raster k) cycles) e) (masked_weight (held_raster k) (held_mask k) e) (sym is ∙ n)

-- a flow that fits, and that by which it is above the weight
pub limit_small : (q w d : ℕ) → q ≤ 16 → w ≤ 65535 → d ≤ q * w → d ≤ 1048560
limit_small q w d k l m = omega (arith, m, mul-le q w 16 65535 k l)

pub not_over : (q w d : ℕ) → q ≡ 1 → d ≤ q * w → 0 ≡ d - w
not_over q w d e l = let m = rw e at l in omega (arith, m)

-- the code's product and sums, at 128 bits
pub flow_product_fits : (a b : ℤ) → unsigned_abs a ≤ 1048560 → unsigned_abs b ≤ 2 ^ 49 + 1 → (to_z w128 (of_z w128 (to_z w128 (of_z w128 a) *ℤ to_z w128 (of_z w128 b))) ≡ a *ℤ b) × (unsigned_abs (a *ℤ b) ≤ 1048560 * (2 ^ 49 + 1)) × FitsSigned w128 (to_z w128 (of_z w128 a) *ℤ to_z w128 (of_z w128 b))
flow_product_fits a b k l =
    let p : to_z w128 (of_z w128 a) ≡ a = omega (arith, ints) in
    let q : to_z w128 (of_z w128 b) ≡ b = omega (arith, ints) in
    let m : unsigned_abs (a *ℤ b) ≤ 1048560 * (2 ^ 49 + 1) = rw unsigned_abs-mul (mul-le (unsigned_abs a) (unsigned_abs b) 1048560 (2 ^ 49 + 1) k l) in
    (rw (p, q) (back (a *ℤ b) m), m, rw (p, q) (fits (a *ℤ b) m))
  where
    back : (z : ℤ) → unsigned_abs z ≤ 1048560 * (2 ^ 49 + 1) → to_z w128 (of_z w128 z) ≡ z
    back z h = omega (arith, ints)

    fits : (z : ℤ) → unsigned_abs z ≤ 1048560 * (2 ^ 49 + 1) → FitsSigned w128 z
    fits z h = fits_signed_from_abs w128 z (omega (arith, h))

-- a flow and a departure as 64 bits hold them
pub of_flow : (z p : ℤ) → unsigned_abs z ≤ 1048560 → p ≡ to_z w64 (of_z w64 z) → p ≡ z
of_flow z p h e = omega (arith, ints)

pub of_departure : (z p : ℤ) → unsigned_abs z ≤ 2 ^ 49 + 1 → p ≡ to_z w64 (of_z w64 z) → p ≡ z
of_departure z p h e = omega (arith, ints)

-- a product less that by which the flow is above
pub less_fits : (a : ℤ) (n : ℕ) (p : ℤ) → unsigned_abs a ≤ 1048560 * (2 ^ 49 + 1) → n ≤ 1048560 → p ≡ pos n → (to_z w128 (of_z w128 (a -ℤ to_z w128 (of_z w128 p))) ≡ a -ℤ pos n) × (unsigned_abs (a -ℤ pos n) ≤ 1048560 * (2 ^ 49 + 2)) × FitsSigned w128 (a -ℤ to_z w128 (of_z w128 p))
less_fits a n p k l e = rw e (omega (arith, ints), omega (arith, ints), fits_signed_from_abs w128 (a -ℤ to_z w128 (of_z w128 (pos n))) (omega (arith, ints)))

pub part_fits : (f d p q t : ℤ) (n : ℕ) → unsigned_abs f ≤ 1048560 → unsigned_abs d ≤ 2 ^ 49 + 1 → p ≡ f → q ≡ d → n ≤ 1048560 → t ≡ pos n
    → (to_z w128 (of_z w128 (to_z w128 (of_z w128 (to_z w128 (of_z w128 p) *ℤ to_z w128 (of_z w128 q))) -ℤ to_z w128 (of_z w128 t))) ≡ f *ℤ d -ℤ pos n) × (unsigned_abs (f *ℤ d -ℤ pos n) ≤ 1048560 * (2 ^ 49 + 2)) × FitsSigned w128 (to_z w128 (of_z w128 (to_z w128 (of_z w128 p) *ℤ to_z w128 (of_z w128 q))) -ℤ to_z w128 (of_z w128 t))
part_fits f d p q t n k l a b m e =
    let times = flow_product_fits f d k l in
    rw (a, b, times.0) (less_fits (f *ℤ d) n t times.1 m e)

pub products_fit : (a b : ℤ) → unsigned_abs a ≤ 1048560 * (2 ^ 49 + 2) → unsigned_abs b ≤ 1048560 * (2 ^ 49 + 2) → (to_z w128 (of_z w128 (to_z w128 (of_z w128 a) +ℤ to_z w128 (of_z w128 b))) ≡ a +ℤ b) × (unsigned_abs (a +ℤ b) ≤ 2 * 1048560 * (2 ^ 49 + 2)) × FitsSigned w128 (to_z w128 (of_z w128 a) +ℤ to_z w128 (of_z w128 b))
products_fit a b k l = (omega (arith, ints), omega (arith, ints), fits_signed_from_abs w128 (to_z w128 (of_z w128 a) +ℤ to_z w128 (of_z w128 b)) (omega (arith, ints)))

pub flow_sum_fits : (a t : ℤ) (x y : ℕ) → unsigned_abs a ≤ 2 * 1048560 * (2 ^ 49 + 2) * (4096 * y + x) → unsigned_abs t ≤ 2 * 1048560 * (2 ^ 49 + 2) → 4096 * y + x < 2 ^ 26 → (to_z w128 (of_z w128 (a +ℤ to_z w128 (of_z w128 t))) ≡ a +ℤ t) × (unsigned_abs (a +ℤ t) ≤ 2 * 1048560 * (2 ^ 49 + 2) * (4096 * y + (x + 1))) × FitsSigned w128 (a +ℤ to_z w128 (of_z w128 t))
flow_sum_fits a t x y k l m = (omega (arith, ints), omega (arith, ints), fits_signed_from_abs w128 (a +ℤ to_z w128 (of_z w128 t)) (omega (arith, ints)))

-- how many pixels stand before one
pub pixels_before : (s : Scene) (x y : ℕ) → x < s.phase.width → y < s.phase.height → 4096 * y + x < 2 ^ 26
pixels_before s x y l m = omega (arith, s.wide, s.high)
