-- The flows and the offsets of a solved network certify the seams.
use Rattle.std.proofs.Common.{◌≡◌, ℕ, zero, suc, ◌+◌, ◌*◌, ◌<◌, ◌≤◌, ◌∙◌, ap, sym, subst, refl, arith, Bool, true, false, List, length}
use Rattle.std.specs.Prelude.{ℤ, pos, neg_ℤ, ◌+ℤ◌, ◌-ℤ◌, ◌*ℤ◌, ◌≤ℤ◌, ◌&&◌, ◌==◌, IsTrue, Option, Some, None, if◌then◌else◌, unsigned_abs}
use Rattle.std.proofs.lemmas.Int.{ints}
use Rattle.std.proofs.lemmas.Bool.{and_from, eqb-true}
use Rattle.raster_model.specs.declared.edge.Edge.{Edge}
use Rattle.raster_model.specs.Sums.{Field, at_edge_end, at_edge_start, end_x, end_y, is_edge}
use Rattle.raster_model.specs.Raster.{Raster, cycle_departure, departure, has_open_ends, is_seam, lifted, masked_weight, over, seam_cost, seam_edge_cost, steps}
use Rattle.raster_model.specs.Flows.{AreCertifiedSeams, flow_at, is_seam_edge, seam_count, seam_place}
use Rattle.raster_model.specs.Seams.{AreRegions, flow_bound, flow_in, flow_out, flow_over, flow_over_total, flow_total, region_of}
use Rattle.raster_model.proofs.Balance.{balanced_by_labels}
use Rattle.raster_model.proofs.Exact.{cycles_depart}
use Rattle.raster_model.proofs.SumLemmas.{sum_edges-less, sum_edges-same}
use Rattle.flow_network.specs.Nets.{IsNetwork, Shape, State, reduced_cost, tail_of}
use Rattle.offset_guess.specs.declared.link.Link.{Link}
use Rattle.offset_network.specs.declared.lane.Lane.{Lane}
use Rattle.offset_network.specs.Links.{link_at}
use Rattle.offset_network.specs.Lanes.{AreLanesOf, arcs_before, brings, lane_above, lane_at, lane_below, lane_near, more_of, part_of}
use Rattle.offset_network.specs.Networks.{AreFlows, AreSums, IsSolved, flow_left, lane_flow}
use Rattle.offset_network.specs.Seams.{AreSeamLinks}
use Rattle.offset_network.proofs.CostLemmas.{IsHeld, MeetsSteps, flow_costs, held_none, held_some, weight_more}
use Rattle.offset_network.proofs.FlowLemmas.{arc_is, first_is_arc, first_tail, twin_is_arc, twin_tail}
use Rattle.offset_network.proofs.PlaceLemmas.{ends_in}
use Rattle.offset_network.proofs.PlaceSums.{sum_at_places}
use Rattle.sums_and_lists.proofs.SumLemmas.{sum_below-add, sum_below-more, sum_below-none, sum_below-same, where_both, where_true-zero, where_zero}
use Rattle.sums_and_lists.proofs.Tests.{and_first, and_second}
use Rattle.sums_and_lists.specs.Sums.{sum_below, where_true}

-- ---- one lane
-- what ends, and what starts, in a region
abbrev ends : Option Lane → ℕ → ℤ → ℤ
ends None v x = pos 0
ends (Some k) v x = where_true (k.to == v) x

abbrev starts : Option Lane → ℕ → ℤ → ℤ
starts None v x = pos 0
starts (Some k) v x = where_true (k.from == v) x

brings-parts : (o : Option Lane) (v : ℕ) (x : ℤ) → brings o v x +ℤ starts o v x ≡ ends o v x
brings-parts None v x = refl
brings-parts (Some k) v x = omega (arith, ints)

-- they are as of the link, since nothing flows where there is no lane
part_ends : (k : Link) (low high : ℕ) (less : ℤ) (v left : ℕ) → ends (part_of k low high less) v (flow_left (part_of k low high less) left) ≡ where_true (k.to == v) (flow_left (part_of k low high less) left)
part_ends k low high less v left = go (low + high == 0)
  where
    go : (t : Bool) → (let o : Option Lane = if t then None else Some (record { from = k.from; to = k.to; low = low; high = high; departure = k.departure -ℤ less }) in ends o v (flow_left o left) ≡ where_true (k.to == v) (flow_left o left))
    go true = sym (where_true-zero (k.to == v))
    go false = refl

part_starts : (k : Link) (low high : ℕ) (less : ℤ) (v left : ℕ) → starts (part_of k low high less) v (flow_left (part_of k low high less) left) ≡ where_true (k.from == v) (flow_left (part_of k low high less) left)
part_starts k low high less v left = go (low + high == 0)
  where
    go : (t : Bool) → (let o : Option Lane = if t then None else Some (record { from = k.from; to = k.to; low = low; high = high; departure = k.departure -ℤ less }) in starts o v (flow_left o left) ≡ where_true (k.from == v) (flow_left o left))
    go true = sym (where_true-zero (k.from == v))
    go false = refl

-- ---- three lanes
abbrev in_threes : (ℕ → ℤ) → ℕ → ℤ
in_threes f j = f (3 * j) +ℤ f (3 * j + 1) +ℤ f (3 * j + 2)

sum_in_threes : (m : ℕ) (f : ℕ → ℤ) → sum_below (3 * m) f ≡ sum_below m (in_threes f)
sum_in_threes zero f = let e : 3 * 0 ≡ 0 = omega arith in rw e (sum_below-none f ∙ sym (sum_below-none (in_threes f)))
sum_in_threes (suc m) f =
    let e : 3 * suc m ≡ ((3 * m + 1) + 1) + 1 = omega arith in
    let n : suc m ≡ m + 1 = omega arith in
    let last : f ((3 * m + 1) + 1) ≡ f (3 * m + 2) = ap f (omega arith) in
    rw (e, n) (omega (arith, ints, last, sum_in_threes m f, sum_below-more ((3 * m + 1) + 1) f, sum_below-more (3 * m + 1) f, sum_below-more (3 * m) f, sum_below-more m (in_threes f)))

where_three : (t : Bool) (a b c x y z : ℤ) → a ≡ where_true t x → b ≡ where_true t y → c ≡ where_true t z → a +ℤ b +ℤ c ≡ where_true t (x +ℤ y +ℤ z)
where_three true a b c x y z p q s = omega (arith, ints, p, q, s)
where_three false a b c x y z p q s = omega (arith, ints, p, q, s)

pub open_term : (a b t : Bool) (x : ℤ) → (a && b) ≡ true → where_true t x ≡ where_true (b && t) x
open_term true true t x o = refl
open_term true false t x o = cc
open_term false b t x o = cc

pub open_term_first : (a b t : Bool) (x : ℤ) → (a && b) ≡ true → where_true t x ≡ where_true (a && t) x
open_term_first true b t x o = refl
open_term_first false b t x o = cc

-- the bound and the cost of an edge
pub same_term : (s o : Bool) (p v c : ℤ) → (s ≡ true → o ≡ true → p -ℤ v ≡ c) → (s ≡ true → o ≡ false → v ≡ pos 0) → where_true (s && o) p -ℤ where_true s v ≡ where_true s (where_true o c)
same_term true true p v c h k = h refl refl
same_term true false p v c h k = omega (arith, ints, k refl refl)
same_term false o p v c h k = omega (arith, ints)

twice : (d : ℤ) → neg_ℤ (neg_ℤ d) ≡ d
twice d = omega (arith, ints)

module _ (r : Raster) (mask : Field Bool) (labels : Field ℕ) (n : ℕ) (base : Field ℤ) (links : List (Option Link)) (lanes : List (Option Lane)) (z : Shape) (g : State) (parts zs : List ℤ)
    (regions : AreRegions r mask labels n) (steep : 1 ≤ r.steep) (seams : AreSeamLinks r mask labels base links) (parted : AreLanesOf r.steep links (length links) lanes) (net : IsNetwork z) (solved : IsSolved n lanes z g) (told : AreFlows lanes g (length lanes) parts) (sums : AreSums parts (length links) zs) where
  abbrev flow : Edge → ℤ
  flow = flow_at r zs

  abbrev on_lane : ℕ → ℤ
  on_lane = lane_flow lanes g

  -- the flow of a seam edge is that of its three lanes
  flow_is : (e : Edge) → IsTrue (is_seam_edge r e) → flow e ≡ in_threes on_lane (seam_place r e)
  unfolding flow_at
  flow_is e s =
      let j = seam_place r e in
      let below = (seams.each e s).below in
      sums.values j below ∙ omega (arith, ints, told.values (3 * j) (omega (arith, below, parted.count)), told.values (3 * j + 1) (omega (arith, below, parted.count)), told.values (3 * j + 2) (omega (arith, below, parted.count)))

  -- the link of a seam edge with open ends
  abbrev link_there : Edge → Link
  link_there e = record { from = at_edge_start labels e; to = at_edge_end labels e; weight = r.weight e; departure = cycle_departure r base e }

  open_link : (e : Edge) → IsTrue (is_seam_edge r e) → has_open_ends mask e ≡ true → link_at links (seam_place r e) ≡ Some (link_there e)
  open_link e s o = (seams.each e s).link ∙ rw o refl

  masked_link : (e : Edge) → IsTrue (is_seam_edge r e) → has_open_ends mask e ≡ false → link_at links (seam_place r e) ≡ None
  masked_link e s o = (seams.each e s).link ∙ rw o refl

  -- the lanes at its place
  record AreLanesAt (o : Option Link) (j : ℕ) : Type 0 where
    pub below : 3 * j + 2 < length lanes
    pub near : lane_at lanes (3 * j) ≡ lane_near o
    pub above : lane_at lanes (3 * j + 1) ≡ lane_above r.steep o
    pub down : lane_at lanes (3 * j + 2) ≡ lane_below r.steep o

  lanes_there : (e : Edge) → IsTrue (is_seam_edge r e) → (o : Option Link) → link_at links (seam_place r e) ≡ o → AreLanesAt o (seam_place r e)
  lanes_there e s o is =
      let j = seam_place r e in
      let below = (seams.each e s).below in
      record {
        below = omega (arith, below, parted.count);
        near = parted.near j below ∙ ap lane_near is;
        above = parted.above j below ∙ ap (lane_above r.steep) is;
        down = parted.below j below ∙ ap (lane_below r.steep) is;
      }

  -- nothing flows where there is no lane
  none_flows : (i : ℕ) → lane_at lanes i ≡ None → on_lane i ≡ pos 0
  none_flows i e = ap (λ (o : Option Lane). flow_left o (g.residual (arcs_before lanes i))) e

  masked_flow : (e : Edge) → IsTrue (is_seam_edge r e) → has_open_ends mask e ≡ false → flow e ≡ pos 0
  masked_flow e s o =
      let j = seam_place r e in
      let at = lanes_there e s None (masked_link e s o) in
      flow_is e s ∙ omega (arith, ints, none_flows (3 * j) at.near, none_flows (3 * j + 1) at.above, none_flows (3 * j + 2) at.down)

  -- ---- the flow on a lane is held by the potentials
  abbrev moved : Link → ℤ → ℤ
  moved k less = (k.departure -ℤ less) +ℤ g.potential k.to -ℤ g.potential k.from

  held_on : (i : ℕ) (k : Lane) → i < length lanes → lane_at lanes i ≡ Some k → IsHeld k.low k.high (k.departure +ℤ g.potential k.to -ℤ g.potential k.from) (on_lane i)
  held_on i k below there =
      let d = k.departure +ℤ g.potential k.to -ℤ g.potential k.from in
      let a = arcs_before lanes i in
      let is = arc_is n lanes z g net solved.built i k below there in
      let tail : tail_of z a ≡ k.from = first_tail n lanes z g net solved.built i k below there in
      let tail' : tail_of z (a + 1) ≡ k.to = twin_tail n lanes z g net solved.built i k below there in
      let first : reduced_cost z g a ≡ neg_ℤ d = rw (tail, is.head, is.cost) (omega (arith, ints)) in
      let twin : z.cost (a + 1) ≡ k.departure = ap z.cost (sym is.twin) ∙ net.negated a (first_is_arc n lanes z g net solved.built i k below there) ∙ ap neg_ℤ is.cost ∙ twice k.departure in
      let second : reduced_cost z g (a + 1) ≡ d = rw (tail', is.tail, twin) (omega (arith, ints)) in
      let held = held_some k.low k.high (g.residual a) (g.residual (a + 1)) d is.capacity
      (λ l. subst (λ (x : ℤ). pos 0 ≤ℤ x) first (solved.reduced.at_least a (first_is_arc n lanes z g net solved.built i k below there) l))
      (λ l. subst (λ (x : ℤ). pos 0 ≤ℤ x) second (solved.reduced.at_least (a + 1) (twin_is_arc n lanes z g net solved.built i k below there) l)) in
      subst (IsHeld k.low k.high d) (sym (ap (λ (o : Option Lane). flow_left o (g.residual a)) there)) held

  held : (i : ℕ) (k : Link) (low high : ℕ) (less : ℤ) → i < length lanes → lane_at lanes i ≡ part_of k low high less → IsHeld low high (moved k less) (on_lane i)
  held i k low high less below there = go (low + high == 0) refl
    where
      go : (t : Bool) → (low + high == 0) ≡ t → IsHeld low high (moved k less) (on_lane i)
      go true e = subst (IsHeld low high (moved k less)) (sym (none_flows i (there ∙ rw e refl))) (held_none low high (moved k less) (eqb-true (low + high) 0 e))
      go false e = held_on i (record { from = k.from; to = k.to; low = low; high = high; departure = k.departure -ℤ less }) below (there ∙ rw e refl)

  -- so the flow of a seam edge with open ends meets the steps of its departure
  abbrev moved_departure : Edge → ℤ
  moved_departure e = cycle_departure r base e +ℤ g.potential (at_edge_end labels e) -ℤ g.potential (at_edge_start labels e)

  meets : (e : Edge) → IsTrue (is_seam_edge r e) → has_open_ends mask e ≡ true → MeetsSteps (r.weight e) r.steep (moved_departure e) (flow e)
  meets e s o =
      let j = seam_place r e in
      let k = link_there e in
      let d = moved_departure e in
      let m = more_of r.steep (Some k) in
      let at = lanes_there e s (Some k) (open_link e s o) in
      let near : IsHeld (r.weight e) (r.weight e) d (on_lane (3 * j)) = subst (λ (x : ℤ). IsHeld (r.weight e) (r.weight e) x (on_lane (3 * j))) (omega (arith, ints)) (held (3 * j) k (r.weight e) (r.weight e) (pos 0) (omega (arith, at.below)) at.near) in
      let above : IsHeld 0 m (d -ℤ pos 1) (on_lane (3 * j + 1)) = subst (λ (x : ℤ). IsHeld 0 m x (on_lane (3 * j + 1))) (omega (arith, ints)) (held (3 * j + 1) k 0 m (pos 1) (omega (arith, at.below)) at.above) in
      let down : IsHeld m 0 (d +ℤ pos 1) (on_lane (3 * j + 2)) = subst (λ (x : ℤ). IsHeld m 0 x (on_lane (3 * j + 2))) (omega (arith, ints)) (held (3 * j + 2) k m 0 (neg_ℤ (pos 1)) at.below at.down) in
      subst (MeetsSteps (r.weight e) r.steep d) (sym (flow_is e s)) (flow_costs (r.weight e) r.steep m steep (weight_more r.steep (r.weight e) steep) d (on_lane (3 * j)) (on_lane (3 * j + 1)) (on_lane (3 * j + 2)) near above down)

  -- ---- no flow is greater than the steepness times its weight
  bounded : (e : Edge) → IsTrue (is_seam_edge r e) → unsigned_abs (flow e) ≤ r.steep * masked_weight r mask e
  bounded e s = go (has_open_ends mask e) refl
    where
      go : (b : Bool) → has_open_ends mask e ≡ b → unsigned_abs (flow e) ≤ r.steep * masked_weight r mask e
      go true o = rw o (meets e s o).small
      go false o = rw (masked_flow e s o, o) (omega (arith, ints))

  -- ---- as much flows into a region as out of it
  abbrev ends_at : ℕ → ℕ → ℤ
  ends_at v i = ends (lane_at lanes i) v (on_lane i)

  abbrev starts_at : ℕ → ℕ → ℤ
  starts_at v i = starts (lane_at lanes i) v (on_lane i)

  none_ends : (v i : ℕ) → lane_at lanes i ≡ None → (ends_at v i ≡ pos 0) × (starts_at v i ≡ pos 0)
  none_ends v i e = (rw e refl, rw e refl)

  ends_on : (v i : ℕ) (k : Link) (low high : ℕ) (less : ℤ) → lane_at lanes i ≡ part_of k low high less → (ends_at v i ≡ where_true (k.to == v) (on_lane i)) × (starts_at v i ≡ where_true (k.from == v) (on_lane i))
  ends_on v i k low high less e = (rw e (part_ends k low high less v (g.residual (arcs_before lanes i))), rw e (part_starts k low high less v (g.residual (arcs_before lanes i))))

  flow_in-places : (v : ℕ) → flow_in r flow (region_of mask labels v) ≡ sum_below (seam_count r) (in_threes (ends_at v))
  flow_in-places v =
      let region = region_of mask labels v in
      sum_edges-same r.width r.height (λ e. where_true (is_seam r e && at_edge_end region e) (flow e)) (λ e. where_true (is_seam r e) (where_true (at_edge_end region e) (flow e))) (λ e i. where_both (is_seam r e) (at_edge_end region e) (flow e))
      ∙ sum_at_places r (λ e. where_true (at_edge_end region e) (flow e)) (in_threes (ends_at v)) (λ e s. at e s (has_open_ends mask e) refl)
    where
      at : (e : Edge) → IsTrue (is_seam_edge r e) → (b : Bool) → has_open_ends mask e ≡ b → in_threes (ends_at v) (seam_place r e) ≡ where_true (at_edge_end (region_of mask labels v) e) (flow e)
      at e s true o =
          let j = seam_place r e in
          let k = link_there e in
          let m = more_of r.steep (Some k) in
          let t = lanes_there e s (Some k) (open_link e s o) in
          where_three (k.to == v) (ends_at v (3 * j)) (ends_at v (3 * j + 1)) (ends_at v (3 * j + 2)) (on_lane (3 * j)) (on_lane (3 * j + 1)) (on_lane (3 * j + 2))
          (ends_on v (3 * j) k (r.weight e) (r.weight e) (pos 0) t.near).0 (ends_on v (3 * j + 1) k 0 m (pos 1) t.above).0 (ends_on v (3 * j + 2) k m 0 (neg_ℤ (pos 1)) t.down).0
          ∙ ap (where_true (k.to == v)) (sym (flow_is e s))
          ∙ open_term (at_edge_start mask e) (at_edge_end mask e) (at_edge_end labels e == v) (flow e) o
      at e s false o =
          let j = seam_place r e in
          let t = lanes_there e s None (masked_link e s o) in
          let none : in_threes (ends_at v) j ≡ pos 0 = omega (arith, ints, (none_ends v (3 * j) t.near).0, (none_ends v (3 * j + 1) t.above).0, (none_ends v (3 * j + 2) t.down).0) in
          none ∙ sym (where_zero (at_edge_end (region_of mask labels v) e) (flow e) (masked_flow e s o))

  flow_out-places : (v : ℕ) → flow_out r flow (region_of mask labels v) ≡ sum_below (seam_count r) (in_threes (starts_at v))
  flow_out-places v =
      let region = region_of mask labels v in
      sum_edges-same r.width r.height (λ e. where_true (is_seam r e && at_edge_start region e) (flow e)) (λ e. where_true (is_seam r e) (where_true (at_edge_start region e) (flow e))) (λ e i. where_both (is_seam r e) (at_edge_start region e) (flow e))
      ∙ sum_at_places r (λ e. where_true (at_edge_start region e) (flow e)) (in_threes (starts_at v)) (λ e s. at e s (has_open_ends mask e) refl)
    where
      at : (e : Edge) → IsTrue (is_seam_edge r e) → (b : Bool) → has_open_ends mask e ≡ b → in_threes (starts_at v) (seam_place r e) ≡ where_true (at_edge_start (region_of mask labels v) e) (flow e)
      at e s true o =
          let j = seam_place r e in
          let k = link_there e in
          let m = more_of r.steep (Some k) in
          let t = lanes_there e s (Some k) (open_link e s o) in
          where_three (k.from == v) (starts_at v (3 * j)) (starts_at v (3 * j + 1)) (starts_at v (3 * j + 2)) (on_lane (3 * j)) (on_lane (3 * j + 1)) (on_lane (3 * j + 2))
          (ends_on v (3 * j) k (r.weight e) (r.weight e) (pos 0) t.near).1 (ends_on v (3 * j + 1) k 0 m (pos 1) t.above).1 (ends_on v (3 * j + 2) k m 0 (neg_ℤ (pos 1)) t.down).1
          ∙ ap (where_true (k.from == v)) (sym (flow_is e s))
          ∙ open_term_first (at_edge_start mask e) (at_edge_end mask e) (at_edge_start labels e == v) (flow e) o
      at e s false o =
          let j = seam_place r e in
          let t = lanes_there e s None (masked_link e s o) in
          let none : in_threes (starts_at v) j ≡ pos 0 = omega (arith, ints, (none_ends v (3 * j) t.near).1, (none_ends v (3 * j + 1) t.above).1, (none_ends v (3 * j + 2) t.down).1) in
          none ∙ sym (where_zero (at_edge_start (region_of mask labels v) e) (flow e) (masked_flow e s o))

  -- a sum over the places in threes is one over the lanes
  over_lanes : (f : ℕ → ℤ) → sum_below (seam_count r) (in_threes f) ≡ sum_below (length lanes) f
  over_lanes f = ap (λ (m : ℕ). sum_below m (in_threes f)) (sym seams.count) ∙ sym (sum_in_threes (length links) f) ∙ ap (λ (m : ℕ). sum_below m f) (sym parted.count)

  balanced_at : (v : ℕ) → v < n → flow_in r flow (region_of mask labels v) ≡ flow_out r flow (region_of mask labels v)
  balanced_at v l =
      let m = length lanes in
      let at = λ (i : ℕ). brings (lane_at lanes i) v (on_lane i) in
      let same = sum_below-same m (λ i. at i +ℤ starts_at v i) (ends_at v) (λ i k. brings-parts (lane_at lanes i) v (on_lane i)) in
      let none : g.excess v ≡ pos 0 = solved.balanced v (omega (arith, l, solved.built.nodes)) in
      let inside = flow_in-places v ∙ over_lanes (ends_at v) in
      let outside = flow_out-places v ∙ over_lanes (starts_at v) in
      omega (arith, ints, inside, outside, same, sum_below-add m at (starts_at v), none, solved.flows v l)

  -- ---- the bound is the cost, where the regions' offsets are the potentials lowered by a number
  module _ (cycles : Field ℤ) (by : ℤ) (lies : (x y : ℕ) → x < r.width → y < r.height → IsTrue (mask x y) → cycles x y ≡ base x y +ℤ (g.potential (labels x y) -ℤ by)) where
    departs : (e : Edge) → IsTrue (is_seam_edge r e) → has_open_ends mask e ≡ true → departure r (lifted r cycles) e ≡ moved_departure e
    departs e s o =
        let t = ends_in r e s in
        let from = lies e.x e.y t.0 t.1 (and_first (at_edge_start mask e) (at_edge_end mask e) o) in
        let to = lies (end_x e) (end_y e) t.2 t.3 (and_second (at_edge_start mask e) (at_edge_end mask e) o) in
        cycles_depart r cycles e ∙ omega (arith, ints, from, to)

    open_equal : (e : Edge) → IsTrue (is_seam_edge r e) → has_open_ends mask e ≡ true → (flow e *ℤ departure r (lifted r cycles) e) -ℤ pos (over (masked_weight r mask e) (flow e)) ≡ pos (masked_weight r mask e * steps r.steep (departure r (lifted r cycles) e))
    open_equal e s o = rw (departs e s o, o) (meets e s o).equal

    masked_over : (e : Edge) → IsTrue (is_seam_edge r e) → has_open_ends mask e ≡ false → pos (over (masked_weight r mask e) (flow e)) ≡ pos 0
    masked_over e s o = rw (masked_flow e s o, o) refl

    equal : flow_bound r mask (lifted r cycles) flow ≡ seam_cost r mask (lifted r cycles)
    unfolding flow_total flow_over_total seam_cost
    equal =
        let d = departure r (lifted r cycles) in
        let total = λ (e : Edge). where_true (is_seam r e && has_open_ends mask e) (flow e *ℤ d e) in
        sym (sum_edges-less r.width r.height total (flow_over r mask flow))
        ∙ sum_edges-same r.width r.height (λ e. total e -ℤ flow_over r mask flow e) (seam_edge_cost r mask (lifted r cycles))
        (λ e i. same_term (is_seam r e) (has_open_ends mask e) (flow e *ℤ d e) (pos (over (masked_weight r mask e) (flow e))) (pos (masked_weight r mask e * steps r.steep (d e)))
        (λ s o. open_equal e (and_from (is_edge r.width r.height e) (is_seam r e) i s) o)
        (λ s o. masked_over e (and_from (is_edge r.width r.height e) (is_seam r e) i s) o))

    pub certified : AreCertifiedSeams r mask (lifted r cycles) zs
    certified = (
      sums.count ∙ seams.count,
      record {
        bounded = λ e i s. bounded e (and_from (is_edge r.width r.height e) (is_seam r e) i s);
        balanced = balanced_by_labels r mask labels n regions.labelling flow balanced_at;
        equal = equal;
      },
    )
