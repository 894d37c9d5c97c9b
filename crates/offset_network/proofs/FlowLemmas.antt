-- Each region's excess is what the flows bring to it, however flow has moved.
use Rattle.std.proofs.Common.{◌≡◌, ℕ, ◌+◌, ◌<◌, ◌∙◌, ap, sym, refl, arith, Bool, true, false, List, length}
use Rattle.std.specs.Prelude.{ℤ, pos, ◌+ℤ◌, ◌-ℤ◌, ◌==◌, ◌&&◌, Option, Some, None}
use Rattle.std.proofs.lemmas.Int.{ints}
use Rattle.flow_network.specs.Nets.{Shape, State, IsArc, IsNetwork, tail_of}
use Rattle.flow_network.specs.Moves.{IsConserved, out_term, residual_out}
use Rattle.offset_network.specs.declared.lane.Lane.{Lane}
use Rattle.offset_network.specs.Lanes.{arcs_before, brings, lane_at, start_flow}
use Rattle.offset_network.specs.Networks.{HasArcs, HasFlows, IsArcOf, IsStarted, flow_left, lane_flow, supply_of}
use Rattle.offset_network.proofs.LaneLemmas.{both_arcs, sum_arcs}
use Rattle.sums_and_lists.specs.Sums.{sum_below, where_true}
use Rattle.sums_and_lists.proofs.SumLemmas.{sum_below-add, sum_below-same}

-- the ends of a lane's arc and of its twin
module _ (n : ℕ) (lanes : List (Option Lane)) (s : Shape) (f : State) (net : IsNetwork s) (h : HasArcs n lanes (length lanes) s f) (j : ℕ) (k : Lane) (l : j < length lanes) (e : lane_at lanes j ≡ Some k) where
  pub arc_is : IsArcOf s f (arcs_before lanes j) k
  arc_is = h.each j k l e

  pub first_is_arc : IsArc s (arcs_before lanes j)
  first_is_arc = h.are_arcs (arcs_before lanes j) (omega (arith, arc_is.below))

  pub twin_is_arc : IsArc s (arcs_before lanes j + 1)
  twin_is_arc = h.are_arcs (arcs_before lanes j + 1) arc_is.below

  pub twin_back : s.twin (arcs_before lanes j + 1) ≡ arcs_before lanes j
  twin_back = ap s.twin (sym arc_is.twin) ∙ net.back (arcs_before lanes j) first_is_arc

  pub first_tail : tail_of s (arcs_before lanes j) ≡ k.from
  first_tail = ap s.head arc_is.twin ∙ arc_is.tail

  pub twin_tail : tail_of s (arcs_before lanes j + 1) ≡ k.to
  twin_tail = ap s.head twin_back ∙ arc_is.head

-- what can leave a region along a lane's arc and its twin
abbrev leaves : Option Lane → ℕ → ℕ → ℕ → ℤ
leaves None v p q = pos 0
leaves (Some k) v p q = where_true (k.from == v) (pos p) +ℤ where_true (k.to == v) (pos q)

abbrev left_at : List (Option Lane) → State → ℕ → ℕ → ℤ
left_at lanes f v j = leaves (lane_at lanes j) v (f.residual (arcs_before lanes j)) (f.residual (arcs_before lanes j + 1))

out_is : (b : Bool) (t v u p : ℕ) → b ≡ true → t ≡ u → where_true (b && (t == v)) (pos p) ≡ where_true (u == v) (pos p)
out_is b t v u p e q = rw (e, q) refl

module _ (n : ℕ) (lanes : List (Option Lane)) (s : Shape) (f : State) (net : IsNetwork s) (h : HasArcs n lanes (length lanes) s f) where
  residual_out-lanes : (v : ℕ) → residual_out s f v ≡ sum_below (length lanes) (left_at lanes f v)
  residual_out-lanes v =
      ap (λ (m : ℕ). sum_below m (out_term s f v)) h.arcs
      ∙ sum_arcs lanes (length lanes) (out_term s f v)
      ∙ sum_below-same (length lanes) (λ j. both_arcs (lane_at lanes j) (arcs_before lanes j) (out_term s f v)) (left_at lanes f v) (λ j l. at j l (lane_at lanes j) refl)
    where
      at : (j : ℕ) → j < length lanes → (o : Option Lane) → lane_at lanes j ≡ o → both_arcs o (arcs_before lanes j) (out_term s f v) ≡ leaves o v (f.residual (arcs_before lanes j)) (f.residual (arcs_before lanes j + 1))
      at j l None e = refl
      at j l (Some k) e =
          let a = arcs_before lanes j in
          let first : out_term s f v a ≡ where_true (k.from == v) (pos (f.residual a)) = out_is (s.is_arc a) (tail_of s a) v k.from (f.residual a) (first_is_arc n lanes s f net h j k l e) (first_tail n lanes s f net h j k l e) in
          let twin : out_term s f v (a + 1) ≡ where_true (k.to == v) (pos (f.residual (a + 1))) = out_is (s.is_arc (a + 1)) (tail_of s (a + 1)) v k.to (f.residual (a + 1)) (twin_is_arc n lanes s f net h j k l e) (twin_tail n lanes s f net h j k l e) in
          omega (arith, ints, first, twin)

-- what a lane brings at the start, and what can leave along it then and now
exchanged : (t u : Bool) (low high p q p' q' : ℕ) (x : ℤ) → p + q ≡ low + high → p' + q' ≡ low + high → pos high -ℤ pos p ≡ x
    → (where_true t x -ℤ where_true u x) +ℤ (where_true u (pos p') +ℤ where_true t (pos q')) ≡ (where_true t (pos high -ℤ pos p') -ℤ where_true u (pos high -ℤ pos p')) +ℤ (where_true u (pos p) +ℤ where_true t (pos q))
exchanged true true low high p q p' q' x e e' y = omega (arith, ints, e, e', y)
exchanged true false low high p q p' q' x e e' y = omega (arith, ints, e, e', y)
exchanged false true low high p q p' q' x e e' y = omega (arith, ints, e, e', y)
exchanged false false low high p q p' q' x e e' y = omega (arith, ints, e, e', y)

module _ (n : ℕ) (lanes : List (Option Lane)) (s : Shape) (f g : State) (net : IsNetwork s) (h : IsStarted n lanes (length lanes) s f) (same : IsConserved s f g) where
  -- the arcs stay
  pub arcs_stay : HasArcs n lanes (length lanes) s g
  arcs_stay = record {
    nodes = h.built.nodes;
    arcs = h.built.arcs;
    are_arcs = h.built.are_arcs;
    each = λ j k l e. (
        let a = arcs_before lanes j in
        let is = h.built.each j k l e in
        let pair : g.residual a + g.residual (a + 1) ≡ f.residual a + f.residual (a + 1) =
        rw is.twin at (same.pairs a (first_is_arc n lanes s f net h.built j k l e)) in
        record { below = is.below; head = is.head; tail = is.tail; twin = is.twin; cost = is.cost; capacity = pair ∙ is.capacity });
  }

  pub has_flows : HasFlows n lanes g
  unfolding supply_of
  has_flows v l =
      let m = length lanes in
      let start = λ (j : ℕ). brings (lane_at lanes j) v (start_flow (lane_at lanes j)) in
      let now = λ (j : ℕ). brings (lane_at lanes j) v (lane_flow lanes g j) in
      let sums = sum_below-same m (λ j. start j +ℤ left_at lanes g v j) (λ j. now j +ℤ left_at lanes f v j) (λ j d. at v j d (lane_at lanes j) refl (h.flows j d)) in
      let kept = same.nodes v (omega (arith, l, h.built.nodes)) in
      omega (arith, ints, kept, h.excess v l, sums, sum_below-add m start (left_at lanes g v), sum_below-add m now (left_at lanes f v), residual_out-lanes n lanes s f net h.built v, residual_out-lanes n lanes s g net arcs_stay v)
    where
      at : (v j : ℕ) → j < length lanes → (o : Option Lane) → lane_at lanes j ≡ o → flow_left o (f.residual (arcs_before lanes j)) ≡ start_flow o
          → brings o v (start_flow o) +ℤ leaves o v (g.residual (arcs_before lanes j)) (g.residual (arcs_before lanes j + 1)) ≡ brings o v (flow_left o (g.residual (arcs_before lanes j))) +ℤ leaves o v (f.residual (arcs_before lanes j)) (f.residual (arcs_before lanes j + 1))
      at v j d None e x = refl
      at v j d (Some k) e x =
          let a = arcs_before lanes j in
          exchanged (k.to == v) (k.from == v) k.low k.high (f.residual a) (f.residual (a + 1)) (g.residual a) (g.residual (a + 1)) (start_flow (Some k)) (h.built.each j k d e).capacity (arcs_stay.each j k d e).capacity x
