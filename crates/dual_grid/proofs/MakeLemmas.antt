-- A grid that is made: what its lists say, and that it starts as it should.
use Rattle.std.proofs.Common.{◌≡◌, ℕ, zero, suc, ◌+◌, ◌-◌, ◌*◌, ◌/◌, ◌%◌, ◌<◌, ◌≤◌, ◌^◌, ◌∙◌, sym, ap, refl, arith, inl, inr, List, ◌++◌, length, get_or, replicate, Bool, true, false}
use Rattle.std.specs.Prelude.{ℤ, pos, neg_ℤ, ◌+ℤ◌, ◌-ℤ◌, ◌≤ℤ◌, ◌==◌, ◌&&◌, if◌then◌else◌, nat_lt, unsigned_abs}
use Rattle.std.proofs.lemmas.Bool.{cases_Bool, cases_lt}
use Rattle.std.proofs.lemmas.Int.{ints}
use Rattle.std.proofs.lemmas.Nat.{mul-le}
use Rattle.std.proofs.lemmas.List.{get_or_append_left, get_or-append-add, get_or-append_right, get_or_past, get_or-replicate, length-replicate}
use Rattle.raster_model.specs.declared.edge.Edge.{Edge}
use Rattle.raster_model.specs.declared.tiling.Window.{Window}
use Rattle.raster_model.specs.Sums.{Field}
use Rattle.raster_model.specs.Tiles.{width_of, height_of, IsRasterWindow}
use Rattle.raster_model.specs.Raster.{Raster}
use Rattle.flow_network.specs.Nets.{IsArc, HasReducedCosts, tail_of}
use Rattle.flow_network.specs.Moves.{IsConserved, out_term, residual_out}
use Rattle.flow_network.specs.Growing.{supply_sizes, supply_sum, total_residual}
use Rattle.flow_network.specs.Lists.{HasRoom}
use Rattle.flow_network.proofs.CallerLemmas.{conserved-still, sum-not_below, term-le}
use Rattle.flow_network.proofs.RoomLemmas.{term-not_below}
use Rattle.wrapped_gradient.specs.Rows.{AreInRows}
use Rattle.wrapped_gradient.specs.Windows.{IsEdgeOf, edge_value}
use Rattle.dual_grid.specs.Building.{AreCellSupplies}
use Rattle.dual_grid.specs.Grids.{AreWeighed, HasSmallCosts, amount_of, arc_capacity, carried, cost_in_place, cost_of_place, residual_at, start_residual}
use Rattle.dual_grid.specs.Layout.{AreWithinCapacity, AreWithinReach, FitGrid, flat_state_by, number_or_zero, shape_by, state_by, weight_in}
use Rattle.dual_grid.specs.Nodes.{cells_of, edges_of, edge_number}
use Rattle.dual_grid.specs.Problems.{down_edge_weights, right_edge_weights}
use Rattle.dual_grid.specs.Starts.{IsAtStart, open_in_window, start_state}
use Rattle.dual_grid.proofs.ArcLemmas.{grid_is_network, kinds}
use Rattle.dual_grid.proofs.EdgeLemmas.{capacity_few, few_cells, few_edges, right_number_below}
use Rattle.dual_grid.proofs.FlowLemmas.{residual_small}
use Rattle.dual_grid.proofs.ListingLemmas.{weights_listed}
use Rattle.dual_grid.proofs.PushLemmas.{within_all}
use Rattle.sums_and_lists.specs.Sums.{sum_below, where_true}
use Rattle.sums_and_lists.proofs.SumLemmas.{sum_below-none, sum_below-more}

-- ---- weights in one list, the right edges first
module _ (r : Raster) (v : Window) (unmasked : List Bool) (right down : List ℤ) (rights : AreInRows (right_edge_weights r v unmasked) v.x0 v.y0 (width_of v - 1) ((width_of v - 1) * height_of v) right) (downs : AreInRows (down_edge_weights r v unmasked) v.x0 v.y0 (width_of v) (width_of v * (height_of v - 1)) down) where
  joined_at : (e : Edge) → IsEdgeOf v e → number_or_zero (right ++ down) (edge_number v e) ≡ edge_value v right down e
  joined_at e i = go e.x e.y e.down i
    where
      go : (x y : ℕ) (d : Bool) → IsEdgeOf v (record { x = x; y = y; down = d }) → number_or_zero (right ++ down) (edge_number v (record { x = x; y = y; down = d })) ≡ edge_value v right down (record { x = x; y = y; down = d })
      go x y false i = get_or_append_left right down (pos 0) ((y - v.y0) * (width_of v - 1) + (x - v.x0)) (let l = right_number_below v x y i in let n = rights.0 in omega (arith, l, n))
      go x y true i =
          ap (λ (n : ℕ). number_or_zero (right ++ down) (n + ((y - v.y0) * width_of v + (x - v.x0)))) (sym rights.0)
          ∙ get_or-append-add right down ((y - v.y0) * width_of v + (x - v.x0)) (pos 0)

  pub joined_weighed : AreWeighed r (open_in_window v unmasked) v (weight_in (right ++ down))
  joined_weighed e i = ap unsigned_abs (joined_at e i ∙ weights_listed r v unmasked right down rights downs e i)

pub joined_light : (right down : List ℤ) → ((k : ℕ) → unsigned_abs (get_or right k (pos 0)) ≤ 65535) → ((k : ℕ) → unsigned_abs (get_or down k (pos 0)) ≤ 65535) → (n : ℕ) → unsigned_abs (number_or_zero (right ++ down) n) ≤ 65535
joined_light right down a b n =
    elim (cases_lt n (length right)) [
      | inl l ↦ rw (get_or_append_left right down (pos 0) n l) (a n)
      | inr l ↦ rw (get_or-append_right right down (length right) n (pos 0) refl l) (b (n - length right))
    ]

pub all_zero : (n k : ℕ) → number_or_zero (replicate n (pos 0)) k ≡ pos 0
all_zero n k =
    elim (cases_lt k n) [
      | inl l ↦ get_or-replicate n k (pos 0) (pos 0) l
      | inr l ↦ get_or_past (replicate n (pos 0)) k (pos 0) (omega (arith, length-replicate n (pos 0), l))
    ]

-- terms that are at most c
sum_bounded : (n c : ℕ) (f : ℕ → ℤ) → ((k : ℕ) → k < n → f k ≤ℤ pos c) → sum_below n f ≤ℤ pos (n * c)
sum_bounded zero c f h = omega (arith, ints, sum_below-none f)
sum_bounded (suc n) c f h =
    let e : suc n ≡ n + 1 = omega arith in
    let d : (n + 1) * c ≡ n * c + c = omega arith in
    rw e (omega (arith, ints, sum_below-more n f, sum_bounded n c f (λ k l. h k (omega arith)), h n (omega arith), d))

-- ---- what arcs cost
module _ (v : Window) (steep : ℕ) (gentle : steep ≤ 16) (weights : List ℤ) (light : (n : ℕ) → unsigned_abs (number_or_zero weights n) ≤ 65535) where
  size_small : (w k : ℕ) → w ≤ 65535 → cost_of_place steep w k ≤ 1048560
  size_small w k l =
      let most = mul-le steep w 16 65535 gentle l in
      elim (cases_Bool (nat_lt k 4)) [
        | inl t ↦ rw t (omega (arith, l))
        | inr t ↦ rw t (omega (arith, most))
      ]

  signed_small : (b : Bool) (n : ℕ) → n ≤ 1048560 → unsigned_abs (if b then pos n else neg_ℤ (pos n)) ≤ 1048560
  signed_small true n l = omega (arith, l)
  signed_small false n l = omega (arith, ints, l)

  cost_small : (a : ℕ) → unsigned_abs ((shape_by v steep weights).cost a) ≤ 1048560
  cost_small a = signed_small (a % 8 % 2 == 0) (cost_of_place steep (weight_in weights (a / 8)) (a % 8)) (size_small (weight_in weights (a / 8)) (a % 8) (light (a / 8)))

-- ---- whatever flows within the capacities
module _ (v : Window) (little : IsRasterWindow v) (steep : ℕ) (weights flows excesses : List ℤ) (within : AreWithinCapacity v steep weights flows) where
  residual_few : (a : ℕ) → (flat_state_by v steep weights flows excesses).residual a ≤ 536870913
  residual_few a = residual_small (arc_capacity v) steep (weight_in weights (a / 8)) (number_or_zero flows (a / 8)) (a % 8) (capacity_few v little) (within_all v little steep weights flows within (a / 8))

  residual_term : (a : ℕ) → where_true ((shape_by v steep weights).is_arc a) (pos ((flat_state_by v steep weights flows excesses).residual a)) ≤ℤ pos 536870913
  residual_term a =
      elim (cases_Bool ((shape_by v steep weights).is_arc a)) [
        | inl t ↦ (let l = residual_few a in rw t (omega (arith, ints, l)))
        | inr t ↦ rw t (omega (arith, ints))
      ]

  both-le : (t u : Bool) (n : ℕ) → where_true t (pos n) ≤ℤ pos 536870913 → where_true (t && u) (pos n) ≤ℤ pos 536870913
  both-le true true n l = l
  both-le true false n l = omega (arith, ints)
  both-le false u n l = l

  few_arcs : edges_of v * 8 * 536870913 ≤ 2305843004918726640
  few_arcs = let l = few_edges v little in omega (arith, l)

  total_small : total_residual (shape_by v steep weights) (flat_state_by v steep weights flows excesses) ≤ℤ pos (edges_of v * 8 * 536870913)
  total_small = sum_bounded (edges_of v * 8) 536870913 (λ a. where_true ((shape_by v steep weights).is_arc a) (pos ((flat_state_by v steep weights flows excesses).residual a))) (λ a l. residual_term a)

  out_small : (u : ℕ) → residual_out (shape_by v steep weights) (flat_state_by v steep weights flows excesses) u ≤ℤ pos (edges_of v * 8 * 536870913)
  out_small u = sum_bounded (edges_of v * 8) 536870913 (out_term (shape_by v steep weights) (flat_state_by v steep weights flows excesses) u) (λ a l. both-le ((shape_by v steep weights).is_arc a) (tail_of (shape_by v steep weights) a == u) ((flat_state_by v steep weights flows excesses).residual a) (residual_term a))

  out_low : (u : ℕ) → pos 0 ≤ℤ residual_out (shape_by v steep weights) (flat_state_by v steep weights flows excesses) u
  out_low u = sum-not_below (edges_of v * 8) (out_term (shape_by v steep weights) (flat_state_by v steep weights flows excesses) u) (λ a l. term-not_below ((shape_by v steep weights).is_arc a && (tail_of (shape_by v steep weights) a == u)) ((flat_state_by v steep weights flows excesses).residual a))

  pub has_room : ((a : ℕ) → a < edges_of v * 8 → unsigned_abs ((shape_by v steep weights).cost a) ≤ 2 ^ 40) → ((u : ℕ) → u < cells_of v + 1 → unsigned_abs (number_or_zero excesses u) ≤ 2 ^ 61) → HasRoom (shape_by v steep weights) (flat_state_by v steep weights flows excesses)
  has_room costs small = record {
    total = (let t = total_small in let f = few_arcs in omega (arith, ints, t, f));
    above = λ u l. (let t = total_small in let f = few_arcs in let o = out_low u in let e = small u l in omega (arith, ints, t, f, o, e));
    beneath = λ u l. (let f = few_arcs in let o = out_small u in let e = small u l in omega (arith, ints, f, o, e));
    costs = costs;
    potentials = λ u l. omega (arith, ints);
  }

-- ---- nothing flows, and all potentials are 0
module _ (v : Window) (little : IsRasterWindow v) (steep : ℕ) (gentle : steep ≤ 16) (weights flows excesses potentials : List ℤ) (fit : FitGrid v weights flows excesses potentials) (light : (n : ℕ) → unsigned_abs (number_or_zero weights n) ≤ 65535) (none : (n : ℕ) → number_or_zero flows n ≡ pos 0) (flat : (n : ℕ) → number_or_zero potentials n ≡ pos 0) where
  pub start_within : AreWithinCapacity v steep weights flows
  start_within n = rw (none n) (omega (arith, ints))

  residual_is : (a : ℕ) → IsArc (shape_by v steep weights) a → (state_by v steep weights flows excesses potentials).residual a ≡ start_residual v steep (weight_in weights) a
  residual_is a arc = ap (λ (q : ℤ). residual_at (arc_capacity v) steep (weight_in weights (a / 8)) q (a % 8)) (none (a / 8))

  pub start_at : (r : Field ℤ) → AreCellSupplies r v excesses → IsAtStart (start_residual v steep (weight_in weights)) r v (shape_by v steep weights) (state_by v steep weights flows excesses potentials)
  start_at r are = record { residual = residual_is; excess = are.values; potential = λ u l. flat u }

  pub start_conserved : (r : Field ℤ) → AreCellSupplies r v excesses → IsConserved (shape_by v steep weights) (start_state (start_residual v steep (weight_in weights)) r v) (state_by v steep weights flows excesses potentials)
  start_conserved r are = conserved-still (shape_by v steep weights) (start_state (start_residual v steep (weight_in weights)) r v) (state_by v steep weights flows excesses potentials) (grid_is_network v steep (weight_in weights)) residual_is are.values

  pub start_cheap : HasSmallCosts (shape_by v steep weights)
  start_cheap = record { costs = λ a arc. cost_small v steep gentle weights light a; few = omega (arith, few_cells v little) }

  -- a twin has none
  none_carried : (b : Bool) → (if b then amount_of (pos 0) else amount_of (neg_ℤ (pos 0))) ≡ 0
  none_carried true = refl
  none_carried false = refl

  none_split : (b : Bool) (n : ℕ) → n ≡ 0 → (if b then 1 - (1 - n) else n - 1) ≡ 0
  none_split true n e = omega (arith, e)
  none_split false n e = omega (arith, e)

  free_twin : (b : Bool) → pos 0 ≤ℤ neg_ℤ (pos (if b then 0 else steep * 0))
  free_twin true = omega (arith, ints)
  free_twin false = omega (arith, ints)

  cost_from : (w k : ℕ) → 0 < residual_at (arc_capacity v) steep w (pos 0) k → pos 0 ≤ℤ cost_in_place steep w k
  cost_from w k l =
      elim (cases_Bool (k % 2 == 0)) [
        | inl t ↦ rw t (omega (arith, ints))
        | inr t ↦ elim (kinds steep w) [
          | inl f ↦ (let z = f.2 in rw (t, z) (free_twin (nat_lt k 4)))
          | inr (inl f) ↦ absurd (let z = f.0.0 in let n = f.1 in let h = rw (z, n, t) at l in let none = none_carried (nat_lt (k % 4) 2) in omega (arith, h, none))
          | inr (inr f) ↦ absurd (let z = f.0.0 in let n = f.1 in let h = rw (z, n, t) at l in let none = none_split (nat_lt k 4) (carried (pos 0) k) (none_carried (nat_lt (k % 4) 2)) in omega (arith, h, none))
        ]
      ]

  -- an arc with capacity at the start costs something, or nothing
  start_cost : (a : ℕ) → 0 < start_residual v steep (weight_in weights) a → pos 0 ≤ℤ (shape_by v steep weights).cost a
  start_cost a l = cost_from (weight_in weights (a / 8)) (a % 8) l

  level : (c x y : ℤ) → pos 0 ≤ℤ c → x ≡ pos 0 → y ≡ pos 0 → pos 0 ≤ℤ (c +ℤ x -ℤ y)
  level c x y l p q = omega (arith, ints, l, p, q)

  pub start_kept : supply_sum excesses ≡ pos 0 → HasReducedCosts (shape_by v steep weights) (state_by v steep weights flows excesses potentials)
  start_kept even = record {
    at_least = λ a arc l. level ((shape_by v steep weights).cost a) _ _ (start_cost a (rw (residual_is a arc) at l)) (flat (tail_of (shape_by v steep weights) a)) (flat ((shape_by v steep weights).head a));
    even = ap (λ (n : ℕ). sum_below n (number_or_zero excesses)) (sym fit.by_node) ∙ even;
  }

  -- ---- the room for pushes
  excess_small : supply_sizes excesses ≤ℤ pos (2 * cells_of v) → (u : ℕ) → u < cells_of v + 1 → unsigned_abs (number_or_zero excesses u) ≤ 536870910
  excess_small sizes u l =
      let one = term-le (length excesses) u (λ k. pos (unsigned_abs (get_or excesses k (pos 0)))) (omega (arith, fit.by_node, l)) (λ k m. omega (arith, ints)) in
      let few = few_cells v little in
      omega (arith, ints, one, sizes, few)

  pub start_room : supply_sizes excesses ≤ℤ pos (2 * cells_of v) → HasRoom (shape_by v steep weights) (flat_state_by v steep weights flows excesses)
  start_room sizes = has_room v little steep weights flows excesses start_within (λ a l. (let c = cost_small v steep gentle weights light a in omega (arith, c))) (λ u l. (let e = excess_small sizes u l in omega (arith, e)))

  pub start_reach : AreWithinReach potentials
  start_reach u = let z = flat u in omega (arith, ints, z)
