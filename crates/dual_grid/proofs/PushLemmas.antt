-- A push along an arc of a grid.
use Rattle.std.proofs.Common.{◌≡◌, ℕ, ◌+◌, ◌*◌, ◌/◌, ◌%◌, ◌<◌, ◌≤◌, ◌∙◌, sym, ap, ap₂, refl, arith, inl, inr, Bool, true, false, List, length, get_or}
use Rattle.std.specs.Prelude.{ℤ, pos, ◌+ℤ◌, ◌-ℤ◌, ◌≤ℤ◌, ◌<ℤ◌, ◌==◌, if◌then◌else◌, unsigned_abs}
use Rattle.std.proofs.lemmas.Bool.{cases_eq, ne_eqb}
use Rattle.std.proofs.lemmas.Bool.Decides.{eqb_tells}
use Rattle.std.proofs.lemmas.Int.{ints}
use Rattle.std.proofs.lemmas.List.{get_or-set_other, get_or-set_same}
use Rattle.std.proofs.Math.ListN.{set}
use Rattle.std.proofs.lemmas.Nat.{div-add-mod', div-mul-add, mod-mul-add, mod_below}
use Rattle.raster_model.specs.declared.tiling.Window.{Window}
use Rattle.raster_model.specs.Tiles.{IsRasterWindow}
use Rattle.flow_network.specs.Nets.{IsArc, HasReducedCosts, reduced_cost, tail_of}
use Rattle.flow_network.specs.Moves.{IsPushed}
use Rattle.flow_network.proofs.CallerLemmas.{pushed-at}
use Rattle.dual_grid.specs.Layout.{AreWithinCapacity, FitGrid, number_or_zero, shape_by, state_by, weight_in}
use Rattle.dual_grid.specs.Grids.{arc_capacity, capacity_of, cost_in_place, head_at, is_taken, leads_forth, residual_at, window_shape, window_state, twin_place}
use Rattle.dual_grid.specs.Nodes.{edge_of, first_side, other_side}
use Rattle.dual_grid.proofs.ArcLemmas.{arc_below, arc_taken, is_arc_at, tail_is, twin_at_place, twin_edge}
use Rattle.dual_grid.proofs.EdgeLemmas.{capacity_few}
use Rattle.dual_grid.proofs.FlowLemmas.{AreIdle, capacity_small, flow_after, flow_within, place_moved}
use Rattle.sums_and_lists.specs.Sums.{where_true}
use Rattle.sums_and_lists.proofs.Orders.{none_left}
use Rattle.sums_and_lists.proofs.SumLemmas.{same_tests}

-- ---- an arc that leads the same way as a tight one, and costs less, has no capacity left
module _ (v : Window) (steep : ℕ) (weight : ℕ → ℕ) (flow : ℕ → ℤ) (excess potential : ℕ → ℤ) (kept : HasReducedCosts (window_shape v steep weight) (window_state v steep weight flow excess potential)) (a : ℕ) (arc : IsArc (window_shape v steep weight) a) (tight : reduced_cost (window_shape v steep weight) (window_state v steep weight flow excess potential) a ≡ pos 0) (k : ℕ) (below : k < 8) (taken : is_taken steep (weight (a / 8)) k ≡ true) (same_way : leads_forth k ≡ leads_forth (a % 8)) (less : cost_in_place steep (weight (a / 8)) k <ℤ cost_in_place steep (weight (a / 8)) (a % 8)) where
  same_edge : (a / 8 * 8 + k) / 8 ≡ a / 8
  same_edge = div-mul-add (a / 8) 8 k below

  its_place : (a / 8 * 8 + k) % 8 ≡ k
  its_place = mod-mul-add (a / 8) 8 k below

  is_arc : IsArc (window_shape v steep weight) (a / 8 * 8 + k)
  is_arc =
      is_arc_at v steep weight (a / 8 * 8 + k) (let l = arc_below v steep weight a arc in omega (arith, l, below))
      (ap₂ (λ (n k : ℕ). is_taken steep (weight n) k) same_edge its_place ∙ taken)

  same_head : (window_shape v steep weight).head (a / 8 * 8 + k) ≡ (window_shape v steep weight).head a
  same_head = ap₂ (λ (n k : ℕ). head_at v n k) same_edge its_place ∙ ap (λ (t : Bool). if t then other_side v (edge_of v (a / 8)) else first_side v (edge_of v (a / 8))) same_way

  same_tail : tail_of (window_shape v steep weight) (a / 8 * 8 + k) ≡ tail_of (window_shape v steep weight) a
  same_tail =
      tail_is v steep weight (a / 8 * 8 + k) is_arc
      ∙ ap₂ (λ (n k : ℕ). if leads_forth k then first_side v (edge_of v n) else other_side v (edge_of v n)) same_edge its_place
      ∙ ap (λ (t : Bool). if t then first_side v (edge_of v (a / 8)) else other_side v (edge_of v (a / 8))) same_way
      ∙ sym (tail_is v steep weight a arc)

  its_cost : (window_shape v steep weight).cost (a / 8 * 8 + k) ≡ cost_in_place steep (weight (a / 8)) k
  its_cost = ap₂ (λ (n k : ℕ). cost_in_place steep (weight n) k) same_edge its_place

  its_residual : (window_state v steep weight flow excess potential).residual (a / 8 * 8 + k) ≡ residual_at (arc_capacity v) steep (weight (a / 8)) (flow (a / 8)) k
  its_residual = ap₂ (λ (n k : ℕ). residual_at (arc_capacity v) steep (weight n) (flow n) k) same_edge its_place

  pub cheaper_is_idle : residual_at (arc_capacity v) steep (weight (a / 8)) (flow (a / 8)) k ≡ 0
  cheaper_is_idle = none_left (residual_at (arc_capacity v) steep (weight (a / 8)) (flow (a / 8)) k) (λ l. (
      let low = kept.at_least (a / 8 * 8 + k) is_arc (rw its_residual l) in
      below_0 _ _ _ _ _ _ (ap potential same_tail) (ap potential same_head) (rw its_cost less) low tight))
    where
      below_0 : (t h x y c d : ℤ) → x ≡ t → y ≡ h → c <ℤ d → pos 0 ≤ℤ (c +ℤ x -ℤ y) → d +ℤ t -ℤ h ≡ pos 0 → ⊥
      below_0 t h x y c d p q e l m = omega (arith, ints, p, q, e, l, m)

-- ---- the residuals after a push
module _ (v : Window) (steep : ℕ) (weight : ℕ → ℕ) (flow later : ℕ → ℤ) (a m : ℕ) (arc : IsArc (window_shape v steep weight) a) (at : later (a / 8) ≡ flow_after (flow (a / 8)) (a % 8) m) (rest : (n : ℕ) → (n ≡ a / 8 → ⊥) → later n ≡ flow n) (within : unsigned_abs (flow (a / 8)) ≤ capacity_of (arc_capacity v) steep (weight (a / 8))) (room : m ≤ residual_at (arc_capacity v) steep (weight (a / 8)) (flow (a / 8)) (a % 8)) (idle : AreIdle (arc_capacity v) steep (weight (a / 8)) (flow (a / 8)) (a % 8)) where
  -- the edge and the place of an arc tell it
  same_arc : (b c : ℕ) → b / 8 ≡ c / 8 → b % 8 ≡ c % 8 → b ≡ c
  same_arc b c e k = sym (div-add-mod' b 8) ∙ ap₂ (λ (n p : ℕ). n * 8 + p) e k ∙ div-add-mod' c 8

  -- across the same edge
  pushed_here : (b : ℕ) → IsArc (window_shape v steep weight) b → b / 8 ≡ a / 8 → residual_at (arc_capacity v) steep (weight (b / 8)) (later (b / 8)) (b % 8) + (if b == a then m else 0) ≡ residual_at (arc_capacity v) steep (weight (b / 8)) (flow (b / 8)) (b % 8) + (if b == (window_shape v steep weight).twin a then m else 0)
  pushed_here b is e =
      let k = mod_below b 8 (omega arith) in
      let t : is_taken steep (weight (a / 8)) (b % 8) ≡ true = ap (λ (n : ℕ). is_taken steep (weight n) (b % 8)) (sym e) ∙ arc_taken v steep weight b is in
      let moved = place_moved (arc_capacity v) steep (weight (a / 8)) (a % 8) m (flow (a / 8)) (mod_below a 8 (omega arith)) (arc_taken v steep weight a arc) within room idle (b % 8) k t in
      let here : (b == a) ≡ (b % 8 == a % 8) = same_tests b a (b % 8) (a % 8) (λ i. ap (λ (n : ℕ). n % 8) i) (λ i. same_arc b a e i) in
      let twin : (b == (window_shape v steep weight).twin a) ≡ (b % 8 == twin_place (weight (a / 8)) (a % 8)) =
      same_tests b ((window_shape v steep weight).twin a) (b % 8) (twin_place (weight (a / 8)) (a % 8)) (λ i. ap (λ (n : ℕ). n % 8) i ∙ twin_at_place v steep weight a arc) (λ i. same_arc b ((window_shape v steep weight).twin a) (e ∙ sym (twin_edge v steep weight a arc)) (i ∙ sym (twin_at_place v steep weight a arc))) in
      ap₂ (λ (x y : ℕ). x + y)
      (ap (λ (n : ℕ). residual_at (arc_capacity v) steep (weight n) (later n) (b % 8)) e ∙ ap (λ (q : ℤ). residual_at (arc_capacity v) steep (weight (a / 8)) q (b % 8)) at)
      (ap (λ (u : Bool). if u then m else 0) here)
      ∙ moved
      ∙ ap₂ (λ (x y : ℕ). x + y) (ap (λ (n : ℕ). residual_at (arc_capacity v) steep (weight n) (flow n) (b % 8)) (sym e)) (ap (λ (u : Bool). if u then m else 0) (sym twin))

  pub residuals_pushed : (b : ℕ) → IsArc (window_shape v steep weight) b → residual_at (arc_capacity v) steep (weight (b / 8)) (later (b / 8)) (b % 8) + (if b == a then m else 0) ≡ residual_at (arc_capacity v) steep (weight (b / 8)) (flow (b / 8)) (b % 8) + (if b == (window_shape v steep weight).twin a then m else 0)
  residuals_pushed b is =
      elim (eqb_tells (b / 8) (a / 8)) [
        | inl t ↦ pushed_here b is t.1
        | inr t ↦ (
            let here : (b == a) ≡ false = ne_eqb b a (λ e. t.1 (ap (λ (n : ℕ). n / 8) e)) in
            let twin : (b == (window_shape v steep weight).twin a) ≡ false = ne_eqb b ((window_shape v steep weight).twin a) (λ e. t.1 (ap (λ (n : ℕ). n / 8) e ∙ twin_edge v steep weight a arc)) in
            ap₂ (λ (x y : ℕ). x + y) (ap (λ (q : ℤ). residual_at (arc_capacity v) steep (weight (b / 8)) q (b % 8)) (rest (b / 8) t.1)) (ap (λ (u : Bool). if u then m else 0) here)
            ∙ ap₂ (λ (x y : ℕ). x + y) refl (ap (λ (u : Bool). if u then m else 0) (sym twin)))
      ]

-- no flow is above 268435457
pub within_all : (v : Window) → IsRasterWindow v → (steep : ℕ) (weights flows : List ℤ) → AreWithinCapacity v steep weights flows → (n : ℕ) → unsigned_abs (number_or_zero flows n) ≤ 268435457
within_all v limited steep weights flows within n = omega (arith, within n, capacity_small (arc_capacity v) steep (weight_in weights n) (capacity_few v limited))

-- ---- the lists after a push
module _ (v : Window) (steep : ℕ) (weights flows excesses potentials : List ℤ) (a m : ℕ) (fit : FitGrid v weights flows excesses potentials) (within : AreWithinCapacity v steep weights flows) (kept : HasReducedCosts (shape_by v steep weights) (state_by v steep weights flows excesses potentials)) (arc : IsArc (shape_by v steep weights) a) (tight : reduced_cost (shape_by v steep weights) (state_by v steep weights flows excesses potentials) a ≡ pos 0) (room : m ≤ residual_at (arc_capacity v) steep (weight_in weights (a / 8)) (number_or_zero flows (a / 8)) (a % 8)) (z : ℤ) (is : z ≡ flow_after (number_or_zero flows (a / 8)) (a % 8) m) where
  below_end : a / 8 < length flows
  below_end = let l = arc_below v steep (weight_in weights) a arc in omega (arith, l, fit.by_edge)

  idle_here : AreIdle (arc_capacity v) steep (weight_in weights (a / 8)) (number_or_zero flows (a / 8)) (a % 8)
  idle_here k below taken way less = cheaper_is_idle v steep (weight_in weights) (number_or_zero flows) (number_or_zero excesses) (number_or_zero potentials) kept a arc tight k below taken way less

  after_here : number_or_zero (set flows (a / 8) z) (a / 8) ≡ flow_after (number_or_zero flows (a / 8)) (a % 8) m
  after_here = get_or-set_same flows (a / 8) z (pos 0) below_end ∙ is

  after_elsewhere : (n : ℕ) → (n ≡ a / 8 → ⊥) → number_or_zero (set flows (a / 8) z) n ≡ number_or_zero flows n
  after_elsewhere n d = get_or-set_other flows (a / 8) n z (pos 0) d

  small_after : unsigned_abs (flow_after (number_or_zero flows (a / 8)) (a % 8) m) ≤ capacity_of (arc_capacity v) steep (weight_in weights (a / 8))
  small_after = flow_within (arc_capacity v) steep (weight_in weights (a / 8)) (a % 8) m (number_or_zero flows (a / 8)) (mod_below a 8 (omega arith)) (arc_taken v steep (weight_in weights) a arc) (within (a / 8)) room idle_here

  pub within_after : AreWithinCapacity v steep weights (set flows (a / 8) z)
  within_after n =
      elim (cases_eq n (a / 8)) [
        | inl e ↦ rw (e, after_here) small_after
        | inr d ↦ rw (after_elsewhere n d) (within n)
      ]

  pub pushed_lists : (others : List ℤ) (t h : ℕ) → t ≡ tail_of (shape_by v steep weights) a → h ≡ (shape_by v steep weights).head a → ((u : ℕ) → get_or others u (pos 0) ≡ get_or excesses u (pos 0) -ℤ where_true (u == t) (pos m) +ℤ where_true (u == h) (pos m)) → IsPushed (shape_by v steep weights) a m (state_by v steep weights flows excesses potentials) (state_by v steep weights (set flows (a / 8) z) others potentials)
  pushed_lists others t h starts ends carried =
      pushed-at (shape_by v steep weights) a m t h ((shape_by v steep weights).twin a) (state_by v steep weights flows excesses potentials) (state_by v steep weights (set flows (a / 8) z) others potentials) refl starts ends
      (residuals_pushed v steep (weight_in weights) (number_or_zero flows) (number_or_zero (set flows (a / 8) z)) a m arc after_here after_elsewhere (within (a / 8)) room idle_here)
      (λ u l. carried u) (λ u l. refl)
