-- How a network grows, an arc and its twin at a time.
use Rattle.std.specs.Prelude.{◌≡◌, ◌<◌, ◌+◌, ℕ, ℤ, pos, ◌+ℤ◌, unsigned_abs, List, length, get_or}
use Rattle.flow_network.specs.Nets.{Shape, State, IsArc}
use Rattle.sums_and_lists.specs.Sums.{sum_below, where_true}

-- the supplies in sum
abbrev pub supply_sum : List ℤ → ℤ
supply_sum supplies = sum_below (length supplies) (λ v. get_or supplies v (pos 0))

-- their sizes in sum
abbrev pub supply_sizes : List ℤ → ℤ
supply_sizes supplies = sum_below (length supplies) (λ v. pos (unsigned_abs (get_or supplies v (pos 0))))

-- the residuals of all arcs, in sum
abbrev pub total_residual : Shape → State → ℤ
total_residual shape state = sum_below shape.arcs (λ a. where_true (shape.is_arc a) (pos (state.residual a)))

-- the sizes of the excesses and the residuals of all arcs, in sum
abbrev pub total_amount : Shape → State → ℤ
total_amount shape state = sum_below shape.nodes (λ v. pos (unsigned_abs (state.excess v))) +ℤ total_residual shape state

-- A network whose arcs are all the numbers below `s.arcs` got one arc of the number `s.arcs`, and its twin of the number after that.
pub record AddsArc (s z : Shape) (f g : State) (t h : ℕ) (cost : ℤ) (forward back : ℕ) : Type 0 where
  pub nodes : z.nodes ≡ s.nodes
  pub arcs : z.arcs ≡ s.arcs + 2
  pub are_arcs : (a : ℕ) → a < s.arcs + 2 → IsArc z a
  pub heads : (a : ℕ) → a < s.arcs → z.head a ≡ s.head a
  pub twins : (a : ℕ) → a < s.arcs → z.twin a ≡ s.twin a
  pub costs : (a : ℕ) → a < s.arcs → z.cost a ≡ s.cost a
  pub residuals : (a : ℕ) → a < s.arcs → g.residual a ≡ f.residual a
  pub head : z.head s.arcs ≡ h
  pub tail : z.head (s.arcs + 1) ≡ t
  pub twin : z.twin s.arcs ≡ s.arcs + 1
  pub cost_is : z.cost s.arcs ≡ cost
  pub forward_is : g.residual s.arcs ≡ forward
  pub back_is : g.residual (s.arcs + 1) ≡ back
  pub excess : (v : ℕ) → v < s.nodes → g.excess v ≡ f.excess v
  pub potential : (v : ℕ) → v < s.nodes → g.potential v ≡ f.potential v
