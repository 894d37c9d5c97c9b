-- The network of a window: which arcs it has, what they cost, and how much residual capacity a flow leaves. Arc a has the
-- place a % 8 across the edge with the number a / 8. The places 0, 3, 4 and 7 lead from the first side of the edge to the
-- other, and the others lead back. At a weight above 0 an arc leads each way at that cost, in the places 0 and 2, and their
-- twins have the places 1 and 3. If the steepness is above 1, their capacity is 1, and a steep arc leads each way at the
-- steepness times the weight, in the places 4 and 6, with twins in the places 5 and 7. At the weight 0 there is one arc, in
-- the place 0, and its twin has the place 2.
use Rattle.raster_model.specs.declared.limits.TheConstants.{MAX_CYCLE_COST, MAX_NETWORK_NODES}
use Rattle.std.specs.Prelude.{◌≡◌, ℕ, ◌+◌, ◌-◌, ◌*◌, ◌/◌, ◌%◌, ◌<◌, ◌≤◌, ℤ, pos, negsuc, neg_ℤ, ◌-ℤ◌, Bool, true, false, ◌==◌, ◌&&◌, ◌||◌, if◌then◌else◌, nat_lt, unsigned_abs}
use Rattle.raster_model.specs.declared.edge.Edge.{Edge}
use Rattle.raster_model.specs.declared.tiling.Window.{Window}
use Rattle.raster_model.specs.Sums.{Field}
use Rattle.raster_model.specs.Raster.{Raster, masked_weight}
use Rattle.flow_network.specs.Nets.{Shape, State, IsArc, tail_of}
use Rattle.wrapped_gradient.specs.Windows.{IsEdgeOf}
use Rattle.dual_grid.specs.Nodes.{cells_of, edges_of, edge_number, edge_of, first_side, other_side}

-- across an edge of the weight w there are steep arcs
abbrev pub is_split : ℕ → ℕ → Bool
is_split steep w = nat_lt 0 w && nat_lt 1 steep

-- the arc in the place k leads from the first side to the other
abbrev pub leads_forth : ℕ → Bool
leads_forth k = (k % 4 == 0) || (k % 4 == 3)

-- there is an arc in the place k
abbrev pub is_taken : ℕ → ℕ → ℕ → Bool
is_taken steep w k = if nat_lt k 4 then (k % 2 == 0) || nat_lt 0 w else is_split steep w

-- the place of its twin
abbrev pub twin_place : ℕ → ℕ → ℕ
twin_place w k = if w == 0 then 2 - k else if k % 2 == 0 then k + 1 else k - 1

-- what it costs, if it is no twin, and what it costs
abbrev pub cost_of_place : ℕ → ℕ → ℕ → ℕ
cost_of_place steep w k = if nat_lt k 4 then w else steep * w

abbrev pub cost_in_place : ℕ → ℕ → ℕ → ℤ
cost_in_place steep w k = if k % 2 == 0 then pos (cost_of_place steep w k) else neg_ℤ (pos (cost_of_place steep w k))

-- where it ends, across the edge with the number n
abbrev pub head_at : Window → ℕ → ℕ → ℕ
head_at window n k = if leads_forth k then other_side window (edge_of window n) else first_side window (edge_of window n)

-- the network of a window at a steepness; the weights are given by the edges' numbers
abbrev pub window_shape : Window → ℕ → (ℕ → ℕ) → Shape
window_shape window steep weight = record {
  nodes = cells_of window + 1;
  arcs = edges_of window * 8;
  is_arc = λ a. nat_lt a (edges_of window * 8) && is_taken steep (weight (a / 8)) (a % 8);
  head = λ a. head_at window (a / 8) (a % 8);
  twin = λ a. a / 8 * 8 + twin_place (weight (a / 8)) (a % 8);
  cost = λ a. cost_in_place steep (weight (a / 8)) (a % 8);
}

-- the number, or 0 if it is below 0
abbrev pub amount_of : ℤ → ℕ
amount_of (pos n) = n
amount_of (negsuc n) = 0

-- a flow from the first side to the other, seen in the direction of the arc in the place k
abbrev pub along : ℤ → ℕ → ℤ
along q k = if leads_forth k then q else neg_ℤ q

-- what of it an arc from side to side has carried, of which the place k is that or its twin's. At a weight above 0 nothing flows both ways.
abbrev pub carried : ℤ → ℕ → ℕ
carried q k = if nat_lt (k % 4) 2 then amount_of q else amount_of (neg_ℤ q)

-- what an arc can carry that has no other beside it, or that is steep: one more than all cells can have to send, which is as much as there are nodes
abbrev pub arc_capacity : Window → ℕ
arc_capacity window = cells_of window + 1

-- the residual capacity that n units leave an arc, or its twin: if there are no steep arcs, and if there are, of which each carries what is more than 1
abbrev pub plain_residual : ℕ → ℕ → ℕ → ℕ
plain_residual most n k = if k % 2 == 0 then most - n else n

abbrev pub split_residual : ℕ → ℕ → ℕ → ℕ
split_residual most n k = if nat_lt k 4 then (if k % 2 == 0 then 1 - n else 1 - (1 - n)) else if k % 2 == 0 then most - (n - 1) else n - 1

-- the residual capacity that the flow q leaves in the place k
abbrev pub residual_at : ℕ → ℕ → ℕ → ℤ → ℕ → ℕ
residual_at most steep w q k = if w == 0 then amount_of (pos most -ℤ along q k) else if nat_lt 1 steep then split_residual most (carried q k) k else plain_residual most (carried q k) k

-- how much can flow each way across an edge
abbrev pub capacity_of : ℕ → ℕ → ℕ → ℕ
capacity_of most steep w = if is_split steep w then most + 1 else most

-- the state of the network, from the flows by the edges' numbers and what the nodes have
abbrev pub window_state : Window → ℕ → (ℕ → ℕ) → (ℕ → ℤ) → (ℕ → ℤ) → (ℕ → ℤ) → State
window_state window steep weight flow excess potential = record { residual = λ a. residual_at (arc_capacity window) steep (weight (a / 8)) (flow (a / 8)) (a % 8); excess = excess; potential = potential }

-- an arc's residual capacity at the start, where nothing flows
abbrev pub start_residual : Window → ℕ → (ℕ → ℕ) → ℕ → ℕ
start_residual window steep weight a = residual_at (arc_capacity window) steep (weight (a / 8)) (pos 0) (a % 8)

-- the weights by the numbers of the window's edges are those under the mask
abbrev pub AreWeighed : Raster → Field Bool → Window → (ℕ → ℕ) → Type 0
AreWeighed raster mask window weight = (edge : Edge) → IsEdgeOf window edge → weight (edge_number window edge) ≡ masked_weight raster mask edge

-- no cost is above the greatest steepness times the greatest weight on either side of 0, and there are no more nodes than a network over a raster has
pub record HasSmallCosts (shape : Shape) : Type 0 where
  pub costs : (a : ℕ) → IsArc shape a → unsigned_abs (shape.cost a) ≤ MAX_CYCLE_COST
  pub few : shape.nodes ≤ MAX_NETWORK_NODES

-- from any set of nodes, except the empty one and the whole, an arc leads out that has at the start the capacity of as many units as there are nodes
abbrev pub IsConnected : (ℕ → ℕ) → Shape → Type 0
IsConnected start shape = (inside : ℕ → Bool) (u w : ℕ) → u < shape.nodes → w < shape.nodes → inside u ≡ true → inside w ≡ false → (a : ℕ) × (IsArc shape a × (start a ≡ shape.nodes) × (inside (tail_of shape a) ≡ true) × (inside (shape.head a) ≡ false))
