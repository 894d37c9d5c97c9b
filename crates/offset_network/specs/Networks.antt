-- The network of some lanes: while it is made, while flow moves in it, and solved. No public clause cites this file.
use Rattle.raster_model.specs.declared.limits.TheConstants.{MAX_SEAM_DEPARTURE}
use Rattle.std.specs.Prelude.{◌≡◌, ℕ, ◌+◌, ◌*◌, ◌<◌, ◌≤◌, ◌==◌, ℤ, pos, neg_ℤ, ◌+ℤ◌, ◌-ℤ◌, ◌≤ℤ◌, Option, Some, None, List, length, slice_index_or, unsigned_abs}
use Rattle.flow_network.specs.Nets.{Shape, State, IsArc, HasReducedCosts, HasNoExcess}
use Rattle.flow_network.specs.Growing.{AddsArc, supply_sum, supply_sizes, total_amount}
use Rattle.shortest_augment.specs.Balance.{LiesWithin}
use Rattle.offset_network.specs.declared.lane.Lane.{Lane}
use Rattle.offset_network.specs.Lanes.{arcs_before, brings, lane_at, lane_start, start_flow}
use Rattle.sums_and_lists.specs.Sums.{sum_below, where_true}

-- what the flows of the first i lanes bring to a region at the start
unfoldable pub supply_of : List (Option Lane) → ℕ → ℕ → ℤ
supply_of lanes i v = sum_below i (λ j. brings (lane_at lanes j) v (start_flow (lane_at lanes j)))

-- the list has this number for each of n regions
pub record AreSupplies (n : ℕ) (lanes : List (Option Lane)) (i : ℕ) (supplies : List ℤ) : Type 0 where
  pub count : length supplies ≡ n
  pub values : (v : ℕ) → v < n → slice_index_or supplies v (pos 0) ≡ supply_of lanes i v
  pub even : supply_sum supplies ≡ pos 0
  pub sizes : supply_sizes supplies ≤ℤ pos (1966050 * i)
  pub small : (v : ℕ) → unsigned_abs (slice_index_or supplies v (pos 0)) ≤ 1966050 * i

-- arc a is the lane's, from its first region to the other, and its twin comes next; their residual capacities sum to what it can take both ways
pub record IsArcOf (shape : Shape) (state : State) (a : ℕ) (k : Lane) : Type 0 where
  pub below : a + 1 < shape.arcs
  pub head : shape.head a ≡ k.to
  pub tail : shape.head (a + 1) ≡ k.from
  pub twin : shape.twin a ≡ a + 1
  pub cost : shape.cost a ≡ neg_ℤ k.departure
  pub capacity : state.residual a + state.residual (a + 1) ≡ k.low + k.high

-- the network has a node for each region and the arcs of the first i lanes
pub record HasArcs (n : ℕ) (lanes : List (Option Lane)) (i : ℕ) (shape : Shape) (state : State) : Type 0 where
  pub nodes : shape.nodes ≡ n
  pub arcs : shape.arcs ≡ arcs_before lanes i
  pub are_arcs : (a : ℕ) → a < shape.arcs → IsArc shape a
  pub each : (j : ℕ) (k : Lane) → j < i → lane_at lanes j ≡ Some k → IsArcOf shape state (arcs_before lanes j) k

-- the flow on a lane: the most that it can be, minus the residual capacity of its arc
abbrev pub flow_left : Option Lane → ℕ → ℤ
flow_left None left = pos 0
flow_left (Some k) left = pos k.high -ℤ pos left

abbrev pub lane_flow : List (Option Lane) → State → ℕ → ℤ
lane_flow lanes state j = flow_left (lane_at lanes j) (state.residual (arcs_before lanes j))

-- nothing has flowed yet in the network of the first i lanes, and the flows at the start are counted as supplies
pub record IsStarted (n : ℕ) (lanes : List (Option Lane)) (i : ℕ) (shape : Shape) (state : State) : Type 0 where
  pub built : HasArcs n lanes i shape state
  pub flows : (j : ℕ) → j < i → lane_flow lanes state j ≡ start_flow (lane_at lanes j)
  pub excess : (v : ℕ) → v < n → state.excess v ≡ supply_of lanes (length lanes) v
  pub flat : (v : ℕ) → v < n → state.potential v ≡ pos 0
  pub costs : (a : ℕ) → a < shape.arcs → unsigned_abs (shape.cost a) ≤ (MAX_SEAM_DEPARTURE + 1)
  pub amount : total_amount shape state ≤ℤ pos (1966050 * (length lanes + i))

-- each region's excess is what the flows bring to it
abbrev pub HasFlows : ℕ → List (Option Lane) → State → Type 0
HasFlows n lanes state = (v : ℕ) → v < n → state.excess v ≡ sum_below (length lanes) (λ j. brings (lane_at lanes j) v (lane_flow lanes state j))

-- a network of all lanes without excess
pub record IsSolved (n : ℕ) (lanes : List (Option Lane)) (shape : Shape) (state : State) : Type 0 where
  pub built : HasArcs n lanes (length lanes) shape state
  pub flows : HasFlows n lanes state
  pub balanced : HasNoExcess shape state
  pub heights : LiesWithin shape state (MAX_SEAM_DEPARTURE + 1)
  pub reduced : HasReducedCosts shape state

-- the flows of the first i lanes
pub record AreFlows (lanes : List (Option Lane)) (state : State) (i : ℕ) (flows : List ℤ) : Type 0 where
  pub count : length flows ≡ i
  pub values : (j : ℕ) → j < i → slice_index_or flows j (pos 0) ≡ lane_flow lanes state j

-- how high a region lies: its offset at the start, and its node's potential
abbrev pub raised_height : List ℤ → State → ℕ → ℤ
raised_height start state v = slice_index_or start v (pos 0) +ℤ state.potential v

-- how high the first n regions lie, lowered by a number
pub record AreLowered (start : List ℤ) (state : State) (by : ℤ) (n : ℕ) (offsets : List ℤ) : Type 0 where
  pub count : length offsets ≡ n
  pub values : (v : ℕ) → v < n → slice_index_or offsets v (pos 0) ≡ raised_height start state v -ℤ by

-- a number was added at one place
pub record AddsAt (old new : List ℤ) (place : ℕ) (amount : ℤ) : Type 0 where
  pub same_length : length new ≡ length old
  pub added : (v : ℕ) → v < length old → slice_index_or new v (pos 0) ≡ slice_index_or old v (pos 0) +ℤ where_true (place == v) amount

-- a lane's flow at the start was counted
pub record IsSupplied (old new : List ℤ) (lane : Option Lane) : Type 0 where
  pub same_length : length new ≡ length old
  pub values : (v : ℕ) → v < length old → slice_index_or new v (pos 0) ≡ slice_index_or old v (pos 0) +ℤ brings lane v (start_flow lane)
  pub even : supply_sum new ≡ supply_sum old
  pub sizes : supply_sizes new ≤ℤ (supply_sizes old +ℤ pos 1966050)
  pub small : (m : ℕ) → ((v : ℕ) → unsigned_abs (slice_index_or old v (pos 0)) ≤ m) → (v : ℕ) → unsigned_abs (slice_index_or new v (pos 0)) ≤ m + 1966050

-- the network got the arc of a lane and its twin, whose residual capacities count the flow at the start
pub record AddsLaneArc (s z : Shape) (f g : State) (k : Lane) : Type 0 where
  pub forward : ℕ
  pub back : ℕ
  pub left : pos forward ≡ pos k.high -ℤ lane_start k
  pub pushed : pos back ≡ pos k.low +ℤ lane_start k
  pub arc : AddsArc s z f g k.from k.to (neg_ℤ k.departure) forward back

abbrev pub IsJoined : Shape → Shape → State → State → Option Lane → Type 0
IsJoined s z f g None = (z ≡ s) × (g ≡ f)
IsJoined s z f g (Some k) = AddsLaneArc s z f g k

-- what three numbers of a list that follow one another are in sum, and the first i of those sums
abbrev pub three_from : List ℤ → ℕ → ℤ
three_from parts j = slice_index_or parts (3 * j) (pos 0) +ℤ slice_index_or parts (3 * j + 1) (pos 0) +ℤ slice_index_or parts (3 * j + 2) (pos 0)

pub record AreSums (parts : List ℤ) (i : ℕ) (sums : List ℤ) : Type 0 where
  pub count : length sums ≡ i
  pub values : (j : ℕ) → j < i → slice_index_or sums j (pos 0) ≡ three_from parts j
