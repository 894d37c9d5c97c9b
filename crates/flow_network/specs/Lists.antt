-- A network that is kept in lists: arcs 2k and 2k + 1 are twins.
use Rattle.std.specs.Prelude.{◌≡◌, ◌<◌, ◌≤◌, ◌+◌, ◌-◌, ◌*◌, ◌/◌, ◌%◌, ℕ, ℤ, pos, neg_ℤ, ◌-ℤ◌, ◌+ℤ◌, ◌≤ℤ◌, ◌==◌, nat_lt, if◌then◌else◌, List, length, get_or, Option, None, unsigned_abs}
use Rattle.flow_network.specs.Nets.{Shape, State, IsNextBelow, tail_of}
use Rattle.flow_network.specs.Moves.{residual_out}
use Rattle.flow_network.specs.Growing.{total_residual}
use Rattle.flow_network.specs.declared.limits.TheConstants.{MAX_AMOUNT, MAX_ARC_COST, MAX_POTENTIAL}

abbrev pub other : ℕ → ℕ
other arc = if arc % 2 == 0 then arc + 1 else arc - 1

-- the cost of arc a, where `costs` has that of each even arc
abbrev pub signed_cost : List ℤ → ℕ → ℤ
signed_cost costs arc = if arc % 2 == 0 then get_or costs (arc / 2) (pos 0) else neg_ℤ (get_or costs (arc / 2) (pos 0))

abbrev pub shape_in : ℕ → List ℕ → List ℤ → Shape
shape_in nodes heads costs = record { nodes = nodes; arcs = length heads; is_arc = λ a. nat_lt a (length heads); head = λ a. get_or heads a 0; twin = other; cost = signed_cost costs }

abbrev pub state_in : List ℕ → List ℤ → List ℤ → State
state_in residuals excesses potentials = record { residual = λ a. get_or residuals a 0; excess = λ v. get_or excesses v (pos 0); potential = λ v. get_or potentials v (pos 0) }

-- the lists have one place for each arc, for each pair of arcs, or for each node
pub record FitTogether (heads residuals : List ℕ) (next : List (Option ℕ)) (costs : List ℤ) (first : List (Option ℕ)) (excesses potentials : List ℤ) : Type 0 where
  pub by_arc : length residuals ≡ length heads
  pub by_next : length next ≡ length heads
  pub by_pair : 2 * length costs ≡ length heads
  pub by_node : length first ≡ length excesses
  pub by_height : length potentials ≡ length excesses

-- the lists of arcs out of each node
pub record AreLinked (shape : Shape) (first next : List (Option ℕ)) : Type 0 where
  pub starts : (v : ℕ) → v < shape.nodes → IsNextBelow shape v shape.arcs (get_or first v None)
  pub goes_on : (a : ℕ) → a < shape.arcs → IsNextBelow shape (tail_of shape a) a (get_or next a None)

-- no push can leave the numbers' ranges
pub record HasRoom (shape : Shape) (state : State) : Type 0 where
  pub total : total_residual shape state ≤ℤ pos MAX_AMOUNT
  pub above : (v : ℕ) → v < shape.nodes → ((state.excess v -ℤ residual_out shape state v) +ℤ total_residual shape state) ≤ℤ pos MAX_AMOUNT
  pub beneath : (v : ℕ) → v < shape.nodes → neg_ℤ (pos MAX_AMOUNT) ≤ℤ (state.excess v -ℤ residual_out shape state v)
  pub costs : (a : ℕ) → a < shape.arcs → unsigned_abs (shape.cost a) ≤ MAX_ARC_COST
  pub potentials : (v : ℕ) → v < shape.nodes → unsigned_abs (state.potential v) ≤ MAX_POTENTIAL
