-- What the kept facts are for: they stay over pushes and raises, and once no excess is left they say that no flow costs less.
use Rattle.std.specs.Prelude.{◌≡◌, ℕ, ℤ, pos, ◌-ℤ◌, ◌*ℤ◌, ◌≤ℤ◌, List}
use Rattle.flow_network.specs.Nets.{Shape, State, HasNoExcess, IsArc, IsNetwork, HasReducedCosts, reduced_cost}
use Rattle.flow_network.specs.Moves.{IsPushed, IsRaised, MayRaise, IsConserved}
use Rattle.sums_and_lists.specs.Sums.{sum_below, where_true}

-- After a push along an arc of reduced cost 0 the kept facts hold, and flow was neither made nor lost.
abbrev pub PushKeepsNetwork : Type 0
PushKeepsNetwork = (shape : Shape) (arc amount : ℕ) (f g : State) → IsNetwork shape → HasReducedCosts shape f → IsArc shape arc → reduced_cost shape f arc ≡ pos 0 → IsPushed shape arc amount f g → HasReducedCosts shape g × IsConserved shape f g

-- So after a raise that leaves no arc with capacity left below a reduced cost of 0.
abbrev pub RaiseKeepsNetwork : Type 0
RaiseKeepsNetwork = (shape : Shape) (amounts : List ℤ) (f g : State) → IsNetwork shape → HasReducedCosts shape f → MayRaise shape f amounts → IsRaised shape amounts f g → HasReducedCosts shape g × IsConserved shape f g

-- what it would cost to fill all arcs
abbrev pub residual_cost : Shape → State → ℤ
residual_cost shape state = sum_below shape.arcs (λ a. where_true (shape.is_arc a) (pos (state.residual a) *ℤ shape.cost a))

-- Twice the cost of what flows from e to f: a unit along an arc is missing from its residual, and is more at its twin, of the negated cost.
abbrev pub doubled_cost : Shape → State → State → ℤ
doubled_cost shape e f = residual_cost shape e -ℤ residual_cost shape f

-- Of all flows from the state e that leave no excess, one with the kept facts costs least. The others may be any: a
-- residual is at least 0, so each keeps the capacities.
abbrev pub BalancedIsLeast : Type 0
BalancedIsLeast = (shape : Shape) (e f g : State) → IsNetwork shape → HasReducedCosts shape f → IsConserved shape e f → HasNoExcess shape f → IsConserved shape e g → HasNoExcess shape g → doubled_cost shape e f ≤ℤ doubled_cost shape e g
