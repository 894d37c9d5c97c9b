-- Flow networks: their arcs, what flows, and the fact that each network keeps.
use Rattle.std.specs.Prelude.{◌≡◌, ◌<◌, ◌≤◌, ◌+◌, ℕ, ℤ, pos, negsuc, neg_ℤ, ◌+ℤ◌, ◌-ℤ◌, ◌≤ℤ◌, Bool, IsTrue, Option, Some, None}
use Rattle.sums_and_lists.specs.Sums.{sum_below}

-- What no push and no raise changes. Nodes are the numbers below `nodes`; an arc's number is below `arcs`.
pub record Shape : Type 0 where
  pub nodes : ℕ
  pub arcs : ℕ
  pub is_arc : ℕ → Bool
  pub head : ℕ → ℕ
  pub twin : ℕ → ℕ
  pub cost : ℕ → ℤ

abbrev pub IsArc : Shape → ℕ → Type 0
IsArc shape arc = IsTrue (shape.is_arc arc)

-- an arc starts where its twin ends
abbrev pub tail_of : Shape → ℕ → ℕ
tail_of shape arc = shape.head (shape.twin arc)

-- What pushes and raises change.
pub record State : Type 0 where
  pub residual : ℕ → ℕ
  pub excess : ℕ → ℤ
  pub potential : ℕ → ℤ

-- The shape is one of a network.
pub record IsNetwork (shape : Shape) : Type 0 where
  pub below : (a : ℕ) → IsArc shape a → a < shape.arcs
  pub ends : (a : ℕ) → IsArc shape a → shape.head a < shape.nodes
  pub has_twin : (a : ℕ) → IsArc shape a → IsArc shape (shape.twin a)
  pub back : (a : ℕ) → IsArc shape a → shape.twin (shape.twin a) ≡ a
  pub apart : (a : ℕ) → IsArc shape a → shape.twin a ≡ a → ⊥
  pub negated : (a : ℕ) → IsArc shape a → shape.cost (shape.twin a) ≡ neg_ℤ (shape.cost a)

abbrev pub reduced_cost : Shape → State → ℕ → ℤ
reduced_cost shape state arc = shape.cost arc +ℤ state.potential (tail_of shape arc) -ℤ state.potential (shape.head arc)

-- The kept fact: an arc with capacity left has reduced cost at least 0, and the excesses sum to 0.
pub record HasReducedCosts (shape : Shape) (state : State) : Type 0 where
  pub at_least : (a : ℕ) → IsArc shape a → 0 < state.residual a → pos 0 ≤ℤ reduced_cost shape state a
  pub even : sum_below shape.nodes state.excess ≡ pos 0

-- no node has an excess or a deficit
abbrev pub HasNoExcess : Shape → State → Type 0
HasNoExcess shape state = (node : ℕ) → node < shape.nodes → state.excess node ≡ pos 0

-- the number, or 0 if it is below 0
abbrev pub positive_part : ℤ → ℤ
positive_part (pos n) = pos n
positive_part (negsuc n) = pos 0

-- the sum of the positive excesses
abbrev pub total_excess : Shape → State → ℤ
total_excess shape state = sum_below shape.nodes (λ v. positive_part (state.excess v))

-- Arcs out of a node are met from the greatest number down.
-- No arc that starts at v has a number from `low` on and below `high`.
abbrev pub NoneBetween : Shape → ℕ → ℕ → ℕ → Type 0
NoneBetween shape node low high = (b : ℕ) → IsArc shape b → tail_of shape b ≡ node → low ≤ b → b < high → ⊥

-- a is the arc of the greatest number below `high` that starts at v
abbrev pub IsGreatest : Shape → ℕ → ℕ → ℕ → Type 0
IsGreatest shape node high arc = IsArc shape arc × (tail_of shape arc ≡ node) × (arc < high) × NoneBetween shape node (arc + 1) high

-- o is that arc, and None where there is none
pub record IsNextBelow (shape : Shape) (node high : ℕ) (o : Option ℕ) : Type 0 where
  pub found : (a : ℕ) → o ≡ Some a → IsGreatest shape node high a
  pub ended : o ≡ None → NoneBetween shape node 0 high
