-- What a push and a raise change, and what neither changes.
use Rattle.std.specs.Prelude.{◌≡◌, ◌<◌, ◌≤◌, ◌+◌, ℕ, ℤ, pos, ◌+ℤ◌, ◌-ℤ◌, ◌≤ℤ◌, unsigned_abs, ◌&&◌, ◌==◌, if◌then◌else◌, List, get_or}
use Rattle.flow_network.specs.declared.limits.TheConstants.{MAX_POTENTIAL}
use Rattle.flow_network.specs.Nets.{Shape, State, IsArc, reduced_cost, tail_of}
use Rattle.sums_and_lists.specs.Sums.{sum_below, where_true}

-- An amount moved along arc a: from its residual to its twin's, and from the excess of its tail to that of its head.
pub record IsPushed (s : Shape) (arc amount : ℕ) (f g : State) : Type 0 where
  pub residual : (b : ℕ) → IsArc s b → g.residual b + (if b == arc then amount else 0) ≡ f.residual b + (if b == s.twin arc then amount else 0)
  pub excess : (v : ℕ) → v < s.nodes → g.excess v ≡ f.excess v -ℤ where_true (v == tail_of s arc) (pos amount) +ℤ where_true (v == s.head arc) (pos amount)
  pub potential : (v : ℕ) → v < s.nodes → g.potential v ≡ f.potential v

-- the reduced cost of arc a after a raise by these amounts
abbrev pub raised_cost : Shape → State → List ℤ → ℕ → ℤ
raised_cost s state amounts arc = (reduced_cost s state arc +ℤ get_or amounts (tail_of s arc) (pos 0)) -ℤ get_or amounts (s.head arc) (pos 0)

-- After such a raise an arc with capacity left has a reduced cost of at least 0.
abbrev pub MayRaise : Shape → State → List ℤ → Type 0
MayRaise s state amounts = (arc : ℕ) → IsArc s arc → 0 < state.residual arc → pos 0 ≤ℤ raised_cost s state amounts arc

-- After such a raise each potential is in its range.
abbrev pub StaysInRange : Shape → State → List ℤ → Type 0
StaysInRange s state amounts = (node : ℕ) → node < s.nodes → unsigned_abs (state.potential node +ℤ get_or amounts node (pos 0)) ≤ MAX_POTENTIAL

-- Each node's potential rose by its amount.
pub record IsRaised (s : Shape) (amounts : List ℤ) (f g : State) : Type 0 where
  pub residual : (b : ℕ) → IsArc s b → g.residual b ≡ f.residual b
  pub excess : (v : ℕ) → v < s.nodes → g.excess v ≡ f.excess v
  pub potential : (v : ℕ) → v < s.nodes → g.potential v ≡ f.potential v +ℤ get_or amounts v (pos 0)

-- an arc's residual, where it starts at v
abbrev pub out_term : Shape → State → ℕ → ℕ → ℤ
out_term s state node arc = where_true (s.is_arc arc && (tail_of s arc == node)) (pos (state.residual arc))

-- the residuals of the arcs that start at v, in sum
abbrev pub residual_out : Shape → State → ℕ → ℤ
residual_out s state node = sum_below s.arcs (out_term s state node)

-- Flow is neither made nor lost: an arc and its twin have the same residual in sum, and a node the same excess less what can leave it.
pub record IsConserved (s : Shape) (f g : State) : Type 0 where
  pub pairs : (a : ℕ) → IsArc s a → g.residual a + g.residual (s.twin a) ≡ f.residual a + f.residual (s.twin a)
  pub nodes : (v : ℕ) → v < s.nodes → g.excess v -ℤ residual_out s g v ≡ f.excess v -ℤ residual_out s f v

-- What no push and no raise changes: nodes, arcs, ends, twins and costs, and that flow is neither made nor lost.
pub record KeepsNetwork (s z : Shape) (f g : State) : Type 0 where
  pub shape : z ≡ s
  pub conserved : IsConserved s f g
