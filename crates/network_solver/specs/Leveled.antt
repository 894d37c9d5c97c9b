-- A network seen from potentials that were reached: potentials count from those, and each arc costs what its reduced cost was. Reduced costs stay what they are.
use Rattle.std.specs.Prelude.{ℕ, ℤ, ◌+ℤ◌, ◌-ℤ◌}
use Rattle.flow_network.specs.Nets.{Shape, State, tail_of}

-- where the nodes have reached the potentials `base`
abbrev pub leveled_shape : Shape → (ℕ → ℤ) → Shape
leveled_shape shape base = record {
  nodes = shape.nodes;
  arcs = shape.arcs;
  is_arc = shape.is_arc;
  head = shape.head;
  twin = shape.twin;
  cost = λ a. shape.cost a +ℤ base (tail_of shape a) -ℤ base (shape.head a);
}

abbrev pub leveled_state : State → (ℕ → ℤ) → State
leveled_state state base = record { residual = state.residual; excess = state.excess; potential = λ u. state.potential u -ℤ base u }
