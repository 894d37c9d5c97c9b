use Rattle.std.proofs.Common.{◌≡◌, ◌+◌, ◌-◌, ◌∙◌, ap, sym, arith}
use Rattle.dual_grid.specs.Nodes.{edge_of, other_side, rights_of}
use Rattle.dual_grid.proofs.NumberLemmas.{rights_are, right_other_in, right_other_out}
use Rattle.dual_grid.proofs.edge_numbers.other_at.Goals as goal

pub returns-then-edge-outside : goal.returns-then-edge-outside
returns-then-edge-outside c = sym (right_other_in c.args.window c.args.edge (omega (arith, rights_are c.args.window)) (omega arith))

pub returns-then-edge-rights : goal.returns-then-edge-rights
returns-then-edge-rights c = c.outside-outside.ensures ∙ sym (right_other_out c.args.window c.args.edge (omega arith) (omega arith))

pub returns-else-edge-rights : goal.returns-else-edge-rights
returns-else-edge-rights c =
    let e : rights_of c.args.window + (c.args.edge - c.right_count-rights.result) ≡ c.args.edge = omega arith in
    c.down_other.ensures ∙ ap (λ (n : _). other_side c.args.window (edge_of c.args.window n)) e
