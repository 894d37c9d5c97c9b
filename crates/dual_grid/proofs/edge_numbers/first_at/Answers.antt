use Rattle.std.proofs.Common.{◌≡◌, ◌+◌, ◌-◌, ◌∙◌, ap, sym, arith}
use Rattle.dual_grid.specs.Nodes.{edge_of, first_side, rights_of}
use Rattle.dual_grid.proofs.NumberLemmas.{right_first_in, right_first_out}
use Rattle.dual_grid.proofs.edge_numbers.first_at.Goals as goal

pub returns-then-edge-rights : goal.returns-then-edge-rights
returns-then-edge-rights c = c.outside.ensures ∙ sym (right_first_out c.args.window c.args.edge (omega arith) (omega arith))

pub returns-then-edge-rights-2 : goal.returns-then-edge-rights-2
returns-then-edge-rights-2 c = sym (right_first_in c.args.window c.args.edge (omega arith) (omega arith))

pub returns-else-edge-rights-2 : goal.returns-else-edge-rights-2
returns-else-edge-rights-2 c =
    let e : rights_of c.args.window + (c.args.edge - c.right_count-rights.result) ≡ c.args.edge = omega arith in
    c.down_first.ensures ∙ ap (λ (n : _). first_side c.args.window (edge_of c.args.window n)) e
