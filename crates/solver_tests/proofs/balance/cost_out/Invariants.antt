use Rattle.std.proofs.Common.{ℕ, ◌≡◌}
use Rattle.std.specs.Prelude.{Some}
use Rattle.flow_network.specs.Nets.{IsArc}
use Rattle.shortest_augment.proofs.Sweeps.{met_from}
use Rattle.solver_tests.proofs.balance.cost_out.Given as goal

abbrev pub invariant-loop-next : goal.invariant-loop-next
invariant-loop-next g l = (a : ℕ) → l.next ≡ Some a → IsArc (g.N.FlowNet.shape l.net) a

abbrev pub decreases-loop-next : goal.decreases-loop-next
decreases-loop-next g l = met_from l.next
