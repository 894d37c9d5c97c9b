use Rattle.flow_network.specs.Views.{shape_of, state_of}
use Rattle.solver_tests.proofs.TestLemmas.{IsBuilt}
use Rattle.solver_tests.proofs.balance.build.Given as goal

abbrev pub invariant-loop-index : goal.invariant-loop-index
invariant-loop-index l = IsBuilt (shape_of l.net) (state_of l.net) l.index l.used
