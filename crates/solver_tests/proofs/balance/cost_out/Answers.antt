use Rattle.std.proofs.Common.{◌<◌, ℕ, sym, subst}
use Rattle.std.specs.Prelude.{Option}
use Rattle.flow_network.specs.Nets.{tail_of}
use Rattle.shortest_augment.proofs.Sweeps.{met_from, met_falls}
use Rattle.solver_tests.proofs.balance.cost_out.Goals as goal

pub loop-next-smaller : goal.loop-next-smaller
loop-next-smaller g c =
    let s = g.N.FlowNet.shape c.args.net.now in
    subst (λ (o : Option ℕ). met_from c.next_out-next.result < met_from o) (sym c.in-Some.is) (met_falls s (tail_of s c.in-Some.arc) c.in-Some.arc c.next_out-next.result c.next_out-next.ensures)
