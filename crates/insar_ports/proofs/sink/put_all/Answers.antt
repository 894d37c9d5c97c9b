use Rattle.std.proofs.Common.{arith, ◌∙◌, ℕ, length-drop, length-take}
use Rattle.insar_ports.proofs.CallerLemmas.{with_end-take}
use Rattle.insar_ports.proofs.sink.put_all.Goals as goal

pub loop-done-preserved : goal.loop-done-preserved
loop-done-preserved g c = record {
  within = omega (arith, c.in-Ok.ensures.within, length-drop {A = ℕ}, length-take {A = ℕ});
  gained = c.in-Ok.ensures.gained ∙ with_end-take c.loop-done.done c.in-Ok.count c.args.piece.now (g.K.Sink.held c.args.sink.now) (g.K.Sink.held c.loop-done.sink) c.loop-done.invariant.gained;
  grows = omega (arith, c.loop-done.invariant.grows, c.in-Ok.ensures.grows);
}
