use Rattle.std.proofs.Common.{rules}
use Rattle.text_lines.proofs.AddLemmas.{puts_made}
use Rattle.grid_writer.proofs.grid.write_grid.Goals as goal

pub returns : goal.returns
returns g c = record {
  put = puts_made g.K.Sink.held g.K.Sink.faults c.finish.result (λ n. search (rules, n)) c.new-text.ensures c.add_grid.ensures.added c.finish.ensures.adds c.finish.ensures.none c.finish.ensures.whole c.finish.ensures.cut;
  ranges = c.add_grid.ensures.ranges;
}
