use Rattle.std.proofs.Common.{rules}
use Rattle.text_lines.proofs.AddLemmas.{adds_then, puts_made}
use Rattle.loop_closure.proofs.text.write_loops.Goals as goal

pub returns : goal.returns
returns g c =
    puts_made g.K.Sink.held g.K.Sink.faults c.finish.result (λ n. search (rules, n)) c.new-text.ensures (adds_then c.add_counts.ensures (adds_then c.add_patches.ensures (adds_then c.add_values.ensures.added c.add_values-2.ensures.added))) c.finish.ensures.adds c.finish.ensures.none c.finish.ensures.whole c.finish.ensures.cut
