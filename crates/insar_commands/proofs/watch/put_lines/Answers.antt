use Rattle.std.proofs.Common.{refl, rules}
use Rattle.text_lines.proofs.AddLemmas.{puts_made}
use Rattle.text_lines.proofs.ChainLemmas.{adds_two}
use Rattle.answer_lines.specs.WatchLines.{watch_text}
use Rattle.insar_commands.proofs.watch.put_lines.Goals as goal

pub returns : goal.returns
unfolding watch_text
returns g c = puts_made g.K.Sink.held g.K.Sink.faults c.finish.result (λ n. search (rules, n)) c.new-text.ensures (adds_two c.add_published.ensures c.add_readers.ensures refl) c.finish.ensures.adds c.finish.ensures.none c.finish.ensures.whole c.finish.ensures.cut
