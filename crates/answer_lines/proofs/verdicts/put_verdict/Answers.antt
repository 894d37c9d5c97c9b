use Rattle.std.proofs.Common.{rules}
use Rattle.text_lines.proofs.AddLemmas.{puts_made}
use Rattle.answer_lines.proofs.verdicts.put_verdict.Goals as goal

pub returns : goal.returns
returns g c = puts_made g.K.Sink.held g.K.Sink.faults c.finish.result (λ n. search (rules, n)) c.new-text.ensures c.add_line.ensures c.finish.ensures.adds c.finish.ensures.none c.finish.ensures.whole c.finish.ensures.cut
