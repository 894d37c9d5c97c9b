use Rattle.std.proofs.Common.{rules}
use Rattle.text_lines.proofs.AddLemmas.{puts_made}
use Rattle.answer_lines.proofs.refusals.put_refusal.Goals as goal

pub returns : goal.returns
returns g c = puts_made g.D.Sink.held g.D.Sink.faults c.finish.result (λ n. search (rules, n)) c.new-text.ensures c.add_refusal.ensures c.finish.ensures.adds c.finish.ensures.none c.finish.ensures.whole c.finish.ensures.cut
