use Rattle.std.proofs.Common.{rules}
use Rattle.text_lines.proofs.AddLemmas.{puts_made}
use Rattle.session_script.proofs.write.write_session.Goals as goal

pub returns : goal.returns
returns g c =
    let p = puts_made g.K.Sink.held g.K.Sink.faults c.finish.result (λ n. search (rules, n)) c.new-text.ensures c.add_session.ensures c.finish.ensures.adds c.finish.ensures.none c.finish.ensures.whole c.finish.ensures.cut in
    record { written = p.written; cut = p.cut; fault = p.fault; grows = p.grows }
