use Rattle.std.proofs.Common.{◌≡◌, ℕ, Result, Err, ap, refl}
use Rattle.insar_ports.specs.Bytes.{HasRisen, with_end}
use Rattle.insar_commands.specs.Ends.{IsProgramEnd, line_of_end}
use Rattle.insar_commands.specs.Ends.IsProgramEnd.{not_read, done}
use Rattle.insar_commands.specs.Run.{run_of}
use Rattle.answer_lines.specs.declared.refusal.Refusal.{Refusal}
use Rattle.insar_top.proofs.EndClauses as end
use Rattle.insar_top.proofs.top.insar.Goals as goal
use Rattle.insar_top.proofs.top.insar.Goals.{in-Ok, in-Err}

pub returns : goal.returns
returns g c =
    let joined = c.match-read_words in
    let run = run_of g.S.Source.left g.S.Source.faults c.args.source.now joined.source g.K.Sink.held g.K.Sink.faults c.args.sink.now joined.sink in
    let ended : IsProgramEnd c.args.words.now run joined.ended = elim joined.branch [
      | in-Ok w ↦ rw (w.source-is, w.sink-is, w.ended-is) (done w.in-Ok.request w.in-Ok.ensures.asked w.do_request-ended.ensures)
      | in-Err w ↦ rw (w.source-is, w.sink-is, w.ended-is) (not_read w.in-Err.fault w.in-Err.ensures.refused (refl, refl) refl (ap Err w.from.ensures))
    ] in
    let diag = c.status_told in
    rw diag.ensures.status (record {
      status = end.status ended;
      headline = end.headline_clause ended;
      least = end.least_clause ended;
      watched = end.watched_clause ended;
      done = end.done_clause ended;
      refused = λ asked asks. end.refused_clause ended asked asks (λ (d : Result ℕ Refusal). (HasRisen (g.D.Sink.faults c.args.diag.now) (g.D.Sink.faults diag.new.diag) → ⊥) → g.D.Sink.held diag.new.diag ≡ with_end (g.D.Sink.held c.args.diag.now) (line_of_end d)) diag.ensures.told;
      cut = end.cut_clause ended;
      taken = end.taken_clause ended;
      complete = end.complete_clause ended;
      alone = end.alone_clause ended;
      judged = end.judged_clause ended;
      judged_whole = end.judged_whole_clause ended;
      words_refused = end.words_refused ended;
      unread = end.unread ended;
      words_taken = end.words_taken ended;
      refused_unread = end.refused_unread ended;
      named = end.named ended;
      read_fault = end.read_fault ended;
      write_fault = end.write_fault ended;
      untouched = end.untouched ended;
      told = λ good. (line_of_end joined.ended, (end.line ended, diag.ensures.told good));
    })
