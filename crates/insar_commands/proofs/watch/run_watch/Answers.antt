use Rattle.std.proofs.Common.{ℕ, List, refl}
use Rattle.std.proofs.lemmas.Result.{err_from_is_err_and}
use Rattle.answer_lines.specs.WatchLines.{watch_text}
use Rattle.insar_words.specs.declared.request.Request.TheVariants.{Watch}
use Rattle.insar_commands.specs.Run.{Run, run_of}
use Rattle.insar_commands.specs.Watch.{all_seen}
use Rattle.insar_commands.proofs.AnswerLemmas.{put_ends, read_cause}
use Rattle.insar_commands.proofs.WatchLemmas.{few_watchers, same_watch, watch_ready}
use Rattle.insar_commands.proofs.watch.run_watch.Goals as goal

pub returns-in_err-session : goal.returns-in_err-session
returns-in_err-session g c =
    let p = err_from_is_err_and c.from_residual.result c.from_residual.ensures.1 in
    let run : Run = run_of g.S.Source.left g.S.Source.faults c.args.source.now c.read_given.new.source g.K.Sink.held g.K.Sink.faults c.args.sink.now c.args.sink.now in
    rw (p.1, p.2) (tt, read_cause (Watch c.args.watching) run c.in_err-session.field-0.0 refl c.in_err-session.ensures.refused)

pub put_lines-requires : goal.put_lines-requires
put_lines-requires g c =
    let session = c.in_ok-session.session in
    let made = c.in_ok-published in
    let told = same_watch session c.args.watching.readers made.published.items c.deref.result.now made.watchers.items c.deref-2.result.now c.deref.ensures.value c.deref-2.ensures.value made.ensures in
    few_watchers session c.args.watching.readers c.deref.result.now c.deref-2.result.now told c.args.watching.crowd.1

pub returns : goal.returns
returns g c =
    let session = c.in_ok-session.session in
    let made = c.in_ok-published in
    let published : List ℕ = c.deref.result.now in
    let seen : List (List ℕ) = all_seen published c.deref-2.result.now in
    let told = same_watch session c.args.watching.readers made.published.items published made.watchers.items c.deref-2.result.now c.deref.ensures.value c.deref-2.ensures.value made.ensures in
    let run : Run = run_of g.S.Source.left g.S.Source.faults c.args.source.now c.read_given.new.source g.K.Sink.held g.K.Sink.faults c.args.sink.now c.put_lines.new.sink in
    let ready = watch_ready c.args.watching run session published seen c.in_ok-session.ensures.given told in
    rw c.end_of.ensures (tt, put_ends (Watch c.args.watching) run 0 (watch_text published seen) ready c.put_lines.result refl c.put_lines.ensures)
