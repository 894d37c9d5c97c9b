use Rattle.std.proofs.Common.{refl}
use Rattle.std.proofs.lemmas.Result.{err_from_is_err_and}
use Rattle.insar_words.specs.Requests.{options_of}
use Rattle.insar_words.specs.declared.request.Request.TheVariants.{Check}
use Rattle.report_check.specs.declared.verdict.CheckVerdict.TheVariants.{Accepted}
use Rattle.answer_lines.specs.VerdictLines.{verdict_line}
use Rattle.insar_commands.specs.Check.{IsJudged}
use Rattle.insar_commands.specs.Run.{Run, run_of}
use Rattle.insar_commands.proofs.AnswerLemmas.{put_ends, read_cause}
use Rattle.insar_commands.proofs.BothLemmas.{small_verdict, verdict_ready}
use Rattle.insar_commands.proofs.check.run_check.Goals as goal

pub returns-in_err-verdict : goal.returns-in_err-verdict
returns-in_err-verdict g c =
    let p = err_from_is_err_and c.from_residual.result c.from_residual.ensures.1 in
    let run : Run = run_of g.S.Source.left g.S.Source.faults c.args.source.now c.read_judged.new.source g.K.Sink.held g.K.Sink.faults c.args.sink.now c.args.sink.now in
    rw (p.1, p.2) (tt, read_cause (Check c.args.settings) run c.in_err-verdict.field-0.0 refl c.in_err-verdict.ensures.refused)

pub returns : goal.returns
returns g c =
    let verdict = c.in_ok-verdict.verdict in
    let run : Run = run_of g.S.Source.left g.S.Source.faults c.args.source.now c.read_judged.new.source g.K.Sink.held g.K.Sink.faults c.args.sink.now c.put_verdict.new.sink in
    let ready = verdict_ready Accepted verdict_line (IsJudged (options_of c.args.settings)) run.told run.left verdict c.status_of.result c.status_of.ensures c.in_ok-verdict.ensures.read in
    rw c.end_of.ensures (tt, put_ends (Check c.args.settings) run c.status_of.result (verdict_line verdict) ready c.put_verdict.result (small_verdict Accepted verdict_line verdict c.status_of.result c.status_of.ensures) c.put_verdict.ensures)
