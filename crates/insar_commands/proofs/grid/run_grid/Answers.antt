use Rattle.std.proofs.Common.{refl, subst, sym}
use Rattle.std.proofs.lemmas.Result.{err_from_is_err_and}
use Rattle.report_text.specs.Reports.{report_of}
use Rattle.text_parts.specs.Terms.{terms_of}
use Rattle.report_text.proofs.TermsLemmas.{version_is}
use Rattle.raster_model.specs.declared.session.Session.{Session}
use Rattle.insar_words.specs.Requests.{options_of}
use Rattle.insar_words.specs.declared.request.Request.TheVariants.{Grid}
use Rattle.insar_commands.specs.Grid.{last_grid}
use Rattle.insar_commands.specs.Run.{ReadsAll, Run, run_of}
use Rattle.insar_commands.specs.Unwrap.{IsGiven}
use Rattle.insar_commands.proofs.AnswerLemmas.{put_ends, read_cause}
use Rattle.insar_commands.proofs.UnwrapLemmas.{grid_ready, is_report}
use Rattle.insar_commands.proofs.grid.run_grid.Goals as goal

pub returns-in_err-session : goal.returns-in_err-session
returns-in_err-session g c =
    let p = err_from_is_err_and c.from_residual.result c.from_residual.ensures.1 in
    let run : Run = run_of g.S.Source.left g.S.Source.faults c.args.source.now c.read_given.new.source g.K.Sink.held g.K.Sink.faults c.args.sink.now c.args.sink.now in
    rw (p.1, p.2) (tt, read_cause (Grid c.args.settings) run c.in_err-session.field-0.0 refl c.in_err-session.ensures.refused)

pub returns : goal.returns
returns g c =
    let b = c.in_ok-board.board in
    let told = g.S.Source.left c.args.source.now in
    let left = g.S.Source.left c.read_given.new.source in
    let given = subst (λ (s : Session). ReadsAll told left (λ bytes. IsGiven (options_of c.args.settings) bytes s)) (sym c.in_ok-board.ensures.session) c.in_ok-session.ensures.given in
    let run : Run = run_of g.S.Source.left g.S.Source.faults c.args.source.now c.read_given.new.source g.K.Sink.held g.K.Sink.faults c.args.sink.now c.write_last_grid.new.sink in
    let ready = grid_ready c.args.settings run b.session (report_of b.session b.entries b.surfaces) given (is_report b (c.write_last_grid.ensures.certified c.in_ok-board.ensures.complete) (version_is (terms_of b.session.scene.terms))) c.write_last_grid.ensures.ranges in
    rw c.end_of.ensures (tt, put_ends (Grid c.args.settings) run 0 (last_grid (report_of b.session b.entries b.surfaces)) ready c.write_last_grid.result refl c.write_last_grid.ensures.put)
