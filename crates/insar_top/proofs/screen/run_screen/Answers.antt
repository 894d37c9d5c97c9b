use Rattle.std.proofs.Common.{ℕ, refl, subst}
use Rattle.std.proofs.lemmas.Result.{err_from_is_err_and}
use Rattle.auto_masks.specs.declared.terms.ScreenTerms.{ScreenTerms}
use Rattle.session_script.specs.Sessions.{session_of}
use Rattle.session_script.specs.Text.{session_text}
use Rattle.insar_words.specs.declared.request.Request.TheVariants.{Screen}
use Rattle.insar_commands.specs.Run.{Run, run_of}
use Rattle.insar_commands.specs.Causes.{HasReadCause}
use Rattle.insar_commands.specs.Screen.{HasScreenedMask}
use Rattle.insar_commands.specs.Unwrap.{BreaksAlone}
use Rattle.insar_commands.proofs.AnswerLemmas.{put_ends, read_cause}
use Rattle.insar_top.proofs.ScreenLemmas.{screen_ready}
use Rattle.insar_top.proofs.screen.run_screen.Goals as goal

pub returns-in_err-session : goal.returns-in_err-session
returns-in_err-session g c =
    let p = err_from_is_err_and c.from_residual.result c.from_residual.ensures.1 in
    let run : Run = run_of g.S.Source.left g.S.Source.faults c.args.source.now c.read_given.new.source g.K.Sink.held g.K.Sink.faults c.args.sink.now c.args.sink.now in
    let fault = c.in_err-session.field-0.0 in
    rw (p.1, p.2) (tt, read_cause (Screen c.args.screening) run fault refl (subst (λ (side : ℕ). HasReadCause (BreaksAlone side) run.told run.source_before run.source_after fault) c.settings_of.ensures c.in_err-session.ensures.refused))

pub returns : goal.returns
returns g c =
    let session = c.in_ok-session.session in
    let screened = c.in_ok-screened.screened in
    let run : Run = run_of g.S.Source.left g.S.Source.faults c.args.source.now c.read_given.new.source g.K.Sink.held g.K.Sink.faults c.args.sink.now c.write_session.new.sink in
    let changed = subst (λ (t : ScreenTerms). HasScreenedMask t session screened) c.terms_of.ensures.terms c.in_ok-screened.ensures in
    let puts = c.write_session.ensures in
    rw c.end_of.ensures (tt, put_ends (Screen c.args.screening) run 0 (session_text (session_of screened)) (screen_ready c.args.screening c.settings_of.result run session screened c.settings_of.ensures c.in_ok-session.ensures.given changed) c.write_session.result refl (record { written = puts.written; cut = puts.cut; fault = puts.fault; grows = puts.grows }))
