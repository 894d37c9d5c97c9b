use Rattle.std.proofs.Common.{◌∙◌, Err, ap, refl, subst, sym}
use Rattle.std.proofs.lemmas.Result.{err_from_is_err_and}
use Rattle.raster_model.specs.declared.session.Session.{Session}
use Rattle.trial_maker.specs.Trials.{AreTrialScripts}
use Rattle.insar_words.specs.declared.request.Request.TheVariants.{Trial}
use Rattle.insar_commands.specs.Run.{Run, run_beside}
use Rattle.answer_lines.specs.TrialLines.{four_lines}
use Rattle.insar_commands.proofs.AnswerLemmas.{put_ends}
use Rattle.insar_commands.proofs.TrialLemmas.{trial_again, trial_text, unmade_cause}
use Rattle.insar_commands.proofs.trial.run_trial.Goals as goal

pub summary_of-requires-clause-scripts : goal.summary_of-requires-clause-scripts
summary_of-requires-clause-scripts g c = subst (λ (x : Session). AreTrialScripts x.scripts.items) (sym c.in_ok-board.ensures.session) c.in_ok-session.ensures.made.scripts

pub returns-in_err-session : goal.returns-in_err-session
returns-in_err-session g c = λ told faults.
    let p = err_from_is_err_and c.from_residual.result c.from_residual.ensures.1 in
    let run : Run = run_beside told faults g.K.Sink.held g.K.Sink.faults c.args.sink.now c.args.sink.now in
    rw (p.1, p.2) ((refl, refl), unmade_cause c.args.trial run c.in_err-session.field-0.0 refl (λ e. c.make_session_on.ensures.size (c.in_err-session.was ∙ ap Err e)))

pub returns : goal.returns
returns g c = λ told faults.
    let t = c.args.trial in
    let b = c.in_ok-board.board in
    let scene = c.scene_of-scene.ensures in
    let s = c.summary_of.result in
    let made = trial_again t c.scene_of-scene.result b.session c.in_ok-session.session c.in_ok-board.ensures.session (scene.side, (scene.rule, scene.terms)) c.in_ok-session.ensures.made c.in_ok-session.ensures.settings in
    let text = trial_text t b.session s.pixels s.residues s.unmasked s.tile_cost made c.summary_of.ensures.pixels c.summary_of.ensures.residues c.summary_of.ensures.unmasked c.summary_of.ensures.cost in
    let run : Run = run_beside told faults g.K.Sink.held g.K.Sink.faults c.args.sink.now c.put_summary.new.sink in
    rw c.end_of.ensures ((refl, refl), put_ends (Trial t) run 0 (four_lines s.pixels s.residues s.unmasked s.tile_cost) ((refl, text), (refl, refl)) c.put_summary.result refl c.put_summary.ensures)
