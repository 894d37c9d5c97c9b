use Rattle.std.proofs.Common.{refl, rules}
use Rattle.std.proofs.lemmas.Result.{err_from_is_err_and}
use Rattle.insar_ports.specs.Calls.{Call, call_of}
use Rattle.insar_ports.specs.Feeding.{pending_of}
use Rattle.insar_words.specs.Requests.{options_of}
use Rattle.session_script.specs.declared.session_use.SessionUse.TheVariants.{Alone}
use Rattle.session_script.specs.Layouts.{in_tiles}
use Rattle.session_script.specs.Sessions.{session_of}
use Rattle.answer_lines.specs.Refusals.{session_refusal}
use Rattle.insar_commands.specs.Causes.{HasReadCause}
use Rattle.insar_commands.specs.Run.{ReadsAll}
use Rattle.insar_commands.specs.Unwrap.{BreaksAlone, IsGiven}
use Rattle.insar_commands.proofs.SessionLemmas.{given_alone, read_alone, session_cause}
use Rattle.insar_commands.proofs.session.read_given.Goals as goal

pub returns-in_err-session-clause-refused : goal.returns-in_err-session-clause-refused
returns-in_err-session-clause-refused g c =
    let p = err_from_is_err_and c.from_residual-in_err-session.result c.from_residual-in_err-session.ensures.1 in
    let feed = c.read_session_side_by_side.new.feed in
    let made = c.in_ok-feed.ensures in
    let side = c.scene_of-scene.result.side in
    let a : Call = call_of g.S.Source.left g.S.Source.faults c.in_ok-feed.feed feed in
    let fault = c.in_err-session.field-0.0 in
    let cause : HasReadCause (BreaksAlone side) a.told a.before a.after (session_refusal fault) = session_cause Alone (in_tiles side) (BreaksAlone side) (λ bytes fault h. h) a fault c.in_err-session.ensures.outcome.refused in
    let refused : HasReadCause (BreaksAlone c.args.settings.side) (g.S.Source.left c.args.source.now) (g.S.Source.faults c.args.source.now) (g.S.Source.faults feed.source.now) (session_refusal fault) = rw (← c.scene_of-scene.ensures.side, ← made.left, ← made.faults) cause in
    rw (p.1, p.2) (search (rules, refused))

pub returns-clause-given : goal.returns-clause-given
returns-clause-given g c =
    let feed = c.read_session_side_by_side.new.feed in
    let s = c.in_ok-session.session in
    let scene = c.scene_of-scene.ensures in
    let a : Call = call_of g.S.Source.left g.S.Source.faults c.in_ok-feed.feed feed in
    let left = g.S.Source.left feed.source.now in
    let all = read_alone a (pending_of feed) left (in_tiles c.scene_of-scene.result.side) (session_of s) refl c.in_ok-session.ensures.outcome.read in
    let read : ReadsAll (g.S.Source.left c.args.source.now) left (λ bytes. IsGiven (options_of c.args.settings) bytes s) = rw (← c.in_ok-feed.ensures.left) (given_alone c.args.settings c.scene_of-scene.result s (scene.side, (scene.rule, scene.terms)) c.in_ok-session.ensures.settings a.told left all) in
    search (rules, read)
