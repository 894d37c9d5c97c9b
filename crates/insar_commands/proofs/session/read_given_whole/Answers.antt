use Rattle.std.proofs.Common.{refl, rules}
use Rattle.std.proofs.lemmas.Result.{err_from_is_err_and}
use Rattle.insar_ports.specs.Calls.{Call, call_of}
use Rattle.insar_ports.specs.Feeding.{pending_of}
use Rattle.insar_words.specs.Requests.{options_of}
use Rattle.session_script.specs.declared.session_use.SessionUse.TheVariants.{Alone}
use Rattle.session_script.specs.Layouts.{as_whole}
use Rattle.session_script.specs.Sessions.{whole_session_of}
use Rattle.answer_lines.specs.Refusals.{session_refusal}
use Rattle.insar_commands.specs.Causes.{HasReadCause}
use Rattle.insar_commands.specs.Run.{ReadsAll}
use Rattle.insar_commands.specs.Whole.{BreaksWhole, IsWholeGiven}
use Rattle.insar_commands.proofs.SessionLemmas.{given_whole, read_alone, session_cause}
use Rattle.insar_commands.proofs.session.read_given_whole.Goals as goal

pub returns-in_err-session-clause-refused : goal.returns-in_err-session-clause-refused
returns-in_err-session-clause-refused g c =
    let p = err_from_is_err_and c.from_residual-in_err-session.result c.from_residual-in_err-session.ensures.1 in
    let feed = c.read_whole_session.new.feed in
    let made = c.in_ok-feed.ensures in
    let a : Call = call_of g.S.Source.left g.S.Source.faults c.in_ok-feed.feed feed in
    let fault = c.in_err-session.field-0.0 in
    let cause : HasReadCause BreaksWhole a.told a.before a.after (session_refusal fault) = session_cause Alone as_whole BreaksWhole (λ bytes fault h. h) a fault c.in_err-session.ensures.outcome.refused in
    let refused : HasReadCause BreaksWhole (g.S.Source.left c.args.source.now) (g.S.Source.faults c.args.source.now) (g.S.Source.faults feed.source.now) (session_refusal fault) = rw (← made.left, ← made.faults) cause in
    rw (p.1, p.2) (search (rules, refused))

pub returns-clause-given : goal.returns-clause-given
returns-clause-given g c =
    let feed = c.read_whole_session.new.feed in
    let s = c.in_ok-session.session in
    let a : Call = call_of g.S.Source.left g.S.Source.faults c.in_ok-feed.feed feed in
    let left = g.S.Source.left feed.source.now in
    let all = read_alone a (pending_of feed) left as_whole (whole_session_of s) refl c.in_ok-session.ensures.outcome.read in
    let read : ReadsAll (g.S.Source.left c.args.source.now) left (λ bytes. IsWholeGiven (options_of c.args.settings) bytes s) = rw (← c.in_ok-feed.ensures.left) (given_whole c.args.settings s c.in_ok-session.ensures.rule c.in_ok-session.ensures.terms a.told left all) in
    search (rules, read)
