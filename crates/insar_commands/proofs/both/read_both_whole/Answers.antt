use Rattle.std.proofs.Common.{ℕ, List, Option, refl, rules, subst, arith}
use Rattle.std.proofs.lemmas.Result.{err_from_is_err_and}
use Rattle.insar_ports.specs.Calls.{Call, call_of}
use Rattle.insar_ports.specs.Feeding.{pending_of}
use Rattle.insar_words.specs.Requests.{options_of}
use Rattle.session_script.specs.declared.session_use.SessionUse.TheVariants.{BeforeReport}
use Rattle.session_script.specs.Layouts.{as_whole}
use Rattle.session_script.specs.Sessions.{whole_session_of}
use Rattle.whole_text.specs.Reading.{whole_told}
use Rattle.whole_text.specs.Text.{IsWholeText, whole_text}
use Rattle.answer_lines.specs.Refusals.{report_refusal, session_refusal}
use Rattle.insar_commands.specs.Both.{AreRead, IsFirstRead}
use Rattle.insar_commands.specs.Causes.{HasReadCause}
use Rattle.insar_commands.specs.CheckWhole.{BreaksBothWhole, IsBothWhole}
use Rattle.insar_commands.specs.Options.{HasWholeOptions}
use Rattle.insar_commands.proofs.BothLemmas.{both_read, first_whole, text_cause}
use Rattle.insar_commands.proofs.SessionLemmas.{session_cause}
use Rattle.insar_commands.proofs.both.read_both_whole.Goals as goal

pub returns-in_err-session-clause-refused : goal.returns-in_err-session-clause-refused
returns-in_err-session-clause-refused g c =
    let p = err_from_is_err_and c.from_residual-in_err-session.result c.from_residual-in_err-session.ensures.1 in
    let feed = c.read_first_whole.new.feed in
    let a : Call = call_of g.S.Source.left g.S.Source.faults c.in_ok-feed.feed feed in
    let fault = c.in_err-session.field-0.0 in
    let cause : HasReadCause BreaksBothWhole a.told a.before a.after (session_refusal fault) = session_cause BeforeReport as_whole BreaksBothWhole (λ bytes fault h. h) a fault c.in_err-session.ensures.refused in
    let refused : HasReadCause BreaksBothWhole (g.S.Source.left c.args.source.now) (g.S.Source.faults c.args.source.now) (g.S.Source.faults feed.source.now) (session_refusal fault) = rw (← c.in_ok-feed.ensures.left, ← c.in_ok-feed.ensures.faults) cause in
    rw (p.1, p.2) (search (rules, refused))

pub returns-in_err-whole-clause-refused : goal.returns-in_err-whole-clause-refused
returns-in_err-whole-clause-refused g c =
    let p = err_from_is_err_and c.from_residual-in_err-whole.result c.from_residual-in_err-whole.ensures.1 in
    let options = options_of c.args.settings in
    let feed = c.read_whole.new.feed in
    let told : Option (List ℕ) = g.S.Source.left c.args.source.now in
    let a : Call = call_of g.S.Source.left g.S.Source.faults c.in_ok-feed.feed c.read_first_whole.new.feed in
    let b : Call = call_of g.S.Source.left g.S.Source.faults c.read_first_whole.new.feed feed in
    let one = c.in_ok-session.ensures in
    let s = c.in_ok-session.session in
    let first : IsFirstRead as_whole whole_session_of (HasWholeOptions options) told b.told s = subst (λ (o : Option (List ℕ)). IsFirstRead as_whole whole_session_of (HasWholeOptions options) o b.told s) c.in_ok-feed.ensures.left (first_whole c.args.settings s one.options a one.read) in
    let refused : HasReadCause BreaksBothWhole told (g.S.Source.faults c.args.source.now) (g.S.Source.faults feed.source.now) (report_refusal c.in_err-whole.field-0.0) =
    text_cause IsWholeText as_whole whole_session_of (HasWholeOptions options) s told (g.S.Source.faults c.args.source.now) b one.room (omega (arith, feed.ordered, feed.limited, feed.counted, c.in_err-whole.ensures.same_limit)) (omega (arith, one.grows, c.in_ok-feed.ensures.faults)) first c.in_err-whole.field-0.0 c.in_err-whole.ensures.refused in
    rw (p.1, p.2) (search (rules, refused))

pub returns-clause-read : goal.returns-clause-read
returns-clause-read g c =
    let options = options_of c.args.settings in
    let feed = c.read_whole.new.feed in
    let told : Option (List ℕ) = g.S.Source.left c.args.source.now in
    let a : Call = call_of g.S.Source.left g.S.Source.faults c.in_ok-feed.feed c.read_first_whole.new.feed in
    let b : Call = call_of g.S.Source.left g.S.Source.faults c.read_first_whole.new.feed feed in
    let one = c.in_ok-session.ensures in
    let s = c.in_ok-session.session in
    let first : IsFirstRead as_whole whole_session_of (HasWholeOptions options) told b.told s = subst (λ (o : Option (List ℕ)). IsFirstRead as_whole whole_session_of (HasWholeOptions options) o b.told s) c.in_ok-feed.ensures.left (first_whole c.args.settings s one.options a one.read) in
    let text = whole_text (whole_told c.in_ok-whole.whole) in
    let read : AreRead (IsBothWhole options) told (g.S.Source.left feed.source.now) s text = both_read as_whole whole_session_of (HasWholeOptions options) s text told b (pending_of feed) (g.S.Source.left feed.source.now) refl one.room (omega (arith, feed.ordered, feed.limited, feed.counted, c.in_ok-whole.ensures.same_limit)) first c.in_ok-whole.ensures.read in
    search (rules, read)
