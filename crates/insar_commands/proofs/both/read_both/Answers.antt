use Rattle.std.proofs.Common.{ℕ, List, Option, refl, rules, subst, arith}
use Rattle.std.proofs.lemmas.Result.{err_from_is_err_and}
use Rattle.insar_ports.specs.Calls.{Call, call_of}
use Rattle.insar_ports.specs.Feeding.{pending_of}
use Rattle.insar_words.specs.Requests.{options_of}
use Rattle.session_script.specs.declared.session_use.SessionUse.TheVariants.{BeforeReport}
use Rattle.answer_lines.specs.Refusals.{report_refusal, session_refusal}
use Rattle.insar_commands.specs.Both.{AreRead, IsBoth, IsFirstRead}
use Rattle.insar_commands.specs.Check.{BreaksBoth}
use Rattle.insar_commands.specs.Options.{HasOptions}
use Rattle.report_text.specs.Contents.{IsReportText, report_told}
use Rattle.report_text.specs.Text.{report_text}
use Rattle.session_script.specs.Layouts.{in_tiles}
use Rattle.session_script.specs.Sessions.{session_of}
use Rattle.insar_commands.specs.Causes.{HasReadCause}
use Rattle.insar_commands.proofs.BothLemmas.{both_read, first_read, text_cause}
use Rattle.insar_commands.proofs.SessionLemmas.{session_cause}
use Rattle.insar_commands.proofs.both.read_both.Goals as goal

pub returns-in_err-session-clause-refused : goal.returns-in_err-session-clause-refused
returns-in_err-session-clause-refused g c =
    let p = err_from_is_err_and c.from_residual-in_err-session.result c.from_residual-in_err-session.ensures.1 in
    let feed = c.read_first.new.feed in
    let a : Call = call_of g.S.Source.left g.S.Source.faults c.in_ok-feed.feed feed in
    let fault = c.in_err-session.field-0.0 in
    let cause : HasReadCause (BreaksBoth c.scene_of.result.side) a.told a.before a.after (session_refusal fault) = session_cause BeforeReport (in_tiles c.scene_of.result.side) (BreaksBoth c.scene_of.result.side) (λ bytes fault h. h) a fault c.in_err-session.ensures.refused in
    let refused : HasReadCause (BreaksBoth c.args.settings.side) (g.S.Source.left c.args.source.now) (g.S.Source.faults c.args.source.now) (g.S.Source.faults feed.source.now) (session_refusal fault) = rw (← c.scene_of.ensures.side, ← c.in_ok-feed.ensures.left, ← c.in_ok-feed.ensures.faults) cause in
    rw (p.1, p.2) (search (rules, refused))

pub returns-in_err-report-clause-refused : goal.returns-in_err-report-clause-refused
returns-in_err-report-clause-refused g c =
    let p = err_from_is_err_and c.from_residual-in_err-report.result c.from_residual-in_err-report.ensures.1 in
    let options = options_of c.args.settings in
    let layout = in_tiles c.args.settings.side in
    let feed = c.read_report.new.feed in
    let told : Option (List ℕ) = g.S.Source.left c.args.source.now in
    let a : Call = call_of g.S.Source.left g.S.Source.faults c.in_ok-feed.feed c.read_first.new.feed in
    let b : Call = call_of g.S.Source.left g.S.Source.faults c.read_first.new.feed feed in
    let one = c.in_ok-session.ensures in
    let scene = c.scene_of.ensures in
    let first : IsFirstRead layout session_of (HasOptions options) told b.told c.in_ok-session.session = subst (λ (o : Option (List ℕ)). IsFirstRead layout session_of (HasOptions options) o b.told c.in_ok-session.session) c.in_ok-feed.ensures.left (first_read c.args.settings c.scene_of.result c.in_ok-session.session (scene.side, (scene.rule, scene.terms)) one.settings a one.read) in
    let refused : HasReadCause (BreaksBoth c.args.settings.side) told (g.S.Source.faults c.args.source.now) (g.S.Source.faults feed.source.now) (report_refusal c.in_err-report.field-0.0) = text_cause IsReportText layout session_of (HasOptions options) c.in_ok-session.session told (g.S.Source.faults c.args.source.now) b one.room (omega (arith, feed.ordered, feed.limited, feed.counted, c.in_err-report.ensures.same_limit)) (omega (arith, one.grows, c.in_ok-feed.ensures.faults)) first c.in_err-report.field-0.0 c.in_err-report.ensures.refused in
    rw (p.1, p.2) (search (rules, refused))

pub returns-clause-read : goal.returns-clause-read
returns-clause-read g c =
    let options = options_of c.args.settings in
    let layout = in_tiles c.args.settings.side in
    let feed = c.read_report.new.feed in
    let told : Option (List ℕ) = g.S.Source.left c.args.source.now in
    let a : Call = call_of g.S.Source.left g.S.Source.faults c.in_ok-feed.feed c.read_first.new.feed in
    let b : Call = call_of g.S.Source.left g.S.Source.faults c.read_first.new.feed feed in
    let one = c.in_ok-session.ensures in
    let scene = c.scene_of.ensures in
    let first : IsFirstRead layout session_of (HasOptions options) told b.told c.in_ok-session.session = subst (λ (o : Option (List ℕ)). IsFirstRead layout session_of (HasOptions options) o b.told c.in_ok-session.session) c.in_ok-feed.ensures.left (first_read c.args.settings c.scene_of.result c.in_ok-session.session (scene.side, (scene.rule, scene.terms)) one.settings a one.read) in
    let text = report_text (report_told c.in_ok-report.report) in
    let read : AreRead (IsBoth options) told (g.S.Source.left feed.source.now) c.in_ok-session.session text = both_read layout session_of (HasOptions options) c.in_ok-session.session text told b (pending_of feed) (g.S.Source.left feed.source.now) refl one.room (omega (arith, feed.ordered, feed.limited, feed.counted, c.in_ok-report.ensures.same_limit)) first c.in_ok-report.ensures.read in
    search (rules, read)
