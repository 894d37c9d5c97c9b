use Rattle.std.proofs.Common.{refl, rules, arith}
use Rattle.std.proofs.lemmas.Result.{err_from_is_err_and}
use Rattle.insar_ports.specs.Calls.{Call, call_of}
use Rattle.insar_ports.specs.Feeding.{pending_of}
use Rattle.grid_writer.specs.Grids.{grid_of}
use Rattle.session_script.specs.Sessions.{session_of}
use Rattle.answer_lines.specs.Refusals.{grids_refusal, session_refusal}
use Rattle.insar_commands.specs.Causes.{HasReadCause}
use Rattle.insar_commands.specs.Nearest.{AreSessionAndGrid, BreaksNearest}
use Rattle.insar_commands.specs.Run.{ReadsAll}
use Rattle.insar_commands.proofs.NearestLemmas.{both_read, grid_cause, read_before, unread_before}
use Rattle.insar_commands.proofs.nearest.read_both.Goals as goal

pub returns-in_err-session-clause-refused : goal.returns-in_err-session-clause-refused
returns-in_err-session-clause-refused g c =
    let p = err_from_is_err_and c.from_residual-in_err-session.result c.from_residual-in_err-session.ensures.1 in
    let feed = c.read_first.new.feed in
    let made = c.in_ok-feed.ensures in
    let a : Call = call_of g.S.Source.left g.S.Source.faults c.in_ok-feed.feed feed in
    let fault = c.in_err-session.field-0.0 in
    let cause : HasReadCause BreaksNearest a.told a.before a.after (session_refusal fault) = unread_before c.plain-scene.result.side c.plain-scene.ensures.side a fault c.in_err-session.ensures.refused in
    let refused : HasReadCause BreaksNearest (g.S.Source.left c.args.source.now) (g.S.Source.faults c.args.source.now) (g.S.Source.faults feed.source.now) (session_refusal fault) = rw (← made.left, ← made.faults) cause in
    rw (p.1, p.2) (search (rules, refused))

pub returns-in_err-given-clause-refused : goal.returns-in_err-given-clause-refused
returns-in_err-given-clause-refused g c =
    let p = err_from_is_err_and c.from_residual-in_err-given.result c.from_residual-in_err-given.ensures.1 in
    let feed = c.read_last_grid.new.feed in
    let made = c.in_ok-feed.ensures in
    let told = g.S.Source.left c.args.source.now in
    let a : Call = call_of g.S.Source.left g.S.Source.faults c.in_ok-feed.feed c.read_first.new.feed in
    let b : Call = call_of g.S.Source.left g.S.Source.faults c.read_first.new.feed feed in
    let one = c.in_ok-session.ensures in
    let s = session_of c.in_ok-session.session in
    let before = read_before c.plain-scene.result.side c.plain-scene.ensures.side told a b made.left refl refl s one.read in
    let fault = c.in_err-given.field-0.0 in
    let refused : HasReadCause BreaksNearest told (g.S.Source.faults c.args.source.now) (g.S.Source.faults feed.source.now) (grids_refusal fault) = grid_cause s told a.at made.handed b one.room before (g.S.Source.faults c.args.source.now) (omega (arith, one.grows, made.faults)) fault c.in_err-given.ensures.refused in
    rw (p.1, p.2) (search (rules, refused))

pub returns-clause-read : goal.returns-clause-read
returns-clause-read g c =
    let feed = c.read_last_grid.new.feed in
    let made = c.in_ok-feed.ensures in
    let told = g.S.Source.left c.args.source.now in
    let a : Call = call_of g.S.Source.left g.S.Source.faults c.in_ok-feed.feed c.read_first.new.feed in
    let b : Call = call_of g.S.Source.left g.S.Source.faults c.read_first.new.feed feed in
    let one = c.in_ok-session.ensures in
    let last = c.in_ok-given in
    let s = session_of c.in_ok-session.session in
    let before = read_before c.plain-scene.result.side c.plain-scene.ensures.side told a b made.left refl refl s one.read in
    let read : ReadsAll told (g.S.Source.left feed.source.now) (λ bytes. AreSessionAndGrid bytes s (grid_of last.given)) = both_read s told a.at made.handed b one.room before (grid_of last.given) (pending_of feed) (g.S.Source.left feed.source.now) refl (omega (arith, feed.ordered, feed.limited, feed.counted, last.ensures.same_limit)) last.ensures.fits last.ensures.read in
    search (rules, read)
