use Rattle.std.proofs.Common.{refl, rules, arith}
use Rattle.std.proofs.lemmas.Result.{err_from_is_err_and}
use Rattle.insar_ports.specs.Calls.{Call, call_of}
use Rattle.insar_ports.specs.Feeding.{pending_of}
use Rattle.grid_writer.specs.ManyGrids.{grids_of}
use Rattle.answer_lines.specs.Refusals.{grids_refusal}
use Rattle.insar_commands.specs.Causes.{HasReadCause}
use Rattle.insar_commands.specs.Grids.{AreGridsIn, BreaksMany}
use Rattle.insar_commands.specs.Run.{ReadsAll}
use Rattle.insar_commands.proofs.GridsLemmas.{grids_cause, grids_read}
use Rattle.insar_commands.proofs.grids.read_many.Goals as goal

pub returns-in_err-grids-clause-refused : goal.returns-in_err-grids-clause-refused
returns-in_err-grids-clause-refused g c =
    let p = err_from_is_err_and c.from_residual-in_err-grids.result c.from_residual-in_err-grids.ensures.1 in
    let feed = c.read_grids.new.feed in
    let made = c.in_ok-feed.ensures in
    let a : Call = call_of g.S.Source.left g.S.Source.faults c.in_ok-feed.feed feed in
    let fault = c.in_err-grids.field-0.0 in
    let cause : HasReadCause (BreaksMany c.args.count) a.told a.before a.after (grids_refusal fault) = grids_cause c.args.count a made.handed made.limit fault c.in_err-grids.ensures.refused in
    let refused : HasReadCause (BreaksMany c.args.count) (g.S.Source.left c.args.source.now) (g.S.Source.faults c.args.source.now) (g.S.Source.faults feed.source.now) (grids_refusal fault) = rw (← made.left, ← made.faults) cause in
    rw (p.1, p.2) (search (rules, refused))

pub returns-clause-read : goal.returns-clause-read
returns-clause-read g c =
    let feed = c.read_grids.new.feed in
    let made = c.in_ok-feed.ensures in
    let a : Call = call_of g.S.Source.left g.S.Source.faults c.in_ok-feed.feed feed in
    let grids = grids_of c.in_ok-grids.grids.items in
    let all : ReadsAll a.told (g.S.Source.left feed.source.now) (λ bytes. AreGridsIn c.args.count bytes grids) = grids_read c.args.count a made.handed made.limit (pending_of feed) (g.S.Source.left feed.source.now) grids refl (omega (arith, feed.ordered, feed.limited, feed.counted, c.in_ok-grids.ensures.same_limit)) c.in_ok-grids.ensures.fits c.in_ok-grids.ensures.read in
    let read : ReadsAll (g.S.Source.left c.args.source.now) (g.S.Source.left feed.source.now) (λ bytes. AreGridsIn c.args.count bytes grids) = rw (← made.left) all in
    search (rules, read)
