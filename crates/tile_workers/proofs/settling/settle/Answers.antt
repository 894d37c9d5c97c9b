use Rattle.tile_workers.proofs.ScriptLemmas.{of_desk}
use Rattle.std.proofs.Common.{rules}
use Rattle.board_desk.proofs.CallerLemmas.{later_called, later_trans}
use Rattle.board_desk.proofs.Publications.{current_before}
use Rattle.board_desk.specs.Answers.{IsCurrent}
use Rattle.tile_workers.proofs.FreshLemmas.{current_since, settled_now}
use Rattle.tile_workers.proofs.settling.settle.Goals as goal

pub returns-in-Ok-Settled-clause-fresh : goal.returns-in-Ok-Settled-clause-fresh
returns-in-Ok-Settled-clause-fresh g c =
    let now : IsCurrent c.loop.pass c.advance.new.pass c.in-Ok-Settled.revision = settled_now c.loop.pass c.advance.new.pass c.advance.result.answer c.in-Ok-Settled.revision search rules c.advance.ensures.fresh in
    current_before c.args.desk.now.session c.args.pass.now c.loop.pass c.advance.new.pass c.in-Ok-Settled.revision _ c.loop.invariant.1.1.later c.advance.ensures.call now

pub returns-in-Some-2-clause-fresh : goal.returns-in-Some-2-clause-fresh
returns-in-Some-2-clause-fresh g c =
    let now = rw c.in-Some-2.is at c.in_ok-revision.ensures.present in
    let legal = rw c.in-Some-2.is at c.in_ok-revision.ensures.legal in
    let called = later_called c.args.desk.now.session c.loop.pass c.advance.new.pass _ c.advance.ensures.call in
    let later =
    later_trans c.args.pass.now c.loop.pass c.try_settle.new.pass c.loop.invariant.1.1.later (later_trans c.loop.pass c.advance.new.pass c.try_settle.new.pass called c.try_settle.ensures.later) in
    current_since c.args.desk.now.session c.args.pass.now c.try_settle.new.pass c.in-Some-2.revision later.seen legal now

pub advance-requires-clause-pass : goal.advance-requires-clause-pass
advance-requires-clause-pass g c = of_desk c.args.desk.now c.args.pass.now c.loop.pass c.requires.pass c.loop.invariant.1.1

pub returns-in-Ok-Settled-clause-later : goal.returns-in-Ok-Settled-clause-later
returns-in-Ok-Settled-clause-later g c = later_trans c.args.pass.now c.loop.pass c.advance.new.pass c.loop.invariant.1.1.later (later_called c.args.desk.now.session c.loop.pass c.advance.new.pass _ c.advance.ensures.call)

pub returns-in-Err-Memory-clause-later : goal.returns-in-Err-Memory-clause-later
returns-in-Err-Memory-clause-later g c = later_trans c.args.pass.now c.loop.pass c.advance.new.pass c.loop.invariant.1.1.later (later_called c.args.desk.now.session c.loop.pass c.advance.new.pass _ c.advance.ensures.call)

pub returns-in_err-revision-clause-later : goal.returns-in_err-revision-clause-later
returns-in_err-revision-clause-later g c = later_trans c.args.pass.now c.advance.new.pass c.try_settle.new.pass (later_trans c.args.pass.now c.loop.pass c.advance.new.pass c.loop.invariant.1.1.later (later_called c.args.desk.now.session c.loop.pass c.advance.new.pass _ c.advance.ensures.call)) c.try_settle.ensures.later

pub returns-in-Some-2-clause-later : goal.returns-in-Some-2-clause-later
returns-in-Some-2-clause-later g c = later_trans c.args.pass.now c.advance.new.pass c.try_settle.new.pass (later_trans c.args.pass.now c.loop.pass c.advance.new.pass c.loop.invariant.1.1.later (later_called c.args.desk.now.session c.loop.pass c.advance.new.pass _ c.advance.ensures.call)) c.try_settle.ensures.later
