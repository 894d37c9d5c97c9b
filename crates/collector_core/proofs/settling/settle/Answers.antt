use Rattle.std.proofs.lemmas.Result.{on_ok_weaker}
use Rattle.collector_core.proofs.HistoryLemmas.{later_trans, may_publish, published_either, settled_more}
use Rattle.collector_core.proofs.settling.settle.Goals as goal

pub publish-requires-clause-may : goal.publish-requires-clause-may
publish-requires-clause-may c =
    may_publish c.args.board.now c.solve_all.new.board c.args.analyst c.in_ok-gathered.gathered c.in_ok-seams.seams
    c.solve_all.ensures.only c.requires.settles c.requires.fresh c.in_ok-gathered.ensures c.in_ok-seams.ensures.revision

pub publish-requires-clause-certify : goal.publish-requires-clause-certify
publish-requires-clause-certify c = λ p parts. c.in_ok-seams.ensures.publishable c.solve_all.new.board p c.in_ok-gathered.ensures parts

pub returns-clause-later : goal.returns-clause-later
returns-clause-later c =
    later_trans c.args.board.now c.solve_all.new.board c.publish.new.board c.solve_all.ensures.only.later
    (published_either c.publish.result c.solve_all.new.board c.publish.new.board c.args.analyst c.in_ok-seams.seams c.publish.ensures.published c.publish.ensures.unchanged)

pub returns-clause-done : goal.returns-clause-done
returns-clause-done c =
    on_ok_weaker c.publish.result
    (settled_more c.args.board.now c.solve_all.new.board c.publish.new.board c.args.analyst c.in_ok-seams.seams c.solve_all.ensures.only)
    c.publish.ensures.published
