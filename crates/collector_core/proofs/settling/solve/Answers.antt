use Rattle.std.proofs.lemmas.Result.{on_ok_weaker}
use Rattle.tile_board.specs.Calls.{mask_now}
use Rattle.collector_core.proofs.HistoryLemmas.{kept_either, keeps_more}
use Rattle.collector_core.proofs.settling.solve.Goals as goal

pub keep-requires-clause-good : goal.keep-requires-clause-good
keep-requires-clause-good c =
    let good = rw (c.deref.ensures, c.requires.session, c.deref-2.ensures.value) at c.in_ok-solved.ensures.good in
    good (mask_now c.args.board.now) c.requires.window.clear

pub returns-clause-only : goal.returns-clause-only
returns-clause-only c = kept_either c.keep.result c.args.board.now c.keep.new.board c.in_ok-solved.solved c.keep.ensures.kept c.keep.ensures.unchanged

pub returns-clause-more : goal.returns-clause-more
returns-clause-more c = on_ok_weaker c.keep.result (keeps_more c.args.board.now c.keep.new.board c.in_ok-solved.solved) c.keep.ensures.kept
