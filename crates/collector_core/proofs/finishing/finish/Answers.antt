use Rattle.std.proofs.Common.{◌≡◌, ◌∙◌, ap, arith, length, sym}
use Rattle.raster_model.specs.declared.session.Session.{Session}
use Rattle.collector_core.proofs.HistoryLemmas.{complete_at, later_trans, one_more_ended}
use Rattle.collector_core.proofs.finishing.finish.Goals as goal

pub loop-analyst-preserved : goal.loop-analyst-preserved
loop-analyst-preserved c =
    let inv = c.loop-analyst.invariant in
    record {
      later = later_trans c.args.board.now c.loop-analyst.board c.finish_script.new.board inv.later c.finish_script.ensures.later;
      ended = one_more_ended c.loop-analyst.board c.finish_script.new.board c.loop-analyst.analyst c.finish_script.ensures.later inv.ended c.in_ok-finish_script.ensures.ended;
    }

pub returns-clause-complete : goal.returns-clause-complete
returns-clause-complete c =
    let inv = c.loop-analyst.invariant in
    let same : c.loop-analyst.board.session ≡ c.deref.result.now = inv.later.session ∙ sym c.session.ensures.value ∙ sym c.deref.ensures in
    let count = ap (λ (s : Session). length s.scripts.items) same in
    complete_at c.loop-analyst.board.session c.loop-analyst.board.entries
    (λ a l. inv.ended a (omega (arith, l, count, c.deref.result.now.scripts.ok.0, c.len-analysts.ensures, c.loop-analyst-test.false)))
