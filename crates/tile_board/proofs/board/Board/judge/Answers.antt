use Rattle.tile_board.proofs.StateFacts.{good_told, verdict_told}
use Rattle.tile_board.proofs.board.Board.judge.Goals as goal

pub returns-in-Good-clause-good : goal.returns-in-Good-clause-good
returns-in-Good-clause-good c =
    let may = rw (← c.self.view_is) at c.in_ok-may_keep.ensures.may in
    let good = rw (c.mask.ensures, c.deref.ensures) at (c.check_tile.ensures.good.0 c.in-Good.is) in
    rw (← c.self.view_is) (may, good_told c.self.invariant c.args.solved.now may.0.0 good)

pub returns-in_default : goal.returns-in_default
returns-in_default c =
    let may = rw (← c.self.view_is) at c.in_ok-may_keep.ensures.may in
    let verdict = rw (c.mask.ensures, c.deref.ensures) at c.check_tile.ensures.verdict in
    rw (← c.self.view_is) (record { good = tt; refused = (may, c.in_default.not-Good, verdict_told c.self.invariant c.args.solved.now c.check_tile.result may.0.0 verdict) })
