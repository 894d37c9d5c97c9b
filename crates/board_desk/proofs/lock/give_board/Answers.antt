use Rattle.std.proofs.Common.{rules}
use Rattle.board_desk.proofs.Holding.{gives_after}
use Rattle.board_desk.proofs.lock.give_board.Goals as goal

pub store-requires : goal.store-requires
store-requires c = (
  search rules,
  search rules,
  gives_after c.args.hall.now.key.value c.args.hall.now.table_id.slots c.exchange.new.seat.id c.args.seat.now.me c.exchange.new.seat.me c.args.board c.requires.out c.exchange.ensures.3 c.requires.holds c.requires.grown,
)
