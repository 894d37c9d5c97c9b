use Rattle.tile_board.proofs.StateFacts.{first_found, none_found}
use Rattle.tile_board.proofs.board.Board.first_lacking.Goals as goal

pub returns-clause-found : goal.returns-clause-found
returns-clause-found c = rw (← c.self.view_is) (first_found c.self.invariant c.first_gap.result c.first_gap.ensures)

pub returns-clause-none : goal.returns-clause-none
returns-clause-none c = rw (← c.self.view_is) (none_found c.self.invariant c.first_gap.result c.first_gap.ensures)
