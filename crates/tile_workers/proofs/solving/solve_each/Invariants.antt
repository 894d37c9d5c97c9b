use Rattle.std.specs.List.{All}
use Rattle.tile_board.specs.Calls.{WasGoodAt}
use Rattle.tile_workers.proofs.solving.solve_each.Given as goal

abbrev pub invariant-loop-ticket : goal.invariant-loop-ticket
invariant-loop-ticket g l = All (WasGoodAt l.desk.session l.pass.seen) l.results.items
