use Rattle.std.proofs.lemmas.List.Elements.{All-nil}
use Rattle.tile_board.specs.Calls.{WasGoodAt}
use Rattle.tile_workers.proofs.solving.solve_share.Goals as goal

pub solve_each-solved-requires-clause-good : goal.solve_each-solved-requires-clause-good
solve_each-solved-requires-clause-good g c κs lives = rw c.new-results.ensures.items (All-nil (WasGoodAt c.args.desk.now.session c.args.pass.now.seen))
