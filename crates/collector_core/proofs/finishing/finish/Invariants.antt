use Rattle.std.proofs.Common.{◌≡◌, ◌<◌, ℕ, None}
use Rattle.tile_board.specs.Histories.{next_command}
use Rattle.collector_core.specs.Finishing.{IsLater}
use Rattle.collector_core.proofs.finishing.finish.Given as goal

abbrev pub invariant-loop-analyst : goal.invariant-loop-analyst
invariant-loop-analyst l = record {
  later : IsLater l.fn.board l.board;
  ended : (a : ℕ) → a < l.analyst → next_command l.board.session l.board.entries a ≡ None;
}
