use Rattle.std.specs.Prelude.{⊤}
use Rattle.board_desk.proofs.Keeping.{SoFar}
use Rattle.board_desk.proofs.desk.keep_each.Given as goal

abbrev pub invariant-loop-tile : goal.invariant-loop-tile
invariant-loop-tile l = SoFar ⊤ l.yielded l.starved l.initial.board l.board
