use Rattle.std.proofs.Common.{◌≡◌, true, List, ◌++◌}
use Rattle.std.specs.List.{All}
use Rattle.board_desk.specs.Passes.{IsPassOf, PassView, Stands}
use Rattle.board_desk.proofs.desk.Desk.close.Given as goal

abbrev pub invariant-loop-pass : goal.invariant-loop-pass
invariant-loop-pass g l = record {
  own : l.seat.table_id ≡ l.initial.seat.table_id;
  holds : l.seat.me.0.holds ≡ true;
  same : l.seat.me.0.own ≡ l.initial.seat.me.0.own;
  passes : All (IsPassOf l.fn.self) l.passes.items;
  rest : (done : List PassView) × (l.passes.items ++ done ≡ l.initial.passes.items) × All (Stands l.home.entries) done;
}

abbrev pub decreases-loop-pass : goal.decreases-loop-pass
decreases-loop-pass g l = goal.left-loop-pass g l
