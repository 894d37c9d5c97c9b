use Rattle.std.proofs.Common.{◌≡◌, ◌+◌, true, [], Some}
use Rattle.board_desk.specs.Passes.{desk_of, first_passes}
use Rattle.board_desk.proofs.desk.first_passes.Given as goal

abbrev pub invariant-loop-before : goal.invariant-loop-before
invariant-loop-before l = record {
  own : l.giver.table_id ≡ l.initial.giver.table_id;
  gives : l.giver.me.0.gives ≡ true;
  next : l.giver.me.0.next ≡ l.before + 1;
  seen : l.giver.me.0.own.seen ≡ [];
  session : l.giver.me.0.session ≡ Some l.fn.hall.key.value;
  passes : l.passes.items ≡ first_passes (desk_of l.fn.hall.table_id l.fn.hall.key.value) l.before;
}
