use Rattle.std.proofs.Common.{◌≡◌, ◌≤◌, take}
use Rattle.std.specs.List.{count_by}
use Rattle.grid_writer.specs.Values.{is_value}
use Rattle.loop_closure.proofs.text.closed.Given as goal

abbrev pub invariant-loop-closure : goal.invariant-loop-closure
invariant-loop-closure l = record { counted : l.count ≡ count_by is_value (take l.closure-index l.closures); within : l.count ≤ l.closure-index }
