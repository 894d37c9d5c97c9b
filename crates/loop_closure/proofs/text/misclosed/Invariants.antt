use Rattle.std.proofs.Common.{◌≡◌, ◌≤◌, take}
use Rattle.std.specs.List.{count_by}
use Rattle.loop_closure.specs.Closure.{is_misclosed}
use Rattle.loop_closure.proofs.text.misclosed.Given as goal

abbrev pub invariant-loop-cycles : goal.invariant-loop-cycles
invariant-loop-cycles l = record { counted : l.count ≡ count_by is_misclosed (take l.cycles-index l.cycles); within : l.count ≤ l.cycles-index }
