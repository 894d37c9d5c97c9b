use Rattle.std.proofs.Common.{◌≡◌, take}
use Rattle.loop_closure.specs.Closure.{keys_of}
use Rattle.loop_closure.proofs.cycles.keys.Given as goal

abbrev pub invariant-loop-cycles : goal.invariant-loop-cycles
invariant-loop-cycles l = l.keys.items ≡ keys_of (take l.cycles-index l.cycles)
