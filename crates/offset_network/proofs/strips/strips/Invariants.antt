use Rattle.std.proofs.Common.{◌≡◌}
use Rattle.offset_network.proofs.strips.strips.Given as goal

abbrev pub invariant-loop : goal.invariant-loop
invariant-loop l = l.strips.len ≡ l.counter
