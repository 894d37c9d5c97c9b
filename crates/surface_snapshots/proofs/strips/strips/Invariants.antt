use Rattle.std.proofs.Common.{◌≡◌}
use Rattle.std.specs.Prelude.{All}
use Rattle.surface_snapshots.specs.Strips.{HasRoom}
use Rattle.surface_snapshots.proofs.strips.strips.Given as goal

abbrev pub invariant-loop : goal.invariant-loop
invariant-loop l = record {
  len : l.strips.len ≡ l.counter;
  room : All (HasRoom l.rows l.width) l.strips.items;
}
