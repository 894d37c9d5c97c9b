use Rattle.std.proofs.Common.{◌-◌, ◌≤◌}
use Rattle.certificates.specs.TileWords.{AreColumnsOpen}
use Rattle.certificates.proofs.tile.Tile.open_until.Given as goal

abbrev pub invariant-loop-end : goal.invariant-loop-end
invariant-loop-end l = record {
  from : l.x ≤ l.end;
  within : l.end ≤ l.self.window.x1;
  unmasked : AreColumnsOpen l.self l.y l.x l.end;
}

abbrev pub decreases-loop-end : goal.decreases-loop-end
decreases-loop-end l = l.self.window.x1 - l.end
