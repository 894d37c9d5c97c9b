use Rattle.std.proofs.Common.{◌≡◌, pos, ◌*◌, ◌≤◌}
use Rattle.raster_model.specs.Sums.{sum_grid}
use Rattle.certificates.specs.TileWords.{over_at}
use Rattle.certificates.proofs.tile.Tile.total_over.Given as goal

abbrev pub invariant-loop-y : goal.invariant-loop-y
invariant-loop-y l = record { sum : pos l.over ≡ sum_grid l.self.sheet.phase.now.width l.y (over_at l.self l.faces); small : l.over ≤ 2 * 1048560 * 65535 * l.y }
