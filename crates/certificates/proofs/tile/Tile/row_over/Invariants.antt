use Rattle.std.proofs.Common.{◌≡◌, pos, ◌*◌, ◌≤◌}
use Rattle.raster_model.specs.Sums.{sum_row}
use Rattle.certificates.specs.TileWords.{over_at}
use Rattle.certificates.proofs.tile.Tile.row_over.Given as goal

abbrev pub invariant-loop-x : goal.invariant-loop-x
invariant-loop-x l = record { sum : pos l.over ≡ sum_row l.x (over_at l.self l.faces) l.y; small : l.over ≤ 2 * 1048560 * l.x }
