use Rattle.std.proofs.Common.{◌≡◌, ◌*◌, ◌≤◌, ◌^◌}
use Rattle.std.specs.Prelude.{unsigned_abs}
use Rattle.raster_model.specs.Sums.{sum_row}
use Rattle.certificates.specs.TileWords.{product_at}
use Rattle.certificates.proofs.tile.Tile.row_total.Given as goal

abbrev pub invariant-loop-x : goal.invariant-loop-x
invariant-loop-x l = record { sum : l.total ≡ sum_row l.x (product_at l.self l.faces) l.y; small : unsigned_abs l.total ≤ 2 ^ 63 * l.x }
