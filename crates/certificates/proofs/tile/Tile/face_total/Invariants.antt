use Rattle.std.proofs.Common.{◌≡◌, ◌*◌, ◌+◌, ◌≤◌, ◌^◌, ◌+ℤ◌}
use Rattle.std.specs.Prelude.{unsigned_abs}
use Rattle.raster_model.specs.Sums.{sum_row, sum_grid}
use Rattle.certificates.specs.TileWords.{product_at}
use Rattle.certificates.proofs.tile.Tile.face_total.Given as goal

abbrev pub invariant-loop-x : goal.invariant-loop-x
invariant-loop-x l = record {
  sum : l.total ≡ sum_grid l.self.sheet.phase.now.width l.y (product_at l.self l.faces) +ℤ sum_row l.x (product_at l.self l.faces) l.y;
  small : unsigned_abs l.total ≤ 2 ^ 63 * (65535 * l.y + l.x);
}

abbrev pub invariant-loop-y : goal.invariant-loop-y
invariant-loop-y l = record {
  sum : l.total ≡ sum_grid l.self.sheet.phase.now.width l.y (product_at l.self l.faces);
  small : unsigned_abs l.total ≤ 2 ^ 63 * (65535 * l.y);
}
