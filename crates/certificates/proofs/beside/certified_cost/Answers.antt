use Rattle.std.proofs.Common.{length}
use Rattle.certificates.specs.TileWords.{held_raster}
use Rattle.certificates.proofs.RowLemmas.{sums_certify}
use Rattle.certificates.proofs.VerdictLemmas.{counted, sides_fit}
use Rattle.certificates.proofs.beside.certified_cost.Goals as goal

pub overflow_cast-cells : goal.overflow_cast-cells
overflow_cast-cells g c = (sides_fit c.args.tile.now).0

pub overflow_cast-cells-2 : goal.overflow_cast-cells-2
overflow_cast-cells-2 g c = (sides_fit c.args.tile.now).1

pub overflow_mul-cells : goal.overflow_mul-cells
overflow_mul-cells g c = (sides_fit c.args.tile.now).2

pub sums_beside-requires-clause-count : goal.sums_beside-requires-clause-count
sums_beside-requires-clause-count g c κs within =
    let k = c.args.tile.now in
    counted (held_raster k) k.number k.window k.pixels (length c.args.faces.now) c.if-faces-cells.false

pub returns-then-is_same : goal.returns-then-is_same
returns-then-is_same g c =
    let k = c.args.tile.now in
    sums_certify k (g.H.Heights.cycles_at c.args.heights.now) c.args.faces.now c.in-Some.sums (counted (held_raster k) k.number k.window k.pixels (length c.args.faces.now) c.if-faces-cells.false) c.in-Some.ensures (c.is_same.ensures.0 c.if-is_same.true)
