use Rattle.std.proofs.Common.{arith}
use Rattle.certificates.specs.TileWords.{held_mask, held_raster}
use Rattle.raster_model.specs.Raster.{masked_weight}
use Rattle.certificates.proofs.OverLemmas.{size_small}
use Rattle.certificates.proofs.tile.Tile.over.Goals as goal

pub overflow_cast-difference : goal.overflow_cast-difference
overflow_cast-difference c =
    let k = c.args.self.now in
    let s = size_small c.face_difference.result _ k.sheet.terms.steep (masked_weight (held_raster k) (held_mask k) c.args.edge) c.weight-weight.result c.unsigned_abs-difference.ensures.value (rw c.face_difference.ensures c.requires.fit) c.weight-weight.ensures c.weight-weight.type_inv k.sheet.terms.steepness.1 in
    record { fits = omega (arith, s) }

pub returns-clause-small : goal.returns-clause-small
returns-clause-small c =
    let k = c.args.self.now in
    let s = size_small c.face_difference.result _ k.sheet.terms.steep (masked_weight (held_raster k) (held_mask k) c.args.edge) c.weight-weight.result c.unsigned_abs-difference.ensures.value (rw c.face_difference.ensures c.requires.fit) c.weight-weight.ensures c.weight-weight.type_inv k.sheet.terms.steepness.1 in
    omega (arith, s, c.saturating_sub.ensures)
