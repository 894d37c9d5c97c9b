use Rattle.std.proofs.Common.{◌≤◌, sym, arith}
use Rattle.raster_model.specs.Cells.{face_at}
use Rattle.raster_model.specs.Sums.{sum_row}
use Rattle.raster_model.proofs.Unsteep.{faces_fit_weights, no_face_over}
use Rattle.raster_model.proofs.WindowCosts.{over_rows_start, over_total}
use Rattle.certificates.specs.TileWords.{held_mask, held_raster, over_at}
use Rattle.certificates.proofs.SeamCosts.{adds}
use Rattle.certificates.proofs.tile.Tile.total_over.Goals as goal

pub returns-then-self-eq1-clause-value : goal.returns-then-self-eq1-clause-value
returns-then-self-eq1-clause-value c =
    let k = c.args.self.now in
    let f = face_at (held_raster k) k.number c.args.faces.now in
    sym (no_face_over (held_raster k) (held_mask k) k.number f (faces_fit_weights (held_raster k) (held_mask k) k.number f c.if-self-eq1.true c.requires.fit))

pub loop-y-init : goal.loop-y-init
loop-y-init c =
    let k = c.args.self.now in
    record { sum = sym (over_rows_start (held_raster k) (held_mask k) (face_at (held_raster k) k.number c.args.faces.now) k.number k.window k.pixels); small = omega arith }

pub overflow_add-over : goal.overflow_add-over
overflow_add-over c =
    let k = c.args.self.now in
    let e : c.loop-y.y ≤ 65535 = omega (arith, c.loop-y-test.true, k.pixels.along, k.sheet.phase.now.high) in
    record { fits = omega (arith, e, c.loop-y.invariant.small, c.row_over-over.ensures.small) }

pub loop-y-preserved : goal.loop-y-preserved
loop-y-preserved c =
    let k = c.args.self.now in
    let f = over_at k c.args.faces.now in
    record {
      sum = adds c.loop-y.y c.loop-y.over c.row_over-over.result (sum_row k.sheet.phase.now.width f) c.loop-y.invariant.sum c.row_over-over.ensures.value;
      small = omega (arith, c.loop-y.invariant.small, c.row_over-over.ensures.small);
    }

pub returns-clause-value : goal.returns-clause-value
returns-clause-value c =
    let k = c.args.self.now in
    over_total (held_raster k) (held_mask k) (face_at (held_raster k) k.number c.args.faces.now) k.number k.window k.pixels c.loop-y.y _ (omega arith) c.loop-y.invariant.sum

pub returns-clause-small : goal.returns-clause-small
returns-clause-small c =
    let k = c.args.self.now in
    let e : c.loop-y.y ≤ 65535 = omega (arith, k.pixels.along, k.sheet.phase.now.high) in
    omega (arith, e, c.loop-y.invariant.small)
