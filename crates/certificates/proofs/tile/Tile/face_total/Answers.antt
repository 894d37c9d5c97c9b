use Rattle.std.proofs.Common.{◌∙◌, arith, to_z}
use Rattle.std.specs.Int.{w128}
use Rattle.raster_model.specs.Certificates.{face_total}
use Rattle.raster_model.specs.Cells.{face_at}
use Rattle.raster_model.proofs.BoxSums.{column_more, part_starts, row_starts, row_more, part_ends}
use Rattle.certificates.specs.TileWords.{held_raster, product_at}
use Rattle.certificates.proofs.FaceLemmas.{sum_fits, cells_before_fit, product_outside, cells_across_fit, cells_along_fit}
use Rattle.certificates.proofs.tile.Tile.face_total.Goals as goal

pub loop-y-init : goal.loop-y-init
loop-y-init c =
    let k = c.args.self.now in
    let s = k.sheet.phase.now in
    let v = k.window in
    let f = face_at (held_raster k) k.number c.args.faces.now in
    record {
      sum = part_starts s.width s.height v.x0 v.x1 v.y0 v.y1 (product_at k c.args.faces.now) (cells_across_fit k f) (cells_along_fit k f) (product_outside k f);
      small = omega arith;
    }

pub loop-x-init : goal.loop-x-init
loop-x-init c =
    let k = c.args.self.now in
    let s = k.sheet.phase.now in
    let v = k.window in
    let f = face_at (held_raster k) k.number c.args.faces.now in
    record {
      sum = row_starts s.width s.height v.x0 v.x1 v.y0 v.y1 (product_at k c.args.faces.now) (cells_across_fit k f) (cells_along_fit k f) (product_outside k f) c.loop-y.y _ (omega arith) c.loop-y.invariant.sum;
      small = omega (arith, c.loop-y.invariant.small);
    }

pub overflow_add-total : goal.overflow_add-total
overflow_add-total c =
    let k = c.args.self.now in
    let f = face_at (held_raster k) k.number c.args.faces.now in
    (sum_fits (to_z w128 c.loop-x.total-bits) c.face_product-total.result c.loop-x.x c.loop-y.y c.loop-x.invariant.small c.face_product-total.ensures.small (cells_before_fit k f c.loop-x.x c.loop-y.y c.loop-x-test.true c.loop-y-test.true)).2

pub loop-x-preserved : goal.loop-x-preserved
loop-x-preserved c =
    let k = c.args.self.now in
    let f = face_at (held_raster k) k.number c.args.faces.now in
    let fit = sum_fits (to_z w128 c.loop-x.total-bits) c.face_product-total.result c.loop-x.x c.loop-y.y c.loop-x.invariant.small c.face_product-total.ensures.small (cells_before_fit k f c.loop-x.x c.loop-y.y c.loop-x-test.true c.loop-y-test.true) in
    record {
      sum = fit.0 ∙ column_more (product_at k c.args.faces.now) c.loop-x.x c.loop-y.y _ _ _ c.loop-x.invariant.sum c.face_product-total.ensures.value;
      small = rw fit.0 fit.1;
    }

pub loop-y-preserved : goal.loop-y-preserved
loop-y-preserved c =
    let k = c.args.self.now in
    let s = k.sheet.phase.now in
    let v = k.window in
    let f = face_at (held_raster k) k.number c.args.faces.now in
    record {
      sum = row_more s.width s.height v.x0 v.x1 v.y0 v.y1 (product_at k c.args.faces.now) (cells_across_fit k f) (cells_along_fit k f) (product_outside k f) c.loop-x.x c.loop-y.y _ (omega arith) (omega arith) c.loop-x.invariant.sum;
      small = omega (arith, c.loop-x.invariant.small, k.pixels.across, k.sheet.phase.now.wide);
    }

pub returns-clause-small : goal.returns-clause-small
returns-clause-small c =
    let k = c.args.self.now in
    omega (arith, c.loop-y.invariant.small, k.pixels.along, k.sheet.phase.now.high)

pub returns-clause-value : goal.returns-clause-value
unfolding face_total
returns-clause-value c =
    let k = c.args.self.now in
    let s = k.sheet.phase.now in
    let v = k.window in
    let f = face_at (held_raster k) k.number c.args.faces.now in
    part_ends s.width s.height v.x0 v.x1 v.y0 v.y1 (product_at k c.args.faces.now) (cells_across_fit k f) (cells_along_fit k f) (product_outside k f) c.loop-y.y _ (omega arith) c.loop-y.invariant.sum
