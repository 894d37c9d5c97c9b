use Rattle.std.proofs.Common.{◌≡◌, ◌+◌, ◌≤◌, ◌∙◌, ℕ, ap, sym, arith}
use Rattle.raster_model.specs.Cells.{face_at}
use Rattle.raster_model.specs.Sums.{sum_row}
use Rattle.raster_model.proofs.WindowCosts.{over_row_starts, over_row_ends}
use Rattle.certificates.specs.TileWords.{held_mask, held_raster, over_at}
use Rattle.certificates.proofs.SeamCosts.{adds}
use Rattle.certificates.proofs.tile.Tile.row_over.Goals as goal

pub loop-x-init : goal.loop-x-init
loop-x-init c =
    let k = c.args.self.now in
    record {
      sum = sym (over_row_starts (held_raster k) (held_mask k) (face_at (held_raster k) k.number c.args.faces.now) k.number k.window k.pixels c.args.y (omega (arith, c.requires.row, k.pixels.along)));
      small = omega arith;
    }

pub overflow_add-over : goal.overflow_add-over
overflow_add-over c =
    let k = c.args.self.now in
    let e : c.loop-x.x ≤ 65535 = omega (arith, c.loop-x-test.true, k.pixels.across, k.sheet.phase.now.wide) in
    record { fits = omega (arith, e, c.loop-x.invariant.small, c.over_from-over.ensures.small) }

pub loop-x-preserved : goal.loop-x-preserved
loop-x-preserved c =
    let k = c.args.self.now in
    let f = over_at k c.args.faces.now in
    record {
      sum = adds c.loop-x.x c.loop-x.over c.over_from-over.result (λ x. f x c.args.y) c.loop-x.invariant.sum c.over_from-over.ensures.value;
      small = omega (arith, c.loop-x.invariant.small, c.over_from-over.ensures.small);
    }

pub returns-clause-value : goal.returns-clause-value
returns-clause-value c =
    let k = c.args.self.now in
    let f = over_at k c.args.faces.now in
    let e : c.loop-x.x ≡ k.window.x1 + 1 = omega arith in
    c.loop-x.invariant.sum
    ∙ ap (λ (n : ℕ). sum_row n f c.args.y) e
    ∙ sym (over_row_ends (held_raster k) (held_mask k) (face_at (held_raster k) k.number c.args.faces.now) k.number k.window k.pixels c.args.y (omega (arith, c.requires.row, k.pixels.along)))

pub returns-clause-small : goal.returns-clause-small
returns-clause-small c =
    let k = c.args.self.now in
    let e : c.loop-x.x ≤ 65535 = omega (arith, k.pixels.across, k.sheet.phase.now.wide) in
    omega (arith, e, c.loop-x.invariant.small)
