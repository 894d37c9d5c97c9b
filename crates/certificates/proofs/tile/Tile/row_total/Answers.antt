use Rattle.std.proofs.Common.{◌≡◌, ◌≤◌, ◌∙◌, ℕ, ap, arith, sym, to_z}
use Rattle.std.specs.Int.{w128}
use Rattle.raster_model.specs.Sums.{sum_row}
use Rattle.certificates.specs.TileWords.{product_at}
use Rattle.certificates.proofs.FaceLemmas.{sum_fits}
use Rattle.certificates.proofs.RowLemmas.{no_products, one_more_product, products_end, products_start}
use Rattle.certificates.proofs.tile.Tile.row_total.Goals as goal

pub returns-then-y-self-clause-value : goal.returns-then-y-self-clause-value
returns-then-y-self-clause-value c = no_products c.args.self.now c.args.faces.now c.args.y (omega (arith, c.if-y-self.true))

pub loop-x-init : goal.loop-x-init
loop-x-init c = record {
  sum = products_start c.args.self.now c.args.faces.now c.args.y (omega (arith, c.if-y-self.false, c.requires.row));
  small = omega arith;
}

pub overflow_add-total : goal.overflow_add-total
overflow_add-total c =
    let k = c.args.self.now in
    let l : c.loop-x.x ≤ 65535 = omega (arith, c.loop-x-test.true, k.pixels.across, k.sheet.phase.now.wide) in
    (sum_fits (to_z w128 c.loop-x.total-bits) c.face_product-total.result c.loop-x.x 0 (omega (arith, c.loop-x.invariant.small)) c.face_product-total.ensures.small (omega (arith, l))).2

pub loop-x-preserved : goal.loop-x-preserved
loop-x-preserved c =
    let k = c.args.self.now in
    let l : c.loop-x.x ≤ 65535 = omega (arith, c.loop-x-test.true, k.pixels.across, k.sheet.phase.now.wide) in
    let fit = sum_fits (to_z w128 c.loop-x.total-bits) c.face_product-total.result c.loop-x.x 0 (omega (arith, c.loop-x.invariant.small)) c.face_product-total.ensures.small (omega (arith, l)) in
    record {
      sum = fit.0 ∙ one_more_product (product_at k c.args.faces.now) c.loop-x.x c.args.y _ _ c.loop-x.invariant.sum c.face_product-total.ensures.value;
      small = rw fit.0 (omega (arith, fit.1));
    }

pub returns-clause-value : goal.returns-clause-value
returns-clause-value c =
    let k = c.args.self.now in
    let e : c.loop-x.x ≡ k.window.x1 = omega arith in
    c.loop-x.invariant.sum
    ∙ ap (λ (n : ℕ). sum_row n (product_at k c.args.faces.now) c.args.y) e
    ∙ sym (products_end k c.args.faces.now c.args.y (omega (arith, c.if-y-self.false, c.requires.row)))

pub returns-clause-small : goal.returns-clause-small
returns-clause-small c =
    let k = c.args.self.now in
    let l : c.loop-x.x ≤ 65535 = omega (arith, k.pixels.across, k.sheet.phase.now.wide) in
    omega (arith, l, c.loop-x.invariant.small)
