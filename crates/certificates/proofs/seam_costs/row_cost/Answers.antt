use Rattle.std.proofs.Common.{◌≡◌, ◌≤◌, ◌∙◌, ◌+◌, ℕ, ap, arith, sym}
use Rattle.raster_model.specs.Masks.{open_at}
use Rattle.raster_model.specs.Raster.{lifted, seam_cost_from}
use Rattle.raster_model.specs.Scene.{raster_of}
use Rattle.raster_model.specs.Sums.{sum_row}
use Rattle.certificates.proofs.PassLemmas.{cost_past}
use Rattle.certificates.proofs.SeamCosts.{adds}
use Rattle.certificates.proofs.seam_costs.row_cost.Goals as goal
use Rattle.sums_and_lists.proofs.SumLemmas.{sum_below-none}

pub loop-x-init : goal.loop-x-init
loop-x-init g c =
    let r = raster_of c.args.scene.now in
    let f = seam_cost_from r (open_at c.args.mask.now) (lifted r (g.H.Heights.cycles_at c.args.heights.now)) in
    let to = c.next_start-x.ensures in
    record {
      within = to.place.1;
      sum = cost_past r (open_at c.args.mask.now) (lifted r (g.H.Heights.cycles_at c.args.heights.now)) 0 c.next_start-x.result c.args.y _ to.passed to.place.0 to.place.1 c.requires.row (sym (sum_below-none (λ x. f x c.args.y)));
      small = omega arith;
    }

pub loop-x-preserved : goal.loop-x-preserved
loop-x-preserved g c =
    let r = raster_of c.args.scene.now in
    let f = seam_cost_from r (open_at c.args.mask.now) (lifted r (g.H.Heights.cycles_at c.args.heights.now)) in
    let to = c.next_start-x-in-loop-x.ensures in
    record {
      within = to.place.1;
      sum = cost_past r (open_at c.args.mask.now) (lifted r (g.H.Heights.cycles_at c.args.heights.now)) (c.loop-x.x + 1) c.next_start-x-in-loop-x.result c.args.y _ to.passed to.place.0 to.place.1 c.requires.row
          (adds c.loop-x.x c.loop-x.cost c.cost_from-cost.result (λ x. f x c.args.y) c.loop-x.invariant.sum c.cost_from-cost.ensures.value);
      small = omega (arith, c.loop-x.invariant.small, c.cost_from-cost.ensures.small, to.place.0);
    }

pub loop-x-smaller : goal.loop-x-smaller
loop-x-smaller g c = omega (arith, c.next_start-x-in-loop-x.ensures.place.0, c.loop-x-test.true)

pub returns-clause-value : goal.returns-clause-value
returns-clause-value g c =
    let r = raster_of c.args.scene.now in
    let f = seam_cost_from r (open_at c.args.mask.now) (lifted r (g.H.Heights.cycles_at c.args.heights.now)) in
    let e : c.loop-x.x ≡ c.args.scene.now.phase.width = omega (arith, c.loop-x.invariant.within, c.loop-x-test.false) in
    c.loop-x.invariant.sum ∙ ap (λ (n : ℕ). sum_row n f c.args.y) e

pub returns-clause-small : goal.returns-clause-small
returns-clause-small g c =
    let e : c.loop-x.x ≤ 4096 = omega (arith, c.loop-x.invariant.within, c.args.scene.now.wide) in
    omega (arith, e, c.loop-x.invariant.small)
