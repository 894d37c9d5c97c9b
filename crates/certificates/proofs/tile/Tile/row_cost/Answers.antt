use Rattle.std.proofs.Common.{◌≡◌, ◌+◌, ◌≤◌, ◌∙◌, ℕ, ap, sym, arith}
use Rattle.raster_model.specs.Sums.{sum_row}
use Rattle.raster_model.proofs.WindowCosts.{row_starts, row_ends}
use Rattle.certificates.specs.TileWords.{held_mask, held_raster, surface_of_cycles, cost_at}
use Rattle.certificates.proofs.SeamCosts.{adds}
use Rattle.certificates.proofs.tile.Tile.row_cost.Goals as goal

pub loop-x-init : goal.loop-x-init
loop-x-init g c =
    let k = c.args.self.now in
    let S = surface_of_cycles k (g.H.Heights.cycles_at c.args.heights.now) in
    record {
      within = (omega arith, omega (arith, k.pixels.across));
      sum = sym (row_starts (held_raster k) (held_mask k) S k.number k.window k.pixels c.args.y (omega (arith, c.requires.row, k.pixels.along)));
      small = omega arith;
    }

pub loop-x-preserved : goal.loop-x-preserved
loop-x-preserved g c =
    let k = c.args.self.now in
    let f = cost_at k (g.H.Heights.cycles_at c.args.heights.now) in
    let to = c.open_until-end.ensures.place in
    record {
      within = (omega (arith, to, c.loop-x.invariant.within), omega (arith, to));
      sum = adds c.open_until-end.result c.run_cost-cost.result c.cost_from-cost.result (λ x. f x c.args.y) c.run_cost-cost.ensures.value c.cost_from-cost.ensures.value;
      small = omega (arith, c.run_cost-cost.ensures.small, c.cost_from-cost.ensures.small);
    }

pub loop-x-smaller : goal.loop-x-smaller
loop-x-smaller g c = omega (arith, c.open_until-end.ensures.place, c.loop-x-test.true)

pub returns-clause-value : goal.returns-clause-value
returns-clause-value g c =
    let k = c.args.self.now in
    let S = surface_of_cycles k (g.H.Heights.cycles_at c.args.heights.now) in
    let f = cost_at k (g.H.Heights.cycles_at c.args.heights.now) in
    let e : c.loop-x.x ≡ k.window.x1 + 1 = omega (arith, c.loop-x.invariant.within, c.loop-x-test.false) in
    c.loop-x.invariant.sum
    ∙ ap (λ (n : ℕ). sum_row n f c.args.y) e
    ∙ sym (row_ends (held_raster k) (held_mask k) S k.number k.window k.pixels c.args.y (omega (arith, c.requires.row, k.pixels.along)))

pub returns-clause-small : goal.returns-clause-small
returns-clause-small g c =
    let k = c.args.self.now in
    let e : c.loop-x.x ≤ 65535 = omega (arith, c.loop-x.invariant.within, k.pixels.across, k.sheet.phase.now.wide) in
    omega (arith, e, c.loop-x.invariant.small)
