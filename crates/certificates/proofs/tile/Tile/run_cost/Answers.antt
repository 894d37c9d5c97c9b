use Rattle.std.proofs.Common.{◌≡◌, ◌∙◌, ℕ, ap, arith}
use Rattle.raster_model.specs.Sums.{sum_row}
use Rattle.certificates.specs.TileWords.{cost_at}
use Rattle.certificates.proofs.CostLemmas.{ends_of_columns}
use Rattle.certificates.proofs.SeamCosts.{adds}
use Rattle.certificates.proofs.tile.Tile.run_cost.Goals as goal

pub loop-column-init : goal.loop-column-init
loop-column-init g c = record { sum = c.requires.value; small = c.requires.small }

pub open_cost_from-cost-requires : goal.open_cost_from-cost-requires
open_cost_from-cost-requires g c =
    let k = c.args.self.now in
    let l = c.loop-column-test.true in
    record {
      within = (omega (arith, c.requires.within), omega (arith, l, c.requires.place), c.requires.within.2, c.requires.within.3);
      inside = (omega (arith, l, c.requires.place), c.requires.place.2 (omega (arith, l)));
      known = c.requires.known;
      unmasked = ends_of_columns k c.args.x c.args.end c.loop-column.column c.args.y (c.requires.unmasked (omega (arith, l))) (omega arith) l;
    }

pub loop-column-preserved : goal.loop-column-preserved
loop-column-preserved g c =
    let k = c.args.self.now in
    let f = cost_at k (g.H.Heights.cycles_at c.args.heights.now) in
    record {
      sum = adds c.loop-column.column c.loop-column.cost c.open_cost_from-cost.result (λ x. f x c.args.y) c.loop-column.invariant.sum c.open_cost_from-cost.ensures.value;
      small = omega (arith, c.loop-column.invariant.small, c.open_cost_from-cost.ensures.small);
    }

pub returns-clause-value : goal.returns-clause-value
returns-clause-value g c =
    let k = c.args.self.now in
    let f = cost_at k (g.H.Heights.cycles_at c.args.heights.now) in
    let e : c.loop-column.column ≡ c.args.end = omega (arith, c.requires.place) in
    c.loop-column.invariant.sum ∙ ap (λ (n : ℕ). sum_row n f c.args.y) e

pub returns-clause-small : goal.returns-clause-small
returns-clause-small g c =
    let e : c.loop-column.column ≡ c.args.end = omega (arith, c.requires.place) in
    omega (arith, e, c.loop-column.invariant.small)
