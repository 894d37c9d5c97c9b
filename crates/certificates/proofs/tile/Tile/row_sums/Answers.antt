use Rattle.std.proofs.Common.{arith}
use Rattle.certificates.proofs.RowLemmas.{row_held}
use Rattle.certificates.proofs.tile.Tile.row_sums.Goals as goal

pub returns : goal.returns
returns g c =
    row_held c.args.self.now (g.H.Heights.cycles_at c.args.heights.now) c.args.faces.now c.args.y c.row_bound-bound.result c.row_cost-cost.result (c.fit_from.ensures c.if-not-fit_from.false)
    c.row_bound-bound.ensures.value c.row_bound-bound.ensures.small c.row_cost-cost.ensures.value (omega (arith, c.row_cost-cost.ensures.small))
