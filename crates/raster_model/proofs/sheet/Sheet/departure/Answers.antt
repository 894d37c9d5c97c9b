use Rattle.std.proofs.Common.{arith, ◌∙◌}
use Rattle.std.proofs.lemmas.Int.{ints}
use Rattle.raster_model.specs.Sheets.{sheet_raster}
use Rattle.raster_model.proofs.DepartureLemmas.{sum_fits, departure_at}
use Rattle.raster_model.proofs.sheet.Sheet.departure.Goals as goal

pub returns-clause-value : goal.returns-clause-value
returns-clause-value g c =
    sum_fits c.cycles-from.result c.cycles-to.result c.turns.result c.from.result c.cycles-from.ensures.small c.cycles-to.ensures.small c.turns.ensures.small c.from.ensures
    ∙ departure_at (sheet_raster c.args.self.now) (g.H.Heights.cycles_at c.args.heights.now) c.args.edge c.end_x.result c.end_y.result c.cycles-from.result c.cycles-to.result c.turns.result c.end_x.ensures c.end_y.ensures c.cycles-from.ensures.value c.cycles-to.ensures.value c.turns.ensures.value

pub returns-clause-small : goal.returns-clause-small
returns-clause-small g c = omega (arith, ints)
