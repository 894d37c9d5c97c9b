use Rattle.certificates.proofs.FitRows.{row_fits}
use Rattle.certificates.proofs.tile.Tile.fit_in_row.Goals as goal

pub returns : goal.returns
returns c = λ t.
    (let sides = c.fit_at_sides.ensures t in
    row_fits c.args.self.now c.args.faces.now c.args.y (c.fit_right.ensures c.if-not-fit_right.false) (c.fit_down.ensures c.if-not-fit_down.false) sides.0 sides.1)
