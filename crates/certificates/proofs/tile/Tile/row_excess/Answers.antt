use Rattle.std.proofs.Common.{arith}
use Rattle.certificates.proofs.RowLemmas.{no_row_over}
use Rattle.certificates.proofs.tile.Tile.row_excess.Goals as goal

pub returns-then-self-eq1-clause-value : goal.returns-then-self-eq1-clause-value
returns-then-self-eq1-clause-value c =
    let k = c.args.self.now in
    no_row_over k c.args.faces.now c.args.y c.if-self-eq1.true c.requires.fit (omega (arith, c.requires.row, k.pixels.along))
