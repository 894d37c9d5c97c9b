use Rattle.std.proofs.Common.{arith}
use Rattle.certificates.proofs.RowLemmas.{none_fit, one_more_fits, row_fits}
use Rattle.certificates.proofs.tile.Tile.fit_from.Goals as goal

pub loop-x-init : goal.loop-x-init
loop-x-init c = none_fit c.args.self.now c.args.faces.now c.args.y

pub loop-x-preserved : goal.loop-x-preserved
loop-x-preserved c = one_more_fits c.args.self.now c.args.faces.now c.loop-x.x c.args.y c.loop-x.invariant c.in_default.ensures.none

pub returns : goal.returns
returns c t = row_fits c.args.self.now c.args.faces.now c.loop-x.x c.args.y (omega arith) c.loop-x.invariant
