use Rattle.certificates.specs.TileWords.{held_raster, held_mask}
use Rattle.certificates.proofs.ZeroLemmas.{zeros_bound, zeros_fit}
use Rattle.certificates.proofs.tile.Tile.bound.Goals as goal

pub returns-then-are_zeros-clause-total : goal.returns-then-are_zeros-clause-total
returns-then-are_zeros-clause-total c =
    zeros_bound (held_raster c.args.self.now) c.args.self.now.number c.args.faces.now (c.are_zeros.ensures c.if-are_zeros.true) (held_mask c.args.self.now)

pub returns-then-are_zeros-clause-fit : goal.returns-then-are_zeros-clause-fit
returns-then-are_zeros-clause-fit c =
    λ e i. zeros_fit (held_raster c.args.self.now) c.args.self.now.number c.args.faces.now (c.are_zeros.ensures c.if-are_zeros.true) (held_mask c.args.self.now) e
