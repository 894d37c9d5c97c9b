use Rattle.certificates.specs.TileWords.{IsInner, FitAt}
use Rattle.certificates.proofs.EdgeLemmas.{right_first, down_first, both_hold}
use Rattle.certificates.proofs.tile.Tile.first_unfit_from.Goals as goal

pub returns-then-is_unfit-clause-found : goal.returns-then-is_unfit-clause-found
returns-then-is_unfit-clause-found c =
    let k = c.args.self.now in
    right_first (IsInner k) (FitAt k c.args.faces.now) c.args.x c.args.y c.if-is_unfit.ensures

pub returns-then-is_unfit-2-clause-found : goal.returns-then-is_unfit-2-clause-found
returns-then-is_unfit-2-clause-found c =
    let k = c.args.self.now in
    down_first (IsInner k) (FitAt k c.args.faces.now) c.args.x c.args.y c.if-is_unfit.ensures c.if-is_unfit-2.ensures

pub returns-else-is_unfit-2-clause-none : goal.returns-else-is_unfit-2-clause-none
returns-else-is_unfit-2-clause-none c =
    let k = c.args.self.now in
    both_hold (IsInner k) (FitAt k c.args.faces.now) c.args.x c.args.y c.if-is_unfit.ensures c.if-is_unfit-2.ensures
