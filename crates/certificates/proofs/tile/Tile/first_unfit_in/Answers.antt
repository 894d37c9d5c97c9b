use Rattle.std.proofs.Common.{◌+◌, arith}
use Rattle.certificates.specs.TileWords.{IsInner, FitAt}
use Rattle.certificates.proofs.EdgeLemmas.{one_more, row_more, whole_row, first_of_all}
use Rattle.certificates.proofs.TileParts.{in_window}
use Rattle.certificates.proofs.tile.Tile.first_unfit_in.Goals as goal

pub returns-then-fit_in_row-clause-none : goal.returns-then-fit_in_row-clause-none
returns-then-fit_in_row-clause-none c =
    let k = c.args.self.now in
    let v = k.window in
    whole_row (IsInner k) (FitAt k c.args.faces.now) v.x0 (v.x1 + 1) v.y0 (v.y1 + 1) (in_window k) c.args.y c.requires.before (c.fit_in_row.ensures c.if-fit_in_row.true)

pub loop-x-init : goal.loop-x-init
loop-x-init c = c.requires.before

pub returns-in-Some-clause-found : goal.returns-in-Some-clause-found
returns-in-Some-clause-found c =
    let k = c.args.self.now in
    first_of_all (IsInner k) (FitAt k c.args.faces.now) c.loop-x.x c.args.y c.in-Some.edge c.loop-x.invariant c.in-Some.ensures.found

pub loop-x-preserved : goal.loop-x-preserved
loop-x-preserved c =
    let k = c.args.self.now in
    one_more (IsInner k) (FitAt k c.args.faces.now) c.loop-x.x c.args.y c.loop-x.invariant c.in_default.ensures.none

pub returns-clause-none : goal.returns-clause-none
returns-clause-none c =
    let k = c.args.self.now in
    let v = k.window in
    row_more (IsInner k) (FitAt k c.args.faces.now) v.x0 (v.x1 + 1) v.y0 (v.y1 + 1) (in_window k) c.loop-x.x c.args.y (omega arith) c.loop-x.invariant
