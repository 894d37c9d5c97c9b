use Rattle.std.proofs.Common.{◌+◌, arith}
use Rattle.certificates.specs.TileWords.{IsInner, FitAt}
use Rattle.certificates.proofs.EdgeLemmas.{none_before, all_before}
use Rattle.certificates.proofs.TileParts.{in_window}
use Rattle.certificates.proofs.tile.Tile.first_unfit.Goals as goal

pub loop-y-init : goal.loop-y-init
loop-y-init c =
    let k = c.args.self.now in
    let v = k.window in
    none_before (IsInner k) (FitAt k c.args.faces.now) v.x0 (v.x1 + 1) v.y0 (v.y1 + 1) (in_window k)

pub first_unfit_in-requires : goal.first_unfit_in-requires
first_unfit_in-requires c = record { count = c.requires.count; row = (omega arith, omega arith); before = c.loop-y.invariant }

pub returns-in-Some-clause-found : goal.returns-in-Some-clause-found
returns-in-Some-clause-found c = c.in-Some.ensures.found

pub loop-y-preserved : goal.loop-y-preserved
loop-y-preserved c = c.in_default.ensures.none

pub returns-clause-none : goal.returns-clause-none
returns-clause-none c =
    let k = c.args.self.now in
    let v = k.window in
    all_before (IsInner k) (FitAt k c.args.faces.now) v.x0 (v.x1 + 1) v.y0 (v.y1 + 1) (in_window k) c.loop-y.y (omega arith) c.loop-y.invariant
