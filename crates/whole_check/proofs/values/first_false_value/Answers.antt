use Rattle.sums_and_lists.proofs.Tests.{true_and_false}
use Rattle.raster_model.specs.Masks.{open_at}
use Rattle.raster_model.specs.Sheets.{sheet_raster}
use Rattle.grid_writer.specs.Grids.{value_at}
use Rattle.whole_check.proofs.StandLemmas.{at_anchor}
use Rattle.whole_check.proofs.values.first_false_value.Goals as goal

pub returns-in_default-unfit-clause-found : goal.returns-in_default-unfit-clause-found
returns-in_default-unfit-clause-found c =
    let v = c.args.values.now in
    let pixel = c.in-Some-unfit.pixel in
    let anchor = c.in-Some.anchor in
    let first = c.in-Some.ensures.found in
    at_anchor (sheet_raster v.sheet.now) (open_at v.mask.now) (value_at v.sheet.now.phase.now.width v.values.now) pixel.0 pixel.1 anchor.0 anchor.1 c.in-Some-unfit.ensures.found first.0 (λ e. true_and_false c.is_earlier.result (c.is_earlier.ensures.1 e) c.if-is_earlier.false) first.1
