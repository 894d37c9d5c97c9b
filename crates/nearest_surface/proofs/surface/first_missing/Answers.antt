use Rattle.std.proofs.Common.{FitsSigned, arith, pos, rules, sym, vec_len, w64, ◌∙◌}
use Rattle.std.proofs.lemmas.List.{get_or_read_under}
use Rattle.raster_model.specs.Masks.{open_at}
use Rattle.grid_writer.specs.Grids.{grid_of}
use Rattle.grid_writer.proofs.NoData.{is_no_data}
use Rattle.nearest_surface.specs.Nearest.{IsMissing}
use Rattle.nearest_surface.proofs.PlaceLemmas.{at_no_pixel, first_place, value_there}
use Rattle.nearest_surface.proofs.surface.first_missing.Goals as goal

pub returns-then-index-clause-found : goal.returns-then-index-clause-found
returns-then-index-clause-found c =
    let g = c.args.given.now in
    let place = c.loop-place.place in
    let inside = c.loop-place-test.true in
    let full = g.full in
    let same = get_or_read_under g.values.items place (vec_len g.values) c.index.result.now (pos 0) c.index.ensures (omega (arith, inside, full)) g.values.ok.0 in
    let fits : FitsSigned w64 c.index.result.now = search rules in
    first_place g.width g.height (IsMissing (open_at c.args.mask.now) (grid_of g).values) place inside c.loop-place.invariant (sym c.if-is_open.ensures, value_there g.width place g.values.items ∙ sym same ∙ is_no_data c.index.result.now fits c.if-index.true)

pub returns-clause-none : goal.returns-clause-none
returns-clause-none c =
    let g = c.args.given.now in
    let end = c.loop-place-test.false in
    at_no_pixel g.width g.height (IsMissing (open_at c.args.mask.now) (grid_of g).values) (λ k l p. c.loop-place.invariant k (omega (arith, l, end)) p)
