use Rattle.std.proofs.Common.{◌+◌, ◌*◌, ◌≤◌, ◌∙◌, arith, refl}
use Rattle.raster_model.specs.Masks.{open_at}
use Rattle.joined_cells.proofs.NumberLemmas.{at_place, count_within}
use Rattle.seam_regions.specs.Flood.{tiling_joined}
use Rattle.seam_regions.proofs.NumberLemmas.{place_inside}
use Rattle.seam_regions.proofs.numbers.number_open_pixel.Goals as goal

pub number_place-requires-clause-within : goal.number_place-requires-clause-within
number_place-requires-clause-within c = place_inside c.args.tiling.now c.args.x c.args.y _ c.requires.numbers.size c.requires.pixel.0 c.requires.pixel.1

pub number_place-requires-clause-room : goal.number_place-requires-clause-room
number_place-requires-clause-room c =
    let g = c.args.tiling.now in
    let p = c.requires.pixel in
    let place = c.args.y * g.width + c.args.x in
    let few : c.args.count ≤ place = count_within (tiling_joined g (open_at c.args.mask.now)) place c.args.count c.args.labels.now c.requires.numbers in
    omega (arith, few, place_inside g c.args.x c.args.y (g.width * g.height) refl p.0 p.1, g.few)

pub returns : goal.returns
returns c =
    let joining = tiling_joined c.args.tiling.now (open_at c.args.mask.now) in
    c.number_place.ensures joining c.requires.numbers (at_place joining c.args.x c.args.y c.requires.pixel.0 ∙ c.requires.open)
