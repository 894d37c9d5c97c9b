use Rattle.std.proofs.Common.{◌+◌, ◌*◌, ◌∙◌, sym}
use Rattle.raster_model.specs.Masks.{open_at}
use Rattle.joined_cells.proofs.NumberLemmas.{at_place, numbered_masked}
use Rattle.seam_regions.specs.Flood.{tiling_joined}
use Rattle.seam_regions.proofs.NumberLemmas.{place_inside}
use Rattle.seam_regions.proofs.numbers.number_pixel.Goals as goal

pub returns : goal.returns
returns c =
    let g = c.args.tiling.now in
    let p = c.requires.pixel in
    numbered_masked (tiling_joined g (open_at c.args.mask.now)) (c.args.y * g.width + c.args.x) c.args.count c.args.labels.now c.requires.numbers (place_inside g c.args.x c.args.y _ c.requires.numbers.size p.0 p.1)
    (at_place (tiling_joined g (open_at c.args.mask.now)) c.args.x c.args.y p.0 ∙ sym c.is_open.ensures ∙ c.if-is_open.false)
