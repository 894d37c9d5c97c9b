use Rattle.std.proofs.Common.{ℕ, ◌∙◌, sym, arith, subst}
use Rattle.raster_model.specs.Masks.{open_at}
use Rattle.joined_cells.proofs.PixelLemmas.{pixel_masked}
use Rattle.seam_regions.specs.Flood.{HasJoined, tiling_joined}
use Rattle.seam_regions.proofs.PieceLemmas.{column}
use Rattle.seam_regions.proofs.flood.join_pixel.Goals as goal

pub returns-else-is_open : goal.returns-else-is_open
returns-else-is_open c =
    let g = c.args.tiling.now in
    let mask = open_at c.args.mask.now in
    let p = c.args.piece in
    let masked = pixel_masked (tiling_joined g mask) c.args.x p.y (column g p c.requires.piece c.args.x c.requires.column.1) c.requires.piece.row c.args.parents.now c.requires.flood (sym c.is_open.ensures ∙ c.if-is_open.false) in
    subst (λ (n : ℕ). HasJoined g mask n c.args.parents.now) (omega arith) masked
