use Rattle.std.proofs.Common.{◌∙◌, ◌+◌, ◌-◌, ◌*◌, ◌<◌, sym, arith}
use Rattle.raster_model.specs.Masks.{open_at}
use Rattle.joined_cells.proofs.PixelLemmas.{left_masked}
use Rattle.joined_cells.proofs.TileLemmas.{left_none, left_joined}
use Rattle.seam_regions.specs.Flood.{tiled, tiling_joined}
use Rattle.seam_regions.proofs.PieceLemmas.{column, no_tile_left, tile_left}
use Rattle.seam_regions.proofs.flood.join_left.Goals as goal

pub returns-then-x-piece : goal.returns-then-x-piece
returns-then-x-piece c =
    let g = c.args.tiling.now in
    let p = c.args.piece in
    let is = c.requires.piece in
    let x = c.args.x in
    let last = c.requires.column.1 in
    left_none (tiled g) (open_at c.args.mask.now) x p.y (column g p is x last) is.row c.args.parents.now c.requires.flood (no_tile_left g p is x last p.y c.if-x-piece.true)

pub returns-then-is_open : goal.returns-then-is_open
returns-then-is_open c =
    let g = c.args.tiling.now in
    let p = c.args.piece in
    let is = c.requires.piece in
    let x = c.args.x in
    let last = c.requires.column.1 in
    let flood = c.requires.flood in
    let after : p.first < x = omega (arith, c.if-x-piece.false, c.requires.column) in
    let place = p.y * g.width + x in
    let forest = c.hang.ensures flood.root flood.forest (flood.flooded.alone place (omega arith)) (omega (arith, flood.flooded.least (place - 1), after)) in
    left_joined (tiled g) (open_at c.args.mask.now) x p.y (column g p is x last) is.row c.args.parents.now flood (omega (arith, after)) (tile_left g p is x last p.y after) (sym c.is_open.ensures ∙ c.if-is_open.true) c.requires.open c.hang.new.parents c.hang.auto.parents forest

pub returns-else-is_open : goal.returns-else-is_open
returns-else-is_open c =
    let g = c.args.tiling.now in
    let p = c.args.piece in
    let is = c.requires.piece in
    let x = c.args.x in
    left_masked (tiling_joined g (open_at c.args.mask.now)) x p.y (column g p is x c.requires.column.1) is.row c.args.parents.now c.requires.flood (sym c.is_open.ensures ∙ c.if-is_open.false)
