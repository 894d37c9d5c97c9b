use Rattle.std.proofs.Common.{◌≡◌, ◌/◌, ◌%◌, arith, refl}
use Rattle.std.proofs.lemmas.Nat.{div-mul-add, mod-mul-add}
use Rattle.raster_model.specs.Tiles.{columns_of_tiles, tile_at, window_of}
use Rattle.raster_model.proofs.TileLemmas.{block_below}
use Rattle.surface_snapshots.proofs.windows.window_at.Goals as goal

pub returns : goal.returns
unfolding window_of
returns c =
    let g = c.args.tiling.now in
    let n = columns_of_tiles g in
    let below = block_below c.args.x g.width g.side (omega (arith, g.sides)) c.requires.across in
    let column : tile_at g c.args.x c.args.y % n ≡ c.args.x / g.side = mod-mul-add (c.args.y / g.side) n (c.args.x / g.side) below in
    let row : tile_at g c.args.x c.args.y / n ≡ c.args.y / g.side = div-mul-add (c.args.y / g.side) n (c.args.x / g.side) below in
    rw (c.min.ensures, c.min-2.ensures, column, row) refl
