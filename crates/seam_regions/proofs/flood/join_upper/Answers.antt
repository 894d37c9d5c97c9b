use Rattle.std.proofs.Common.{ℕ, ◌∙◌, sym, arith, subst}
use Rattle.raster_model.specs.Masks.{open_at}
use Rattle.joined_cells.proofs.PixelLemmas.{upper_masked}
use Rattle.joined_cells.proofs.TileLemmas.{upper_none, upper_joined}
use Rattle.seam_regions.specs.Flood.{HasJoined, tiled, tiling_joined}
use Rattle.seam_regions.proofs.PieceLemmas.{column, no_tile_above, row_above, tile_above}
use Rattle.seam_regions.proofs.flood.join_upper.Goals as goal

pub returns-then-piece : goal.returns-then-piece
returns-then-piece c =
    let g = c.args.tiling.now in
    let mask = open_at c.args.mask.now in
    let p = c.args.piece in
    let is = c.requires.piece in
    let last = c.requires.column.1 in
    let none = upper_none (tiled g) mask c.args.x p.y (column g p is c.args.x last) is.row c.args.parents.now c.requires.flood (no_tile_above g p is c.args.x last c.if-piece.true) in
    subst (λ (n : ℕ). HasJoined g mask n c.args.parents.now) (omega arith) none

pub returns-then-is_open : goal.returns-then-is_open
returns-then-is_open c =
    let g = c.args.tiling.now in
    let mask = open_at c.args.mask.now in
    let p = c.args.piece in
    let is = c.requires.piece in
    let last = c.requires.column.1 in
    let top = c.if-piece.false in
    let flood = c.requires.flood in
    let joined = upper_joined (tiled g) mask c.args.x p.y (column g p is c.args.x last) is.row c.args.parents.now flood (row_above g p is top) (tile_above g p is c.args.x last top) (sym c.is_open.ensures ∙ c.if-is_open.true) c.requires.open c.join.new.parents c.join.auto.parents (c.join.ensures flood.root flood.forest) in
    subst (λ (n : ℕ). HasJoined g mask n c.join.new.parents) (omega arith) joined

pub returns-else-is_open : goal.returns-else-is_open
returns-else-is_open c =
    let g = c.args.tiling.now in
    let mask = open_at c.args.mask.now in
    let p = c.args.piece in
    let is = c.requires.piece in
    let masked = upper_masked (tiling_joined g mask) c.args.x p.y (column g p is c.args.x c.requires.column.1) is.row c.args.parents.now c.requires.flood (sym c.is_open.ensures ∙ c.if-is_open.false) in
    subst (λ (n : ℕ). HasJoined g mask n c.args.parents.now) (omega arith) masked
