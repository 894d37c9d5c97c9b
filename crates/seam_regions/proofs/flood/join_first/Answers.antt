use Rattle.std.proofs.Common.{ℕ, ◌+◌, ◌-◌, ◌*◌, arith, subst, refl, length}
use Rattle.raster_model.specs.Masks.{open_at}
use Rattle.joined_cells.proofs.TileLemmas.{left_none, upper_alone, upper_none}
use Rattle.seam_regions.specs.Flood.{HasJoined, tiled}
use Rattle.seam_regions.proofs.PieceLemmas.{column, first_above, no_tile_above, no_tile_left, not_false, not_true, row_above, tile_above}
use Rattle.seam_regions.proofs.flood.join_first.Goals as goal

pub hang-requires : goal.hang-requires
hang-requires c =
    let g = c.args.tiling.now in
    record { within = first_above g c.args.piece c.requires.piece (not_true c.args.piece.top c.if-not-piece.true) (length c.args.parents.now) c.requires.flood.size }

pub returns-then-not-piece : goal.returns-then-not-piece
returns-then-not-piece c =
    let g = c.args.tiling.now in
    let p = c.args.piece in
    let is = c.requires.piece in
    let mask = open_at c.args.mask.now in
    let flood = c.requires.flood in
    let top = not_true p.top c.if-not-piece.true in
    let x = p.first in
    let last = is.across.0 in
    let place = p.y * g.width + x in
    let above = first_above g p is top (length c.args.parents.now) flood.size in
    let forest = c.hang.ensures flood.root flood.forest (flood.flooded.alone place (omega arith)) (omega (arith, flood.flooded.least (place - g.width), above)) in
    let joined = upper_alone (tiled g) mask x p.y (column g p is x last) is.row c.args.parents.now flood (no_tile_left g p is x last p.y refl) (row_above g p is top) (tile_above g p is x last top) (c.requires.open.upper top x (omega arith) last) (c.requires.open.own x (omega arith) last) c.hang.new.parents c.hang.auto.parents forest in
    subst (λ (n : ℕ). HasJoined g mask n c.hang.new.parents) (omega arith) joined

pub returns-else-not-piece : goal.returns-else-not-piece
returns-else-not-piece c =
    let g = c.args.tiling.now in
    let p = c.args.piece in
    let is = c.requires.piece in
    let mask = open_at c.args.mask.now in
    let x = p.first in
    let last = is.across.0 in
    let inside = column g p is x last in
    let left = left_none (tiled g) mask x p.y inside is.row c.args.parents.now c.requires.flood (no_tile_left g p is x last p.y refl) in
    let none = upper_none (tiled g) mask x p.y inside is.row c.args.parents.now left (no_tile_above g p is x last (not_false p.top c.if-not-piece.false)) in
    subst (λ (n : ℕ). HasJoined g mask n c.args.parents.now) (omega arith) none
