use Rattle.std.proofs.Common.{◌≡◌, ◌∙◌, ◌-◌, arith, false, length, replicate}
use Rattle.std.proofs.lemmas.List.{length-take-le}
use Rattle.surface_snapshots.specs.Strips.{seam_costs_from, tile_costs_from}
use Rattle.surface_snapshots.proofs.MarkLemmas.{none_added}
use Rattle.surface_snapshots.proofs.blocks.costs_of_piece.Goals as goal

pub returns-then-not-is_any_marked-clause-tiles : goal.returns-then-not-is_any_marked-clause-tiles
returns-then-not-is_any_marked-clause-tiles c =
    let s = c.args.block.now.surface in
    let n = c.args.end - c.args.x0 in
    let size = length-take-le n (replicate 64 false) (omega (arith, c.requires.piece)) in
    let count : length c.mark_pixels.new.marks ≡ n = c.mark_pixels.ensures.same ∙ size in
    let none = c.is_any_marked.ensures c.if-not-is_any_marked.true in
    none_added (tile_costs_from s) c.args.y c.args.x0 c.args.end (omega (arith, c.requires.piece))
    (λ x from upto. (c.mark_pixels.ensures.still x from (omega (arith, c.requires.piece, upto, size)) (none (x - c.args.x0) (omega (arith, count, from, upto)))).0)

pub returns-then-not-is_any_marked-clause-seams : goal.returns-then-not-is_any_marked-clause-seams
returns-then-not-is_any_marked-clause-seams c =
    let s = c.args.block.now.surface in
    let n = c.args.end - c.args.x0 in
    let size = length-take-le n (replicate 64 false) (omega (arith, c.requires.piece)) in
    let count : length c.mark_pixels.new.marks ≡ n = c.mark_pixels.ensures.same ∙ size in
    let none = c.is_any_marked.ensures c.if-not-is_any_marked.true in
    none_added (seam_costs_from s) c.args.y c.args.x0 c.args.end (omega (arith, c.requires.piece))
    (λ x from upto. (c.mark_pixels.ensures.still x from (omega (arith, c.requires.piece, upto, size)) (none (x - c.args.x0) (omega (arith, count, from, upto)))).1)
