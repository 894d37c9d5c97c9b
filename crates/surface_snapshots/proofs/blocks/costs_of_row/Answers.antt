use Rattle.std.proofs.Common.{◌≡◌, ◌≤◌, ◌∙◌, ℕ, ap, arith, pos, sym}
use Rattle.raster_model.specs.Sums.{sum_row}
use Rattle.sums_and_lists.proofs.SumLemmas.{sum_below-none}
use Rattle.surface_snapshots.specs.Strips.{seam_costs_from, tile_costs_from}
use Rattle.surface_snapshots.proofs.FreeLemmas.{piece_more}
use Rattle.surface_snapshots.proofs.blocks.costs_of_row.Goals as goal

pub loop-x-init : goal.loop-x-init
loop-x-init c =
    let s = c.args.block.now.surface in record {
      within = omega arith;
      tiles = sym (sum_below-none (λ x. tile_costs_from s x c.args.y));
      seams = sym (sum_below-none (λ x. seam_costs_from s x c.args.y));
      small = (omega arith, omega arith);
    }

pub costs_of_piece-requires-clause-piece : goal.costs_of_piece-requires-clause-piece
costs_of_piece-requires-clause-piece c = (omega (arith, c.min-end.ensures, c.loop-x-test.true), omega (arith, c.min-end.ensures), omega (arith, c.min-end.ensures))

pub plus-costs-requires-clause-tiles : goal.plus-costs-requires-clause-tiles
plus-costs-requires-clause-tiles c = omega (arith, c.loop-x.invariant.small, c.costs_of_piece.ensures.small, c.min-end.ensures, c.loop-x-test.true, c.args.block.now.surface.scene.now.wide)

pub plus-costs-requires-clause-seams : goal.plus-costs-requires-clause-seams
plus-costs-requires-clause-seams c = omega (arith, c.loop-x.invariant.small, c.costs_of_piece.ensures.small, c.min-end.ensures, c.loop-x-test.true, c.args.block.now.surface.scene.now.wide)

pub loop-x-preserved : goal.loop-x-preserved
loop-x-preserved c =
    let s = c.args.block.now.surface in
    let k = c.plus-costs.ensures in
    let i = c.loop-x.invariant in
    let n = c.costs_of_piece.ensures in
    let to = c.min-end.ensures in
    record {
      within = omega (arith, to);
      tiles = ap pos k.tiles ∙ piece_more (tile_costs_from s) c.args.y c.loop-x.x c.min-end.result c.loop-x.costs.tiles c.costs_of_piece.result.tiles i.tiles n.tiles;
      seams = ap pos k.seams ∙ piece_more (seam_costs_from s) c.args.y c.loop-x.x c.min-end.result c.loop-x.costs.seams c.costs_of_piece.result.seams i.seams n.seams;
      small = (omega (arith, k.tiles, i.small, n.small, to, c.loop-x-test.true), omega (arith, k.seams, i.small, n.small, to, c.loop-x-test.true));
    }

pub loop-x-smaller : goal.loop-x-smaller
loop-x-smaller c = omega (arith, c.min-end.ensures, c.loop-x-test.true)

pub returns-clause-tiles : goal.returns-clause-tiles
returns-clause-tiles c =
    let s = c.args.block.now.surface in
    let e : c.loop-x.x ≡ s.scene.now.phase.width = omega (arith, c.loop-x.invariant.within, c.loop-x-test.false) in
    c.loop-x.invariant.tiles ∙ ap (λ (n : ℕ). sum_row n (tile_costs_from s) c.args.y) e

pub returns-clause-seams : goal.returns-clause-seams
returns-clause-seams c =
    let s = c.args.block.now.surface in
    let e : c.loop-x.x ≡ s.scene.now.phase.width = omega (arith, c.loop-x.invariant.within, c.loop-x-test.false) in
    c.loop-x.invariant.seams ∙ ap (λ (n : ℕ). sum_row n (seam_costs_from s) c.args.y) e

pub returns-clause-small : goal.returns-clause-small
returns-clause-small c =
    let e : c.loop-x.x ≤ 4096 = omega (arith, c.loop-x.invariant.within, c.args.block.now.surface.scene.now.wide) in
    (omega (arith, e, c.loop-x.invariant.small), omega (arith, e, c.loop-x.invariant.small))
