use Rattle.std.proofs.Common.{◌≡◌, ◌+◌, ℕ, arith, pos, subst, sym}
use Rattle.surface_snapshots.specs.Loops.{AddUpTo}
use Rattle.surface_snapshots.specs.Strips.{seam_costs_from, tile_costs_from}
use Rattle.surface_snapshots.proofs.FreeLemmas.{none_yet, pixel_more}
use Rattle.surface_snapshots.proofs.blocks.costs_of_marked.Goals as goal

pub loop-x-init : goal.loop-x-init
loop-x-init c =
    let s = c.args.block.now.surface in record {
      tiles = none_yet (tile_costs_from s) c.args.y c.args.x0;
      seams = none_yet (seam_costs_from s) c.args.y c.args.x0;
      small = (omega arith, omega arith);
    }

pub plus-costs-requires-clause-tiles : goal.plus-costs-requires-clause-tiles
plus-costs-requires-clause-tiles c = omega (arith, c.loop-x.invariant.small, c.costs_of_pixel.ensures.small, c.requires.piece, c.args.block.now.surface.scene.now.wide)

pub plus-costs-requires-clause-seams : goal.plus-costs-requires-clause-seams
plus-costs-requires-clause-seams c = omega (arith, c.loop-x.invariant.small, c.costs_of_pixel.ensures.small, c.requires.piece, c.args.block.now.surface.scene.now.wide)

pub loop-x-preserved : goal.loop-x-preserved
loop-x-preserved c =
    let s = c.args.block.now.surface in
    let k = c.plus-costs.ensures in
    let i = c.loop-x.invariant in
    let n = c.costs_of_pixel.ensures in
    record {
      tiles = subst (λ (t : ℕ). AddUpTo (tile_costs_from s) c.args.y c.args.x0 (c.loop-x.x + 1) (pos t)) (sym k.tiles) (pixel_more (tile_costs_from s) c.args.y c.args.x0 c.loop-x.x c.loop-x.costs.tiles c.costs_of_pixel.result.tiles i.tiles n.tiles);
      seams = subst (λ (t : ℕ). AddUpTo (seam_costs_from s) c.args.y c.args.x0 (c.loop-x.x + 1) (pos t)) (sym k.seams) (pixel_more (seam_costs_from s) c.args.y c.args.x0 c.loop-x.x c.loop-x.costs.seams c.costs_of_pixel.result.seams i.seams n.seams);
      small = (omega (arith, k.tiles, i.small, n.small), omega (arith, k.seams, i.small, n.small));
    }

pub returns-clause-tiles : goal.returns-clause-tiles
returns-clause-tiles c =
    let s = c.args.block.now.surface in
    let e : c.loop-x.x ≡ c.args.end = omega (arith, c.requires.piece) in
    subst (λ (n : ℕ). AddUpTo (tile_costs_from s) c.args.y c.args.x0 n (pos c.loop-x.costs.tiles)) e c.loop-x.invariant.tiles

pub returns-clause-seams : goal.returns-clause-seams
returns-clause-seams c =
    let s = c.args.block.now.surface in
    let e : c.loop-x.x ≡ c.args.end = omega (arith, c.requires.piece) in
    subst (λ (n : ℕ). AddUpTo (seam_costs_from s) c.args.y c.args.x0 n (pos c.loop-x.costs.seams)) e c.loop-x.invariant.seams

pub returns-clause-small : goal.returns-clause-small
returns-clause-small c = (omega (arith, c.requires.piece, c.loop-x.invariant.small), omega (arith, c.requires.piece, c.loop-x.invariant.small))
