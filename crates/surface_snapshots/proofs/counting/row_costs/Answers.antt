use Rattle.std.proofs.Common.{◌≡◌, ◌≤◌, ◌∙◌, ℕ, ap, arith, pos, sym}
use Rattle.raster_model.specs.Raster.{lifted, seam_cost_from}
use Rattle.raster_model.specs.Sums.{sum_row}
use Rattle.surface_snapshots.specs.Loops.{inner_cost_from}
use Rattle.raster_model.specs.Masks.{open_at}
use Rattle.raster_model.specs.Scene.{raster_of}
use Rattle.surface_snapshots.proofs.FreeLemmas.{piece_more}
use Rattle.surface_snapshots.proofs.counting.row_costs.Goals as goal
use Rattle.sums_and_lists.proofs.SumLemmas.{sum_below-none}

pub loop-x-init : goal.loop-x-init
loop-x-init g c =
    let s = c.args.scene.now in
    let r = raster_of s in
    let mask = open_at c.args.mask.now in
    let S = lifted r (g.H.Heights.cycles_at c.args.heights.now) in
    record {
      within = omega arith;
      tiles = sym (sum_below-none (λ x. inner_cost_from r mask S x c.args.y));
      seams = sym (sum_below-none (λ x. seam_cost_from r mask S x c.args.y));
      small = (omega arith, omega arith);
    }

pub piece_costs-requires-clause-piece : goal.piece_costs-requires-clause-piece
piece_costs-requires-clause-piece g c = (omega (arith, c.min-end.ensures, c.loop-x-test.true), omega (arith, c.min-end.ensures))

pub plus-costs-requires-clause-tiles : goal.plus-costs-requires-clause-tiles
plus-costs-requires-clause-tiles g c = omega (arith, c.loop-x.invariant.small, c.piece_costs.ensures.small, c.min-end.ensures, c.loop-x-test.true, c.args.scene.now.wide)

pub plus-costs-requires-clause-seams : goal.plus-costs-requires-clause-seams
plus-costs-requires-clause-seams g c = omega (arith, c.loop-x.invariant.small, c.piece_costs.ensures.small, c.min-end.ensures, c.loop-x-test.true, c.args.scene.now.wide)

pub loop-x-preserved : goal.loop-x-preserved
loop-x-preserved g c =
    let s = c.args.scene.now in
    let r = raster_of s in
    let mask = open_at c.args.mask.now in
    let S = lifted r (g.H.Heights.cycles_at c.args.heights.now) in
    let k = c.plus-costs.ensures in
    let i = c.loop-x.invariant in
    let n = c.piece_costs.ensures in
    let to = c.min-end.ensures in
    record {
      within = omega (arith, to);
      tiles = ap pos k.tiles ∙ piece_more (inner_cost_from r mask S) c.args.y c.loop-x.x c.min-end.result c.loop-x.costs.tiles c.piece_costs.result.tiles i.tiles n.tiles;
      seams = ap pos k.seams ∙ piece_more (seam_cost_from r mask S) c.args.y c.loop-x.x c.min-end.result c.loop-x.costs.seams c.piece_costs.result.seams i.seams n.seams;
      small = (omega (arith, k.tiles, i.small, n.small, to, c.loop-x-test.true), omega (arith, k.seams, i.small, n.small, to, c.loop-x-test.true));
    }

pub loop-x-smaller : goal.loop-x-smaller
loop-x-smaller g c = omega (arith, c.min-end.ensures, c.loop-x-test.true)

pub returns-clause-tiles : goal.returns-clause-tiles
returns-clause-tiles g c =
    let s = c.args.scene.now in
    let r = raster_of s in
    let mask = open_at c.args.mask.now in
    let S = lifted r (g.H.Heights.cycles_at c.args.heights.now) in
    let e : c.loop-x.x ≡ s.phase.width = omega (arith, c.loop-x.invariant.within, c.loop-x-test.false) in
    c.loop-x.invariant.tiles ∙ ap (λ (n : ℕ). sum_row n (inner_cost_from r mask S) c.args.y) e

pub returns-clause-seams : goal.returns-clause-seams
returns-clause-seams g c =
    let s = c.args.scene.now in
    let r = raster_of s in
    let mask = open_at c.args.mask.now in
    let S = lifted r (g.H.Heights.cycles_at c.args.heights.now) in
    let e : c.loop-x.x ≡ s.phase.width = omega (arith, c.loop-x.invariant.within, c.loop-x-test.false) in
    c.loop-x.invariant.seams ∙ ap (λ (n : ℕ). sum_row n (seam_cost_from r mask S) c.args.y) e

pub returns-clause-small : goal.returns-clause-small
returns-clause-small g c =
    let e : c.loop-x.x ≤ 4096 = omega (arith, c.loop-x.invariant.within, c.args.scene.now.wide) in
    (omega (arith, e, c.loop-x.invariant.small), omega (arith, e, c.loop-x.invariant.small))
