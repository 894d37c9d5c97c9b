use Rattle.std.proofs.Common.{◌≡◌, ◌+◌, ℕ, arith, pos, subst, sym}
use Rattle.std.proofs.lemmas.Nat.{mod_below}
use Rattle.raster_model.specs.Raster.{lifted, seam_cost_from}
use Rattle.surface_snapshots.specs.Loops.{AddUpTo, inner_cost_from}
use Rattle.raster_model.specs.Masks.{open_at}
use Rattle.raster_model.specs.Scene.{raster_of}
use Rattle.seam_regions.proofs.ColumnLemmas.{last_left, still_left}
use Rattle.surface_snapshots.proofs.FreeLemmas.{left_from, none_yet, open_within, pixel_more}
use Rattle.surface_snapshots.proofs.counting.costs_by_pixels.Goals as goal

pub loop-x-init : goal.loop-x-init
loop-x-init g c =
    let s = c.args.scene.now in
    let r = raster_of s in
    let mask = open_at c.args.mask.now in
    let S = lifted r (g.H.Heights.cycles_at c.args.heights.now) in
    let b = mod_below c.args.x0 s.tiling.side (omega (arith, s.tiling.sides)) in
    record {
      tiles = none_yet (inner_cost_from r mask S) c.args.y c.args.x0;
      seams = none_yet (seam_cost_from r mask S) c.args.y c.args.x0;
      small = (omega arith, omega arith);
      within = (omega (arith, b), omega arith);
      left = left_from c.args.x0 s.tiling.side (omega (arith, s.tiling.sides));
    }

pub costs_at-requires-clause-last : goal.costs_at-requires-clause-last
costs_at-requires-clause-last g c =
    let i = c.loop-x.invariant in
    last_left c.loop-x.x c.loop-x.left c.args.scene.now.tiling.side i.within.0 i.within.1 i.left

pub costs_at-requires-clause-unmasked : goal.costs_at-requires-clause-unmasked
costs_at-requires-clause-unmasked g c = λ t.
    open_within c.args.mask.now c.args.y c.args.x0 c.args.end c.loop-x.x (omega arith) (omega arith) (c.requires.unmasked t)

pub plus-costs-requires-clause-tiles : goal.plus-costs-requires-clause-tiles
plus-costs-requires-clause-tiles g c = omega (arith, c.loop-x.invariant.small, c.costs_at.ensures.small, c.requires.piece, c.args.scene.now.wide)

pub plus-costs-requires-clause-seams : goal.plus-costs-requires-clause-seams
plus-costs-requires-clause-seams g c = omega (arith, c.loop-x.invariant.small, c.costs_at.ensures.small, c.requires.piece, c.args.scene.now.wide)

pub loop-x-preserved : goal.loop-x-preserved
loop-x-preserved g c =
    let s = c.args.scene.now in
    let r = raster_of s in
    let mask = open_at c.args.mask.now in
    let S = lifted r (g.H.Heights.cycles_at c.args.heights.now) in
    let k = c.plus-costs.ensures in
    let i = c.loop-x.invariant in
    let n = c.costs_at.ensures in
    record {
      tiles = subst (λ (t : ℕ). AddUpTo (inner_cost_from r mask S) c.args.y c.args.x0 (c.loop-x.x + 1) (pos t)) (sym k.tiles) (pixel_more (inner_cost_from r mask S) c.args.y c.args.x0 c.loop-x.x c.loop-x.costs.tiles c.costs_at.result.tiles i.tiles n.tiles);
      seams = subst (λ (t : ℕ). AddUpTo (seam_cost_from r mask S) c.args.y c.args.x0 (c.loop-x.x + 1) (pos t)) (sym k.seams) (pixel_more (seam_cost_from r mask S) c.args.y c.args.x0 c.loop-x.x c.loop-x.costs.seams c.costs_at.result.seams i.seams n.seams);
      small = (omega (arith, k.tiles, i.small, n.small), omega (arith, k.seams, i.small, n.small));
      within = c.next_left-left.ensures.within;
      left = still_left c.loop-x.x c.loop-x.left s.tiling.side c.next_left-left.result i.within.0 i.within.1 i.left c.next_left-left.ensures.next;
    }

pub returns-clause-tiles : goal.returns-clause-tiles
returns-clause-tiles g c =
    let r = raster_of c.args.scene.now in
    let mask = open_at c.args.mask.now in
    let S = lifted r (g.H.Heights.cycles_at c.args.heights.now) in
    let e : c.loop-x.x ≡ c.args.end = omega (arith, c.requires.piece) in
    subst (λ (n : ℕ). AddUpTo (inner_cost_from r mask S) c.args.y c.args.x0 n (pos c.loop-x.costs.tiles)) e c.loop-x.invariant.tiles

pub returns-clause-seams : goal.returns-clause-seams
returns-clause-seams g c =
    let r = raster_of c.args.scene.now in
    let mask = open_at c.args.mask.now in
    let S = lifted r (g.H.Heights.cycles_at c.args.heights.now) in
    let e : c.loop-x.x ≡ c.args.end = omega (arith, c.requires.piece) in
    subst (λ (n : ℕ). AddUpTo (seam_cost_from r mask S) c.args.y c.args.x0 n (pos c.loop-x.costs.seams)) e c.loop-x.invariant.seams

pub returns-clause-small : goal.returns-clause-small
returns-clause-small g c = (omega (arith, c.requires.piece, c.loop-x.invariant.small), omega (arith, c.requires.piece, c.loop-x.invariant.small))
