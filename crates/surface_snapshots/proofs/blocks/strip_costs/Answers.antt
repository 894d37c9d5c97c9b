use Rattle.std.proofs.Common.{◌+◌, ◌-◌, ◌≡◌, ◌≤◌, ◌∙◌, ℕ, arith, refl, subst}
use Rattle.std.specs.Prelude.{min}
use Rattle.std.proofs.Math.Nat.{mul-le-mul_right}
use Rattle.raster_model.specs.Raster.{lifted}
use Rattle.surface_snapshots.specs.Shifted.{cycles_under, open_under, raster_under}
use Rattle.surface_snapshots.specs.Strips.{AreCounted}
use Rattle.surface_snapshots.proofs.CostLemmas.{no_rows, rows_fit, rows_more}
use Rattle.surface_snapshots.proofs.blocks.strip_costs.Goals as goal

pub loop-y-init : goal.loop-y-init
loop-y-init c =
    let s = c.args.surface.now in record {
      within = (omega arith, c.requires.rows.0);
      size = refl;
      costs = no_rows (raster_under s) (open_under s) (lifted (raster_under s) (cycles_under s)) c.args.first;
    }

pub block_costs-requires-clause-room : goal.block_costs-requires-clause-room
block_costs-requires-clause-room c =
    let w = c.args.surface.now.scene.now.phase.width in
    let i = c.loop-y.invariant in
    let few : c.min-next.result - c.loop-y.y + 1 ≤ min (c.args.end - c.args.first) 16 + 1 = omega (arith, c.min-next.ensures, i.within) in
    omega (arith, mul-le-mul_right w few, c.requires.room, i.size)

pub plus-costs-requires-clause-tiles : goal.plus-costs-requires-clause-tiles
plus-costs-requires-clause-tiles c =
    let s = c.args.surface.now in
    let i = c.loop-y.invariant in
    (rows_fit (raster_under s) (open_under s) (lifted (raster_under s) (cycles_under s)) c.args.first c.loop-y.y c.min-next.result c.loop-y.costs c.block_costs.result i.within.0 (omega (arith, c.min-next.ensures, i.within)) i.costs c.block_costs.ensures.costs (omega (arith, c.min-next.ensures, c.requires.rows, s.scene.now.high))).0

pub plus-costs-requires-clause-seams : goal.plus-costs-requires-clause-seams
plus-costs-requires-clause-seams c =
    let s = c.args.surface.now in
    let i = c.loop-y.invariant in
    (rows_fit (raster_under s) (open_under s) (lifted (raster_under s) (cycles_under s)) c.args.first c.loop-y.y c.min-next.result c.loop-y.costs c.block_costs.result i.within.0 (omega (arith, c.min-next.ensures, i.within)) i.costs c.block_costs.ensures.costs (omega (arith, c.min-next.ensures, c.requires.rows, s.scene.now.high))).1

pub loop-y-preserved : goal.loop-y-preserved
loop-y-preserved c =
    let s = c.args.surface.now in
    let i = c.loop-y.invariant in
    let onward : c.loop-y.y ≤ c.min-next.result = omega (arith, c.min-next.ensures, i.within) in
    record {
      within = (omega (arith, onward, i.within), omega (arith, c.min-next.ensures));
      size = c.block_costs.ensures.same ∙ i.size;
      costs = rows_more (raster_under s) (open_under s) (lifted (raster_under s) (cycles_under s)) c.args.first c.loop-y.y c.min-next.result c.loop-y.costs c.block_costs.result i.within.0 onward i.costs c.block_costs.ensures.costs c.plus-costs.result c.plus-costs.ensures.tiles c.plus-costs.ensures.seams;
    }

pub returns : goal.returns
returns c =
    let e : c.loop-y.y ≡ c.args.end = omega (arith, c.loop-y.invariant.within, c.loop-y-test.false) in
    subst (λ (n : ℕ). AreCounted c.args.surface.now c.args.first n c.loop-y.costs) e c.loop-y.invariant.costs
