use Rattle.std.proofs.Common.{◌+◌, ◌≡◌, ◌∙◌, ◌-◌, ◌*◌, ◌≤◌, arith, length}
use Rattle.std.proofs.Math.Nat.{mul-le-mul_right}
use Rattle.std.proofs.lemmas.List.{length-take-le}
use Rattle.surface_snapshots.proofs.StripLemmas.{rows_listed, rows_strip}
use Rattle.surface_snapshots.proofs.blocks.block_costs.Goals as goal

pub fill_strip-requires : goal.fill_strip-requires
fill_strip-requires c =
    let s = c.args.surface.now in
    let p = s.scene.now.phase in
    let rows = c.min-below.result - c.args.first in
    let room : rows * p.width ≤ (c.args.end - c.args.first + 1) * p.width = mul-le-mul_right p.width (omega (arith, c.min-below.ensures, c.requires.rows)) in
    record {
      strip = rows_strip s c.args.first rows _ (omega (arith, p.wide)) (omega (arith, c.min-below.ensures, c.requires.rows)) (length-take-le (rows * p.width) c.args.cycles.now (omega (arith, room, c.requires.room)));
    }

pub costs_of_rows-requires-clause-listed : goal.costs_of_rows-requires-clause-listed
costs_of_rows-requires-clause-listed c y from upto =
    let s = c.args.surface.now in
    let p = s.scene.now.phase in
    let rows = c.min-below.result - c.args.first in
    let room : rows * p.width ≤ (c.args.end - c.args.first + 1) * p.width = mul-le-mul_right p.width (omega (arith, c.min-below.ensures, c.requires.rows)) in
    let size : length c.fill_strip.new.part ≡ rows * p.width = c.fill_strip.ensures.same ∙ length-take-le (rows * p.width) c.args.cycles.now (omega (arith, room, c.requires.room)) in
    rows_listed s c.args.first c.args.end c.min-below.result (length c.fill_strip.new.part) y (omega (arith, c.requires.rows)) c.requires.rows.1 c.min-below.ensures size from upto
