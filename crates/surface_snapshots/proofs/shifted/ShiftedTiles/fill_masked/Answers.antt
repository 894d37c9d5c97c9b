use Rattle.std.proofs.Common.{◌∙◌, ◌<◌, arith, length, refl}
use Rattle.std.proofs.lemmas.List.{length-set}
use Rattle.surface_snapshots.specs.Shifted.{level_at, no_cycles}
use Rattle.surface_snapshots.proofs.RowLemmas.{row_more}
use Rattle.surface_snapshots.proofs.shifted.ShiftedTiles.fill_masked.Goals as goal

pub loop-column-init : goal.loop-column-init
loop-column-init c = record { size = refl; front = c.requires.front }

pub loop-column-preserved : goal.loop-column-preserved
loop-column-preserved c =
    let row = c.loop-column.row in
    let column = c.loop-column.column in
    let below : column < length row = omega (arith, c.loop-column-test.true, c.requires.end, c.requires.room, c.loop-column.invariant.size) in
    record {
      size = length-set row column _ ∙ c.loop-column.invariant.size;
      front = row_more (level_at c.args.self.now) c.args.y column row no_cycles below c.loop-column.invariant.front (c.requires.levels column (omega (arith, c.loop-column.auto)) c.loop-column-test.true);
    }

pub returns-clause-same : goal.returns-clause-same
returns-clause-same c = c.loop-column.invariant.size

pub returns-clause-front : goal.returns-clause-front
returns-clause-front c x below = c.loop-column.invariant.front x (omega (arith, below, c.loop-column-test.false))
