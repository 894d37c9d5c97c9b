use Rattle.std.proofs.Common.{◌≡◌, ◌∙◌, ◌+◌, ◌-◌, ◌<◌, ◌≤◌, ◌^◌, arith, length, of_z, pos, refl, rules, slice_index_or, to_z, w32, w64}
use Rattle.std.specs.Prelude.{ℤ, ◌+ℤ◌, FitsSigned, unsigned_abs}
use Rattle.std.proofs.lemmas.Int.{ints, to_z-of_z}
use Rattle.std.proofs.lemmas.List.{length-set}
use Rattle.surface_snapshots.specs.Shifted.{level_at}
use Rattle.surface_snapshots.proofs.RowLemmas.{row_more}
use Rattle.surface_snapshots.proofs.shifted.ShiftedTiles.fill_open.Goals as goal

-- sums of few cycles, at 64 bits
plain : (a b : ℤ) → unsigned_abs a ≤ 2 ^ 31 → unsigned_abs b ≤ 2 ^ 46 → to_z w64 (of_z w64 (to_z w64 (of_z w64 a) +ℤ to_z w64 (of_z w64 b))) ≡ a +ℤ b
plain a b s t = omega (arith, ints, s, t)

pub loop-column-init : goal.loop-column-init
loop-column-init c = record { size = refl; front = c.requires.front }

pub bounds-row-column : goal.bounds-row-column
bounds-row-column c = omega (arith, c.loop-column-test.true, c.requires.end, c.requires.room, c.loop-column.invariant.size)

pub loop-column-preserved : goal.loop-column-preserved
loop-column-preserved c =
    let row = c.loop-column.row in
    let column = c.loop-column.column in
    let below : column < length row = omega (arith, c.loop-column-test.true, c.requires.end, c.requires.room, c.loop-column.invariant.size) in
    let cycles = slice_index_or c.args.cycles.now (c.args.place + (column - c.args.x)) (pos 0) in
    let fits : FitsSigned w32 cycles = search rules in
    let from : c.from.result ≡ cycles = c.from.ensures ∙ to_z-of_z w32 cycles fits in
    record {
      size = length-set row column _ ∙ c.loop-column.invariant.size;
      front = row_more (level_at c.args.self.now) c.args.y column row _ below c.loop-column.invariant.front
          (plain c.from.result c.args.offset (omega (arith, ints, c.from.ensures)) c.requires.offset
          ∙ rw from (c.requires.levels column (omega (arith, c.loop-column.auto)) c.loop-column-test.true));
    }

pub returns-clause-same : goal.returns-clause-same
returns-clause-same c = c.loop-column.invariant.size

pub returns-clause-front : goal.returns-clause-front
returns-clause-front c x below = c.loop-column.invariant.front x (omega (arith, below, c.loop-column-test.false))
