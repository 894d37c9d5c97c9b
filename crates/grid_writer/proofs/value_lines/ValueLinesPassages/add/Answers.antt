use Rattle.std.proofs.Common.{◌≡◌, ℕ, ◌+◌, ◌-◌, ◌*◌, ◌<◌, ◌≤◌, length, take, drop, slice_range, ap, arith, refl, inl, inr}
use Rattle.sums_and_lists.proofs.Orders.{below_or_last}
use Rattle.std.proofs.lemmas.Nat.{mul-add-lt}
use Rattle.text_pages.proofs.TextsFrom.{adds_none, adds_one_more}
use Rattle.grid_writer.specs.Grid.{grid_row}
use Rattle.grid_writer.specs.Grids.{grid_of}
use Rattle.grid_writer.proofs.SizeLemmas.{sized_parts}
use Rattle.grid_writer.proofs.ValueLemmas.{row_of_slice, slice_long}
use Rattle.grid_writer.proofs.value_lines.ValueLinesPassages.add.Goals as goal

pub loop-y-init : goal.loop-y-init
loop-y-init g c =
    let grid = grid_of c.args.self.now.grid.now in
    record { added = adds_none _ (grid_row grid.values grid.width) c.args.from c.args.from refl; longs = λ y l ly. absurd (omega (arith, l, ly)) }

pub loop-y-preserved : goal.loop-y-preserved
loop-y-preserved g c =
    let grid = grid_of c.args.self.now.grid.now in
    let i = c.loop-y.invariant in
    let items = c.args.self.now.grid.now.values.items in
    let start = c.loop-y.y * grid.width in
    let below : c.loop-y.y < grid.height = omega (arith, c.loop-y-test.true, c.requires.within) in
    let wide = (sized_parts grid.width grid.height c.args.self.now.grid.now.sized).wide in
    let last = mul-add-lt c.loop-y.y grid.width (grid.width - 1) grid.height below (omega (arith, wide)) in
    let count : length c.deref.result.now ≡ length items = ap length c.deref.ensures.value in
    let within : start + grid.width ≤ length items = omega (arith, last, wide, count, c.deref.ensures.len, c.args.self.now.grid.now.full) in
    let cut : (start + grid.width) - start ≡ grid.width = omega arith in
    let row : slice_range items start (start + grid.width) ≡ take grid.width (drop start items) = ap (λ (n : ℕ). take n (drop start items)) cut in
    let line = rw c.deref.ensures.value at c.add_line.ensures in
    record {
      added = adds_one_more (grid_row grid.values grid.width) c.args.from c.loop-y.y (omega arith) i.added (rw (row_of_slice grid.width c.loop-y.y items within _ row) at line.added);
      longs = λ y l ly. elim (below_or_last y c.loop-y.y ly) [
        | inl below ↦ i.longs y l below
        | inr last ↦ rw last (slice_long grid.width c.loop-y.y items within _ row line.longs)
      ];
    }
