use Rattle.std.proofs.Common.{◌≡◌, ◌∙◌, ◌-◌, ◌*◌, ◌/◌, arith, length}
use Rattle.std.proofs.Math.Nat.{lt_of_mul-lt-mul_right}
use borrow.Rule.Slice.PartMut.{mid_len, post_of, same_len_mid}
use Rattle.surface_snapshots.proofs.StripLemmas.{row_within, starts_row, strip_more}
use Rattle.surface_snapshots.proofs.shifted.ShiftedTiles.fill_strip.Goals as goal

pub fill_row-requires-clause-along : goal.fill_row-requires-clause-along
fill_row-requires-clause-along c =
    let p = c.args.self.now.scene.now.phase in
    let here = row_within (length c.args.part.now) p.width c.loop-row.row (omega (arith, p.wide)) c.loop-row-test.true in
    let from = starts_row c.args.start p.width c.requires.strip.from in
    lt_of_mul-lt-mul_right p.width (omega (arith, c.requires.strip.within, here, from, p.wide))

pub loop-row-preserved : goal.loop-row-preserved
loop-row-preserved c =
    let s = c.args.self.now in
    let p = s.scene.now.phase in
    let a = c.loop-row.row * p.width in
    let n = length c.loop-row.part in
    let here = row_within (length c.args.part.now) p.width c.loop-row.row (omega (arith, p.wide)) c.loop-row-test.true in
    let size : n ≡ length c.args.part.now = c.loop-row.invariant.size in
    let left : length c.fill_row.new.row ≡ n - a = c.fill_row.ensures.same ∙ mid_len a n c.loop-row.part (omega arith) in
    record {
      size = same_len_mid a (n - a) c.loop-row.part c.fill_row.new.row c.fill_row.ensures.same ∙ size;
      filled = strip_more s c.args.start (c.args.start / p.width) c.loop-row.row c.loop-row.part c.fill_row.new.row (post_of a (n - a) c.loop-row.part) (starts_row c.args.start p.width c.requires.strip.from)
          (omega (arith, here, size)) (omega (arith, left, here, size)) c.loop-row.invariant.filled c.fill_row.ensures.front;
    }
