use Rattle.std.proofs.Common.{ℕ, ◌+◌, arith, subst, sym}
use Rattle.raster_model.specs.Masks.{open_at}
use Rattle.std.proofs.lemmas.Nat.{mul-add-lt}
use Rattle.sums_and_lists.proofs.CountLemmas.{count_below-none}
use Rattle.auto_masks.proofs.SumLemmas.{byte_few, counted_few, counted_next, sum_few, summed_begin, summed_next}
use Rattle.auto_masks.specs.Screened.{is_strong}
use Rattle.auto_masks.specs.Sums.{AreSummed}
use Rattle.auto_masks.proofs.sums.sum_row.Goals as goal

pub loop-x-init : goal.loop-x-init
loop-x-init c =
    let w = c.args.weights.now.width in
    let s = is_strong c.args.terms c.args.weights.now (open_at c.args.mask.now) in
    record {
      sums = summed_begin w s c.args.sums.now (c.args.y + 1) c.requires.sums;
      counted = sym (count_below-none _);
    }

pub loop-x-preserved : goal.loop-x-preserved
loop-x-preserved c =
    let w = c.args.weights.now.width in
    let s = is_strong c.args.terms c.args.weights.now (open_at c.args.mask.now) in
    let is = c.loop-x.invariant in
    let corner = mul-add-lt (c.args.y + 1) (w + 1) (c.loop-x.x + 1) (c.args.weights.now.height + 1) (omega (arith, c.requires.row)) (omega (arith, c.loop-x-test.true)) in
    record {
      sums = summed_next w s c.loop-x.sums c.loop-x.count c.from-count.result c.loop-x.x c.args.y c.is_strong.result is.sums c.loop-x-test.true (omega (arith, corner, c.loop-x.auto.sums, c.requires.full)) is.counted c.from-count.ensures c.is_strong.ensures;
      counted = counted_next w s c.loop-x.count c.from-count.result c.loop-x.x c.args.y c.is_strong.result is.counted c.from-count.ensures c.is_strong.ensures;
    }

pub overflow_add-count : goal.overflow_add-count
overflow_add-count c =
    let s = is_strong c.args.terms c.args.weights.now (open_at c.args.mask.now) in
    let few = counted_few c.args.weights.now.width s c.loop-x.count c.loop-x.x c.args.y c.loop-x.invariant.counted in
    record { fits = omega (arith, few, c.loop-x-test.true, c.args.weights.now.wide.1, c.from-count.ensures, byte_few c.is_strong.result) }

pub overflow_add-sums : goal.overflow_add-sums
overflow_add-sums c =
    let w = c.args.weights.now.width in
    let s = is_strong c.args.terms c.args.weights.now (open_at c.args.mask.now) in
    let few = counted_few w s c.loop-x.count c.loop-x.x c.args.y c.loop-x.invariant.counted in
    let sum = sum_few w s c.loop-x.sums c.loop-x.x c.args.y c.args.weights.now.height c.loop-x.invariant.sums c.loop-x-test.true c.requires.row in
    record { fits = omega (arith, sum, c.args.weights.now.few, few, c.loop-x-test.true, c.args.weights.now.wide.1, c.from-count.ensures, byte_few c.is_strong.result) }

pub returns : goal.returns
returns c =
    let w = c.args.weights.now.width in
    let s = is_strong c.args.terms c.args.weights.now (open_at c.args.mask.now) in
    subst (λ (n : ℕ). AreSummed w s n c.loop-x.sums) (omega arith) c.loop-x.invariant.sums
