use Rattle.std.proofs.Common.{◌≡◌, ◌+◌, ◌*◌}
use Rattle.raster_model.specs.Masks.{open_at}
use Rattle.sums_and_lists.specs.Sums.{count_below, one_if}
use Rattle.auto_masks.specs.Screened.{is_strong}
use Rattle.auto_masks.specs.Sums.{AreSummed}
use Rattle.auto_masks.proofs.sums.sum_row.Given as goal

abbrev pub invariant-loop-x : goal.invariant-loop-x
invariant-loop-x l = record {
  sums : AreSummed l.weights.width (is_strong l.fn.terms l.weights (open_at l.mask)) ((l.fn.y + 1) * (l.weights.width + 1) + l.x + 1) l.sums;
  counted : l.count ≡ count_below l.x (λ a. one_if (is_strong l.fn.terms l.weights (open_at l.mask) a l.fn.y));
}
