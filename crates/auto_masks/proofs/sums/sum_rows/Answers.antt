use Rattle.std.proofs.Common.{ℕ, arith, subst}
use Rattle.raster_model.specs.Masks.{open_at}
use Rattle.auto_masks.proofs.SumLemmas.{summed_none}
use Rattle.auto_masks.specs.Screened.{is_strong}
use Rattle.auto_masks.specs.Sums.{AreSummed}
use Rattle.auto_masks.proofs.sums.sum_rows.Goals as goal

pub loop-y-init : goal.loop-y-init
loop-y-init c =
    let w = c.args.weights.now.width in
    let s = is_strong c.args.terms c.args.weights.now (open_at c.args.mask.now) in
    subst (λ (n : ℕ). AreSummed w s n c.args.sums.now) (omega arith) (summed_none w s c.args.sums.now c.requires.zeros)
