use Rattle.std.proofs.Common.{length, subst}
use Rattle.std.specs.Prelude.{IsTrue}
use Rattle.raster_model.specs.MaskView.{MaskView}
use Rattle.raster_model.specs.Masks.{open_at}
use Rattle.surface_snapshots.proofs.StripLemmas.{row_known}
use Rattle.surface_snapshots.proofs.blocks.costs_of_pixel.Goals as goal

pub costs_from-requires-clause-known : goal.costs_from-requires-clause-known
costs_from-requires-clause-known c = λ x y l h from to clear.
    let b = c.args.block.now in
    row_known b.surface b.start (length b.cycles.now) c.args.y c.requires.listed x y l h from to
    (subst (λ (m : MaskView). IsTrue (open_at m x y)) c.requires.mask clear)
