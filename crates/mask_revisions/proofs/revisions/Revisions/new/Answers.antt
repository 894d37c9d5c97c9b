use Rattle.std.proofs.Common.{arith}
use Rattle.mask_revisions.proofs.Histories.{begins}
use Rattle.mask_revisions.proofs.revisions.Revisions.new.Goals as goal

pub returns-clause-first : goal.returns-clause-first
returns-clause-first c =
    begins c.args.first c.args.tiling c.in_ok-stamps.stamps.items c.tile_count.result c.requires.across c.requires.along (omega (arith, c.tile_count.ensures.count)) (c.in_ok-stamps.ensures.items_if_clones_equal (λ y h. h))
