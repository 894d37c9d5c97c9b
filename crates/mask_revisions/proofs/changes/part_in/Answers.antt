use Rattle.mask_revisions.proofs.Parts.{part_is}
use Rattle.mask_revisions.proofs.changes.part_in.Goals as goal

pub returns : goal.returns
returns c = part_is c.args.tiling.now c.args.rect c.args.tile c.window-window.result _ c.requires.rect c.window-window.ensures.pixels c.requires.meets c.max.ensures c.min.ensures c.max-2.ensures c.min-2.ensures
