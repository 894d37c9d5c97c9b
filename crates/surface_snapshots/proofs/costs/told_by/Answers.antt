use Rattle.std.proofs.Common.{◌∙◌, ap, length, sym}
use Rattle.surface_snapshots.proofs.MaskLemmas.{mask_is_told}
use Rattle.surface_snapshots.proofs.costs.told_by.Goals as goal

pub returns : goal.returns
returns c = mask_is_told c.args.scene.now c.args.mask.now c.args.regions.now c.requires.across c.requires.along c.requires.regions c.width-width.ensures.pixels (ap length (sym c.labels-labels.ensures.value) ∙ c.labels-labels.ensures.size)
