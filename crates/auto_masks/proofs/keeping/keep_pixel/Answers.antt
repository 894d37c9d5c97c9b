use Rattle.std.proofs.Common.{◌∙◌, sym}
use Rattle.auto_masks.proofs.KeepLemmas.{kept_masked, kept_open}
use Rattle.auto_masks.proofs.keeping.keep_pixel.Goals as goal

pub returns-then-not-is_large : goal.returns-then-not-is_large
returns-then-not-is_large c = kept_masked c.args.patches.now c.args.least c.args.x c.args.y c.args.kept.now c.requires.pixel.0 c.requires.pixel.1 c.requires.kept (sym c.is_large.ensures ∙ c.if-not-is_large.true) c.set.new.self c.set.ensures

pub returns-else-not-is_large : goal.returns-else-not-is_large
returns-else-not-is_large c = kept_open c.args.patches.now c.args.least c.args.x c.args.y c.args.kept.now c.requires.pixel.0 c.requires.pixel.1 c.requires.kept (sym c.is_large.ensures ∙ c.if-not-is_large.false)
