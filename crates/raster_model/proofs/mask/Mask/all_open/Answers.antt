use Rattle.std.proofs.Common.{◌*◌, ap}
use Rattle.raster_model.proofs.MaskLemmas.{opens_all}
use Rattle.raster_model.proofs.mask.Mask.all_open.Goals as goal

pub returns : goal.returns
returns c = opens_all c.args.width c.args.height (c.words_across.result * c.args.height) c.in_ok-words.words.items (ap (λ n. n * c.args.height) c.words_across.ensures) (c.in_ok-words.ensures.items_if_clones_equal (λ y h. h))
