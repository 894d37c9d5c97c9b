use Rattle.raster_model.proofs.MaskLemmas.{has_each_pixel}
use Rattle.raster_model.proofs.mask.Mask.width.Goals as goal

pub returns-clause-pixels : goal.returns-clause-pixels
returns-clause-pixels c =
    let i = c.self.inside in
    rw (← c.self.view_is) (has_each_pixel i.width i.height i.words.items)
