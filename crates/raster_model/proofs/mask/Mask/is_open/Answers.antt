use Rattle.std.proofs.Common.{◌≡◌, ◌<◌, ◌∙◌, ap, sym, arith}
use Rattle.raster_model.specs.MaskView.{MaskView}
use Rattle.raster_model.proofs.MaskLemmas.{open_is}
use Rattle.raster_model.proofs.mask.Mask.is_open.Goals as goal

pub returns : goal.returns
returns c =
    let i = c.self.inside in
    let w : i.width ≡ c.args.self.now.width = ap (λ (m : MaskView). m.width) c.self.view_is in
    let h : i.height ≡ c.args.self.now.height = ap (λ (m : MaskView). m.height) c.self.view_is in
    let across : c.args.x < i.width = omega (arith, c.requires.across, w) in
    let along : c.args.y < i.height = omega (arith, c.requires.along, h) in
    rw (← c.self.view_is) (rw (c.deref.ensures.value, c.bit_of.ensures) at c.has_bit.ensures ∙ sym (open_is i.width i.height i.words.items c.args.x c.args.y across along))
