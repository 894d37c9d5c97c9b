use Rattle.std.proofs.Common.{◌≡◌, ◌<◌, ap, arith}
use Rattle.raster_model.specs.MaskView.{MaskView}
use Rattle.raster_model.proofs.MaskLemmas.{span_judged}
use Rattle.raster_model.proofs.mask.Mask.is_open_span.Goals as goal

pub returns : goal.returns
returns c =
    let i = c.self.inside in
    let w : i.width ≡ c.args.self.now.width = ap (λ (m : MaskView). m.width) c.self.view_is in
    let h : i.height ≡ c.args.self.now.height = ap (λ (m : MaskView). m.height) c.self.view_is in
    let across : c.args.x1 < i.width = omega (arith, c.requires.across, w) in
    let along : c.args.y < i.height = omega (arith, c.requires.along, h) in
    rw (← c.self.view_is) (span_judged i.width i.height c.args.y c.args.x0 c.args.x1 along across i.words.items c.are_all_ones.result (rw (c.deref.ensures.value, c.bit_of-first.ensures, c.bit_of-last.ensures) at c.are_all_ones.ensures))
