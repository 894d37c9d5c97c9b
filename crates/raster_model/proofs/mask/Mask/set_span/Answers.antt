use Rattle.std.proofs.Common.{◌≡◌, ◌<◌, ◌∙◌, ap, arith}
use Rattle.std.proofs.lemmas.List.{with_items_is}
use Rattle.raster_model.specs.MaskView.{MaskView}
use Rattle.raster_model.proofs.MaskLemmas.{span_set, span_tells}
use Rattle.raster_model.proofs.mask.Mask.set_span.Goals as goal

pub returns-clause-set : goal.returns-clause-set
returns-clause-set c =
    let i = c.self.inside in
    let w : i.width ≡ c.args.self.now.width = ap (λ (m : MaskView). m.width) c.self.view_is in
    let h : i.height ≡ c.args.self.now.height = ap (λ (m : MaskView). m.height) c.self.view_is in
    let across : c.args.x1 < i.width = omega (arith, c.requires.across, w) in
    let along : c.args.y < i.height = omega (arith, c.requires.along, h) in
    let held = with_items_is i.words c.set_bits.new.words (c.set_bits.auto.words ∙ c.deref_mut.ensures.len) in
    rw (← c.self.view_is, held) (span_set i.width i.height c.args.y c.args.x0 c.args.x1 c.args.unmasked along across i.words.items c.set_bits.new.words (rw (c.deref_mut.ensures.value, c.bit_of-first.ensures, c.bit_of-last.ensures) at c.set_bits.ensures.set))

pub returns-clause-changed : goal.returns-clause-changed
returns-clause-changed c =
    let i = c.self.inside in
    let w : i.width ≡ c.args.self.now.width = ap (λ (m : MaskView). m.width) c.self.view_is in
    let h : i.height ≡ c.args.self.now.height = ap (λ (m : MaskView). m.height) c.self.view_is in
    let across : c.args.x1 < i.width = omega (arith, c.requires.across, w) in
    let along : c.args.y < i.height = omega (arith, c.requires.along, h) in
    rw (← c.self.view_is) (span_tells i.width i.height c.args.y c.args.x0 c.args.x1 c.args.unmasked along across i.words.items c.set_bits.result (rw (c.deref_mut.ensures.value, c.bit_of-first.ensures, c.bit_of-last.ensures) at c.set_bits.ensures.changed))
