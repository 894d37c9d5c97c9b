use Rattle.std.proofs.Common.{◌∙◌, sym}
use Rattle.raster_model.proofs.FlowLemmas.{place-right}
use Rattle.certificates.specs.FlowWords.{held_raster}
use Rattle.certificates.proofs.FlowSums.{parts_both}
use Rattle.certificates.proofs.SeamLemmas.{products_fit}
use Rattle.certificates.proofs.seam_flows.SeamFlows.parts_from.Goals as goal

pub part-requires : goal.part-requires
part-requires g c = record {
  placed = (c.requires.start.0, c.requires.start.1, c.requires.start.2 ∙ sym (place-right (held_raster c.args.self.now) c.args.x c.args.y));
  fit = c.requires.fit;
  known = c.requires.known;
}

pub part-requires-2 : goal.part-requires-2
part-requires-2 g c = record { placed = c.down_place-next.ensures; fit = c.requires.fit; known = c.requires.known }

pub overflow_add-result : goal.overflow_add-result
overflow_add-result g c = (products_fit c.part.result c.part-2.result c.part.ensures.small c.part-2.ensures.small).2

pub returns : goal.returns
returns g c =
    let k = c.args.self.now in
    let f = products_fit c.part.result c.part-2.result c.part.ensures.small c.part-2.ensures.small in
    record {
      value = f.0 ∙ parts_both k (g.H.Heights.cycles_at c.args.heights.now) c.args.x c.args.y c.requires.start.0 c.requires.start.1 c.part.result c.part-2.result c.part.ensures.value c.part-2.ensures.value;
      small = rw f.0 f.1;
    }
