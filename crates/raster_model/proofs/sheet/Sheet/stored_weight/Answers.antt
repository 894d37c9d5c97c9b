use Rattle.std.proofs.Common.{◌∙◌}
use Rattle.std.proofs.lemmas.List.{get_or_read_under}
use Rattle.raster_model.proofs.WeightLemmas.{down_is, down_within}
use Rattle.raster_model.proofs.sheet.Sheet.stored_weight.Goals as goal

pub index-requires : goal.index-requires
index-requires c = down_within c.args.self.now c.args.edge c.requires c.if-edge.true

pub returns-then-edge : goal.returns-then-edge
returns-then-edge c =
    let down = c.args.self.now.edges.now.down in
    get_or_read_under down.items _ down.len c.index.result.now 0 c.index.ensures (down_within c.args.self.now c.args.edge c.requires c.if-edge.true) down.ok.0
    ∙ down_is c.args.self.now c.args.edge c.requires c.if-edge.true
