use Rattle.std.proofs.Common.{◌∙◌, sym}
use Rattle.raster_model.specs.Masks.{open_at}
use Rattle.raster_model.specs.Raster.{lifted}
use Rattle.raster_model.specs.Sheets.{sheet_raster}
use Rattle.certificates.proofs.EdgeCosts.{open_is, masked_is}
use Rattle.certificates.proofs.edge_costs.edge_cost.Goals as goal

pub are_ends_open-requires : goal.are_ends_open-requires
are_ends_open-requires g c = record {
  sides = rw (c.requires.same_size.0, c.requires.same_size.1) (c.args.sheet.now.phase.now.wide.1, c.args.sheet.now.phase.now.high.1);
  is_edge = rw (c.requires.same_size.0, c.requires.same_size.1) c.requires.is_edge;
  unmasked = c.requires.unmasked;
}

pub open_cost-requires : goal.open_cost-requires
open_cost-requires g c =
    let k = c.requires.known (sym c.are_ends_open.ensures ∙ c.if-are_ends_open.true) in
    record { is_edge = c.requires.is_edge; start = k.0; end = k.1 }

pub returns-then-are_ends_open-clause-value : goal.returns-then-are_ends_open-clause-value
returns-then-are_ends_open-clause-value g c =
    let r = sheet_raster c.args.sheet.now in
    open_is r (open_at c.args.mask.now) (lifted r (g.H.Heights.cycles_at c.args.heights.now)) c.args.edge _ (sym c.are_ends_open.ensures ∙ c.if-are_ends_open.true) c.open_cost.ensures.value

pub returns-else-are_ends_open-clause-value : goal.returns-else-are_ends_open-clause-value
returns-else-are_ends_open-clause-value g c =
    let r = sheet_raster c.args.sheet.now in
    masked_is r (open_at c.args.mask.now) (lifted r (g.H.Heights.cycles_at c.args.heights.now)) c.args.edge (sym c.are_ends_open.ensures ∙ c.if-are_ends_open.false)
