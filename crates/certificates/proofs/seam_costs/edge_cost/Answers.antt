use Rattle.std.proofs.Common.{sym, ◌∙◌}
use Rattle.raster_model.specs.Masks.{open_at}
use Rattle.raster_model.specs.Raster.{edge_cost, is_seam, lifted}
use Rattle.raster_model.specs.Scene.{raster_of}
use Rattle.raster_model.specs.Sums.{is_edge}
use Rattle.certificates.proofs.SeamLemmas.{ends_known}
use Rattle.certificates.proofs.SeamCosts.{counts, counts_not}
use Rattle.certificates.proofs.seam_costs.edge_cost.Goals as goal

pub edge_cost-requires : goal.edge_cost-requires
edge_cost-requires g c =
    let e = ends_known (raster_of c.args.scene.now) (open_at c.args.mask.now) (g.H.Heights.knows c.args.heights.now) c.args.edge c.requires.known (sym c.is_seam_edge.ensures ∙ c.if-is_seam_edge.true) in
    record { same_size = c.requires.same_size; is_edge = e.0; known = e.1 }

pub returns-then-is_seam_edge-clause-value : goal.returns-then-is_seam_edge-clause-value
returns-then-is_seam_edge-clause-value g c =
    let r = raster_of c.args.scene.now in
    c.edge_cost.ensures.value ∙ counts (is_edge r.width r.height c.args.edge) (is_seam r c.args.edge) _ (sym c.is_seam_edge.ensures ∙ c.if-is_seam_edge.true)

pub returns-else-is_seam_edge-clause-value : goal.returns-else-is_seam_edge-clause-value
returns-else-is_seam_edge-clause-value g c =
    let r = raster_of c.args.scene.now in
    counts_not (is_edge r.width r.height c.args.edge) (is_seam r c.args.edge)
    (edge_cost r (open_at c.args.mask.now) (lifted r (g.H.Heights.cycles_at c.args.heights.now)) c.args.edge)
    (sym c.is_seam_edge.ensures ∙ c.if-is_seam_edge.false)
