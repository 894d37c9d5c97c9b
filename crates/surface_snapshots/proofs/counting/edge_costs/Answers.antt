use Rattle.std.proofs.Common.{◌≡◌, ◌∙◌, pos, subst, sym}
use Rattle.std.specs.Prelude.{IsTrue}
use Rattle.raster_model.specs.Masks.{open_at}
use Rattle.raster_model.specs.Raster.{Raster, edge_cost, lifted}
use Rattle.raster_model.specs.Scene.{raster_of}
use Rattle.raster_model.specs.Sums.{is_edge}
use Rattle.surface_snapshots.specs.Loops.{inner_edge_cost}
use Rattle.surface_snapshots.proofs.CostLemmas.{adds_true, ends_known, inner_adds, seam_adds_none}
use Rattle.surface_snapshots.proofs.counting.edge_costs.Goals as goal

pub edge_cost-cost-requires : goal.edge_cost-cost-requires
edge_cost-cost-requires g c =
    let m = c.args.mask.now in
    record {
      same_size = subst (λ (r : Raster). (m.width ≡ r.width) × (m.height ≡ r.height)) (sym c.sheet.ensures.raster) c.requires.same_size;
      is_edge = subst (λ (r : Raster). IsTrue (is_edge r.width r.height c.args.edge)) (sym c.sheet.ensures.raster) c.requires.is_edge;
      unmasked = c.requires.unmasked;
      known = ends_known (raster_of c.args.scene.now) (open_at m) (g.H.Heights.knows c.args.heights.now) c.args.edge c.requires.known c.requires.is_edge;
    }

pub returns-then-across-clause-tiles : goal.returns-then-across-clause-tiles
unfolding inner_edge_cost
returns-then-across-clause-tiles g c = sym (seam_adds_none _ _ (sym c.requires.across ∙ c.if-across.true))

pub returns-then-across-clause-seams : goal.returns-then-across-clause-seams
returns-then-across-clause-seams g c =
    let mask = open_at c.args.mask.now in
    let cycles = g.H.Heights.cycles_at c.args.heights.now in
    subst (λ (r : Raster). pos c.edge_cost-cost.result ≡ edge_cost r mask (lifted r cycles) c.args.edge) c.sheet.ensures.raster c.edge_cost-cost.ensures.value
    ∙ sym (adds_true _ _ (sym c.requires.across ∙ c.if-across.true))

pub returns-else-across-clause-tiles : goal.returns-else-across-clause-tiles
unfolding inner_edge_cost
returns-else-across-clause-tiles g c =
    let mask = open_at c.args.mask.now in
    let cycles = g.H.Heights.cycles_at c.args.heights.now in
    subst (λ (r : Raster). pos c.edge_cost-cost.result ≡ edge_cost r mask (lifted r cycles) c.args.edge) c.sheet.ensures.raster c.edge_cost-cost.ensures.value
    ∙ sym (inner_adds _ _ (sym c.requires.across ∙ c.if-across.false))
