use Rattle.std.proofs.Common.{ap, unsigned_abs}
use Rattle.report_text.specs.Text.{surface_block_text}
use Rattle.text_lines.proofs.AddLemmas.{adds_then}
use Rattle.report_text.proofs.surface.add_surface.Goals as goal

pub returns-clause-text : goal.returns-clause-text
unfolding surface_block_text
returns-clause-text g c =
    adds_then (rw (ap unsigned_abs c.tile_cost.ensures, ap unsigned_abs c.seam_cost.ensures) at c.add_costs.ensures.text) (adds_then c.add_grid.ensures.added (adds_then c.add_faces.ensures.added (rw c.flows.ensures at c.add_flows.ensures.text)))

pub returns-clause-ranges : goal.returns-clause-ranges
returns-clause-ranges g c = record {
  tile_cost = rw (ap unsigned_abs c.tile_cost.ensures) at c.add_costs.ensures.costs.0;
  seam_cost = rw (ap unsigned_abs c.seam_cost.ensures) at c.add_costs.ensures.costs.1;
  values = let g = c.add_grid.ensures.ranges in g.fits;
  faces = c.add_faces.ensures.longs;
  flows = rw c.flows.ensures at c.add_flows.ensures.longs;
}
