use Rattle.std.proofs.Common.{sym, ◌∙◌}
use Rattle.certificates.proofs.EdgeBlocks.{passes_leads}
use Rattle.surface_snapshots.proofs.counting.side_costs.Goals as goal

pub edge_costs-requires-clause-is_edge : goal.edge_costs-requires-clause-is_edge
edge_costs-requires-clause-is_edge g c = sym c.requires.inside ∙ c.if-inside.true

pub edge_costs-requires-clause-across : goal.edge_costs-requires-clause-across
edge_costs-requires-clause-across g c = c.requires.across ∙ passes_leads c.args.scene.now c.args.edge (sym c.requires.inside ∙ c.if-inside.true)
