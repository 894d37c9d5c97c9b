use Rattle.std.proofs.Common.{ap, ℕ, ◌∙◌}
use Rattle.certificates.specs.Ends.{passes_end}
use Rattle.certificates.proofs.EdgeBlocks.{passes_leads}
use Rattle.certificates.proofs.seam_edges.leaves_tile.Goals as goal

pub returns : goal.returns
returns c =
    let e = c.args.edge in
    c.are_passed.ensures ∙ ap (λ (n : ℕ). passes_end n e) c.requires.side ∙ passes_leads c.args.scene.now e c.requires.is_edge
