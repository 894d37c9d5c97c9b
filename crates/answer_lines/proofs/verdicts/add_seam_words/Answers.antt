use Rattle.std.proofs.Common.{rules}
use Rattle.std.specs.Prelude.{FitsSigned}
use Rattle.std.specs.Int.{w64, w128}
use Rattle.std.proofs.lemmas.Int.{to_z-of_z}
use Rattle.answer_lines.proofs.verdicts.add_seam_words.Goals as goal

pub returns-in-Anchor : goal.returns-in-Anchor
returns-in-Anchor g c =
    let fits : FitsSigned w64 c.in-Anchor.cycles = search rules in
    rw c.in-Anchor.is (rw (to_z-of_z w64 c.in-Anchor.cycles fits) at c.add_anchor.ensures)

pub returns-in-FlowAtEdge : goal.returns-in-FlowAtEdge
returns-in-FlowAtEdge g c = rw c.in-FlowAtEdge.is c.add_at_edge.ensures

pub returns-in-Unbalanced : goal.returns-in-Unbalanced
returns-in-Unbalanced g c = rw c.in-Unbalanced.is c.add_unbalanced.ensures

pub returns-in-CostDiffers : goal.returns-in-CostDiffers
returns-in-CostDiffers g c =
    let fits : FitsSigned w128 c.in-CostDiffers.bound = search rules in
    rw c.in-CostDiffers.is (rw (to_z-of_z w128 c.in-CostDiffers.bound fits) at c.add_difference.ensures)
