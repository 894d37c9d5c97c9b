use Rattle.std.proofs.Common.{rules}
use Rattle.std.specs.Prelude.{FitsSigned}
use Rattle.std.specs.Int.{w128}
use Rattle.std.proofs.lemmas.Int.{to_z-of_z}
use Rattle.answer_lines.proofs.verdicts.add_tile_words.Goals as goal

pub returns-in-FaceAtEdge : goal.returns-in-FaceAtEdge
returns-in-FaceAtEdge g c = rw c.in-FaceAtEdge.is c.add_at_edge.ensures

pub returns-in-CostDiffers : goal.returns-in-CostDiffers
returns-in-CostDiffers g c =
    let fits : FitsSigned w128 c.in-CostDiffers.bound = search rules in
    rw c.in-CostDiffers.is (rw (to_z-of_z w128 c.in-CostDiffers.bound fits) at c.add_difference.ensures)
