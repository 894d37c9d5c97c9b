use Rattle.std.proofs.Common.{◌∙◌, inl, inr, length, rules, sym}
use Rattle.std.specs.Prelude.{FitsSigned}
use Rattle.std.proofs.lemmas.Int.{to_z-of_z}
use mir.Syntax.{w128}
use Rattle.raster_model.proofs.Whole.{whole_tile_cost}
use Rattle.whole_check.specs.Judged.{task_judged, told_judged}
use Rattle.whole_check.specs.Verdicts.{surface_told}
use Rattle.whole_check.proofs.CheckLemmas.{faces_counted}
use Rattle.whole_check.proofs.judged.JudgedWhole.refused.Goals as goal

pub returns-in-FaceAtEdge : goal.returns-in-FaceAtEdge
returns-in-FaceAtEdge c = let u = rw c.in-FaceAtEdge.is at c.requires.says in ((c.requires.head, c.requires.values), u.1)

pub returns-in-CostDiffers : goal.returns-in-CostDiffers
returns-in-CostDiffers c =
    let s = task_judged c.args.self.now in
    let u = rw c.in-CostDiffers.is at c.requires.says in
    let bound = c.in-CostDiffers.bound in
    let fits : FitsSigned w128 bound = search rules in
    rw (to_z-of_z w128 bound fits) ((c.requires.head, c.requires.values), (u.1, (u.2 ∙ whole_tile_cost s.raster s.mask (surface_told s (told_judged c.args.self.now)), (u.3, u.4))))

pub unreachable-requires : goal.unreachable-requires
unreachable-requires c =
    let s = c.args.self.now.sheet.now in
    let w = c.args.self.now.whole.now in
    let size = c.requires.head.size in
    let counted = faces_counted s (length w.faces.items) w.width w.height (sym w.faces.ok.0 ∙ w.count) size.0 size.1 in
    elim c.in-Good.is [
      | inl good ↦ c.requires.not_good good
      | inr other ↦ elim other [
        | inl shape ↦ (rw shape at c.requires.says) counted
        | inr range ↦ rw range.2 at c.requires.says
      ]
    ]
