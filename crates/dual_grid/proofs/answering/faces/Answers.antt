use Rattle.std.proofs.Common.{◌+◌, sym, subst, List, ℤ}
use Rattle.dual_grid.specs.Building.{AreFaces}
use Rattle.dual_grid.specs.Layout.{number_or_zero}
use Rattle.dual_grid.proofs.AnswerLemmas.{face_is, faces_more}
use Rattle.dual_grid.proofs.answering.faces.Goals as goal

pub overflow_sub-outside : goal.overflow_sub-outside
overflow_sub-outside c =
    let potential = number_or_zero c.args.potentials.now in
    (face_is (potential c.args.cells) (potential c.loop-cell.cell) (c.requires.within c.args.cells) (c.requires.within c.loop-cell.cell)).0

pub loop-cell-preserved : goal.loop-cell-preserved
loop-cell-preserved c =
    let potential = number_or_zero c.args.potentials.now in
    let is = face_is (potential c.args.cells) (potential c.loop-cell.cell) (c.requires.within c.args.cells) (c.requires.within c.loop-cell.cell) in
    subst (AreFaces potential c.args.cells (c.loop-cell.cell + 1)) (sym {A = List ℤ} c.in_ok-push.ensures.items)
    (faces_more potential c.args.cells c.loop-cell.cell c.loop-cell.list.items _ is.1 c.loop-cell.invariant)
