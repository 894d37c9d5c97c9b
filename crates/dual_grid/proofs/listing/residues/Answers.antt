use Rattle.std.proofs.Common.{◌∙◌, ◌+◌, ◌-◌, ◌*◌, ap, subst, sym, arith, List, ℤ, to_z, of_z, w8, SFits}
use Rattle.std.proofs.lemmas.Int.{ints, to_z-of_z}
use Rattle.raster_model.specs.declared.tiling.Window.{Window}
use Rattle.wrapped_gradient.specs.Gradients.{residue_at}
use Rattle.wrapped_gradient.specs.Rows.{AreInRows}
use Rattle.wrapped_gradient.proofs.RowLemmas.{rows_step, rows_end}
use Rattle.dual_grid.proofs.listing.residues.Goals as goal

pub loop-x-preserved : goal.loop-x-preserved
loop-x-preserved c =
    let v = c.args.gradients.now.window in
    let left = ap (λ (w : Window). w.x0) c.window-window.ensures.value in
    let right = ap (λ (w : Window). w.x1) c.window-window.ensures.value in
    let top = ap (λ (w : Window). w.y0) c.window-window.ensures.value in
    let fits : SFits w8 c.residue.result = omega (arith, ints, c.residue.ensures.small) in
    subst (AreInRows (residue_at c.args.gradients.now) v.x0 v.y0 (v.x1 - v.x0) ((c.loop-y.y - v.y0) * (v.x1 - v.x0) + (c.loop-x.x + 1 - v.x0)))
    (sym {A = List ℤ} c.in_ok-push.ensures.items)
    (rows_step (residue_at c.args.gradients.now) v.x0 v.y0 (v.x1 - v.x0) c.loop-x.x c.loop-y.y c.loop-x.list.items (to_z w8 (of_z w8 c.residue.result)) (omega (arith, left)) (omega (arith, left, right)) (omega (arith, top)) (to_z-of_z w8 c.residue.result fits ∙ c.residue.ensures.value) c.loop-x.invariant)

pub loop-y-preserved : goal.loop-y-preserved
loop-y-preserved c =
    let v = c.args.gradients.now.window in
    let left = ap (λ (w : Window). w.x0) c.window-window.ensures.value in
    let right = ap (λ (w : Window). w.x1) c.window-window.ensures.value in
    let top = ap (λ (w : Window). w.y0) c.window-window.ensures.value in
    rows_end (residue_at c.args.gradients.now) v.x0 v.y0 (v.x1 - v.x0) c.loop-x.x c.loop-y.y c.loop-x.list.items (omega (arith, left, right)) (omega (arith, top)) c.loop-x.invariant
