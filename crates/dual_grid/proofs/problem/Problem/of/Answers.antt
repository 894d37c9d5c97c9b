use Rattle.std.proofs.Common.{◌≡◌, ◌∙◌, ◌-◌, refl, subst, sym}
use Rattle.std.specs.Prelude.{pos}
use Rattle.raster_model.specs.declared.edge.Edge.{Edge}
use Rattle.raster_model.specs.declared.tiling.Window.{Window}
use Rattle.raster_model.specs.Raster.{Raster, masked_weight}
use Rattle.raster_model.specs.Scene.{raster_of}
use Rattle.raster_model.specs.Sheets.{sheet_raster}
use Rattle.wrapped_gradient.specs.Gradients.{residue_at}
use Rattle.wrapped_gradient.specs.Rows.{AreInRows}
use Rattle.wrapped_gradient.specs.Windows.{IsCellOf, IsEdgeOf, edge_value}
use Rattle.wrapped_gradient.proofs.GradientLemmas.{residues_are}
use Rattle.dual_grid.specs.Nodes.{cells_of}
use Rattle.dual_grid.specs.Starts.{open_in_window}
use Rattle.dual_grid.proofs.ListingLemmas.{residues_listed, weights_listed}
use Rattle.dual_grid.proofs.problem.Problem.of.Goals as goal

pub returns : goal.returns
returns c =
    let r = raster_of c.args.scene.now in
    let sheet = c.sheet-sheet.result in
    let unmasked = c.args.unmasked.now in
    let g = c.args.gradients.now in
    let v = c.window-window.result in
    let same : g.window ≡ v = c.requires.window ∙ sym c.window-window.ensures.value in
    let rows = subst (λ (w : Window). AreInRows (residue_at g) w.x0 w.y0 (w.x1 - w.x0) (cells_of w) c.in_ok-residues.field-0.items) same c.in_ok-residues.ensures in
    let right = c.in_ok-right_weights.field-0.items in
    let down = c.in_ok-down_weights.field-0.items in
    record {
      window = c.window-window.ensures.value;
      steep = refl;
      weights = subst (λ (q : Raster). (e : Edge) → IsEdgeOf v e → edge_value v right down e ≡ pos (masked_weight q (open_in_window v unmasked) e)) c.sheet-sheet.ensures.raster
          (weights_listed (sheet_raster sheet) v unmasked right down c.in_ok-right_weights.ensures.rows c.in_ok-down_weights.ensures.rows);
      residues = λ x y i. residues_listed (residue_at g) v c.in_ok-residues.field-0.items x y rows i ∙ residues_are r g c.requires.gradients x y (subst (λ (w : Window). IsCellOf w x y) (sym same) i);
    }
