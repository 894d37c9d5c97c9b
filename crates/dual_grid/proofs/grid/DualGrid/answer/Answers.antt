use Rattle.std.proofs.Common.{◌≡◌, ℕ, ◌+◌, ◌<◌, ◌∙◌, ap, sym, subst, arith, List, ℤ, take, drop, length, get_or, length-drop}
use Rattle.std.specs.Prelude.{pos}
use Rattle.std.proofs.lemmas.List.{get_or-drop, get_or-take, length-take-le}
use Rattle.raster_model.specs.declared.tiling.Window.{Window}
use Rattle.raster_model.specs.Tilings.{tiled_by}
use Rattle.raster_model.specs.Tiles.{IsTileWindow}
use Rattle.dual_grid.specs.Answers.{AreCertifiedCorrections}
use Rattle.dual_grid.specs.Starts.{TellsMask}
use Rattle.dual_grid.specs.Building.{AreFaces, AreEdgeFlows}
use Rattle.dual_grid.specs.Layout.{number_or_zero, weight_in}
use Rattle.dual_grid.specs.Nodes.{rights_of, downs_of}
use Rattle.dual_grid.proofs.CertificateLemmas.{is_answer}
use Rattle.dual_grid.proofs.grid.DualGrid.answer.Goals as goal

-- the flows in two lists
split : (v : Window) (flows right down : List ℤ) (r : ℕ) → r ≡ rights_of v → length flows ≡ rights_of v + downs_of v → right ≡ take r flows → down ≡ drop r flows → (length right ≡ rights_of v) × ((i : ℕ) → i < rights_of v → get_or right i (pos 0) ≡ number_or_zero flows i) × (length down ≡ downs_of v) × ((i : ℕ) → i < downs_of v → get_or down i (pos 0) ≡ number_or_zero flows (rights_of v + i))
split v flows right down r e count f g = (
  ap length f ∙ length-take-le r flows (omega (arith, e, count)) ∙ e,
  λ i l. ap (λ (zs : List ℤ). get_or zs i (pos 0)) f ∙ get_or-take r flows i (pos 0) (omega (arith, e, l)),
  ap length g ∙ length-drop r flows ∙ omega (arith, e, count),
  λ i l. ap (λ (zs : List ℤ). get_or zs i (pos 0)) g ∙ get_or-drop r flows i (pos 0) ∙ ap (λ (k : ℕ). number_or_zero flows (k + i)) e,
)

pub returns : goal.returns
returns c = λ raster w unmasked mask grid tells tiles count t window. (
    let g = c.args.self in
    let v = g.window in
    let r = tiled_by raster tiles count in
    let told = subst (λ (zs : List ℤ). AreFaces (number_or_zero zs) c.outside.result c.outside.result c.in_ok-faces.faces.items) c.deref.ensures.value c.in_ok-faces.ensures in
    let faces = subst (λ (n : ℕ). AreFaces (number_or_zero g.potentials.items) n n c.in_ok-faces.faces.items) c.outside.ensures told in
    let parts = split v g.flows.items c.split_off.new.self.items c.in_ok-down.down.items c.right_count.result c.right_count.ensures g.fit.by_edge c.in_ok-down.ensures.items c.in_ok-down.ensures.tail in
    let flows : AreEdgeFlows v (number_or_zero g.flows.items) (record { right = c.split_off.new.self; down = c.in_ok-down.down }) = record { right_count = parts.0; right = parts.1; down_count = parts.2; down = parts.3 } in
    subst (λ (w : Window). AreCertifiedCorrections r mask t w (record { right = c.split_off.new.self; down = c.in_ok-down.down }) c.in_ok-faces.faces.items) grid.window
    (is_answer r t v (subst (λ (w : Window). IsTileWindow r t w) (sym grid.window) window) g.limited unmasked mask (subst (λ (w : Window). TellsMask w unmasked mask) (sym grid.window) tells) g.steep grid.steep g.steepness.0 (weight_in g.weights.items) grid.weighed (number_or_zero g.flows.items) (number_or_zero g.excesses.items) (number_or_zero g.potentials.items) g.within g.has_reduced_costs grid.conserved c.requires.balanced c.requires.near
    (record { right = c.split_off.new.self; down = c.in_ok-down.down }) flows c.in_ok-faces.faces.items faces))
