use Rattle.std.proofs.Common.{◌≡◌, ◌+◌, ◌*◌, ◌≤◌, ◌∙◌, ap, refl, sym, subst, arith, ℕ, List, ◌++◌, length, length-append, replicate}
use Rattle.std.specs.Prelude.{ℤ, pos, ◌≤ℤ◌, unsigned_abs}
use Rattle.std.proofs.lemmas.List.{length-replicate}
use Rattle.raster_model.specs.declared.tiling.Window.{Window}
use Rattle.raster_model.specs.Raster.{residue}
use Rattle.raster_model.specs.Tiles.{IsRasterWindow}
use Rattle.raster_model.specs.Sheets.{sheet_raster}
use Rattle.flow_network.specs.Growing.{supply_sizes}
use Rattle.dual_grid.specs.Building.{AreCellSupplies}
use Rattle.dual_grid.specs.Nodes.{cells_of}
use Rattle.dual_grid.specs.Grids.{AreWeighed, start_residual}
use Rattle.dual_grid.specs.Starts.{IsAtStart, open_in_window}
use Rattle.dual_grid.specs.Layout.{FitGrid, number_or_zero, shape_by, state_by, weight_in}
use Rattle.dual_grid.proofs.ArcLemmas.{grid_is_network}
use Rattle.dual_grid.proofs.GridLemmas.{grid_is_joined}
use Rattle.dual_grid.proofs.MakeLemmas.{all_zero, joined_light, joined_weighed, start_at, start_cheap, start_conserved, start_kept, start_reach, start_room, start_within}
use Rattle.dual_grid.proofs.StartLemmas.{few_of_raster, raster_even, raster_sizes, raster_supplies}
use Rattle.dual_grid.proofs.grid.DualGrid.over.Goals as goal
use Rattle.dual_grid.proofs.grid.DualGrid.over.Goals.{In_ok-potentials}

limited : (c : In_ok-potentials) → IsRasterWindow c.window-window.result
limited c = c.window-window.ensures.window

joined : (c : In_ok-potentials) → c.append.new.self.items ≡ c.in_ok-weights.weights.items ++ c.in_ok-down.down.items
joined c = c.in_ok-append.ensures.items

flows_are : (c : In_ok-potentials) → c.in_ok-flows.flows.items ≡ replicate c.len.result (pos 0)
flows_are c = c.in_ok-flows.ensures.items_if_clones_equal (λ y h. h)

potentials_are : (c : In_ok-potentials) → c.in_ok-potentials.potentials.items ≡ replicate c.len-2.result (pos 0)
potentials_are c = c.in_ok-potentials.ensures.items_if_clones_equal (λ y h. h)

same : (c : In_ok-potentials) → c.window-window.result ≡ c.args.gradients.now.window
same c = c.window-window.ensures.value

supplies_are : (c : In_ok-potentials) → AreCellSupplies (residue (sheet_raster c.args.sheet.now)) c.window-window.result c.in_ok-excesses.excesses.items
supplies_are c =
    subst (λ (v : Window). AreCellSupplies (residue (sheet_raster c.args.sheet.now)) v c.in_ok-excesses.excesses.items) (sym (same c))
    (raster_supplies (sheet_raster c.args.sheet.now) c.args.gradients.now c.in_ok-excesses.excesses.items c.requires.gradients c.in_ok-excesses.ensures)

fit : (c : In_ok-potentials) → FitGrid c.window-window.result c.append.new.self.items c.in_ok-flows.flows.items c.in_ok-excesses.excesses.items c.in_ok-potentials.potentials.items
fit c =
    let right = c.in_ok-weights.ensures.rows.0 in
    let down = c.in_ok-down.ensures.rows.0 in
    let all : length c.append.new.self.items ≡ length c.in_ok-weights.weights.items + length c.in_ok-down.down.items = ap (λ (zs : List ℤ). length zs) (joined c) ∙ length-append c.in_ok-weights.weights.items c.in_ok-down.down.items in
    let edges = length-replicate c.len.result (pos 0) in
    let nodes = length-replicate c.len-2.result (pos 0) in
    let flows = ap (λ (zs : List ℤ). length zs) (flows_are c) in
    let potentials = ap (λ (zs : List ℤ). length zs) (potentials_are c) in
    record {
      by_weight = omega (arith, all, right, down);
      by_edge = omega (arith, flows, edges, c.len.ensures, c.append.new.self.ok.0, all, right, down);
      by_node = (supplies_are c).count;
      by_height = omega (arith, potentials, nodes, c.len-2.ensures, c.in_ok-excesses.excesses.ok.0, (supplies_are c).count);
    }

light : (c : In_ok-potentials) → (n : ℕ) → unsigned_abs (number_or_zero c.append.new.self.items n) ≤ 65535
light c n = rw (joined c) (joined_light c.in_ok-weights.weights.items c.in_ok-down.down.items c.in_ok-weights.ensures.small c.in_ok-down.ensures.small n)

none : (c : In_ok-potentials) → (n : ℕ) → number_or_zero c.in_ok-flows.flows.items n ≡ pos 0
none c n = ap (λ (zs : List ℤ). number_or_zero zs n) (flows_are c) ∙ all_zero c.len.result n

flat : (c : In_ok-potentials) → (n : ℕ) → number_or_zero c.in_ok-potentials.potentials.items n ≡ pos 0
flat c n = ap (λ (zs : List ℤ). number_or_zero zs n) (potentials_are c) ∙ all_zero c.len-2.result n

sizes : (c : In_ok-potentials) → supply_sizes c.in_ok-excesses.excesses.items ≤ℤ pos (2 * cells_of c.window-window.result)
sizes c =
    subst (λ (v : Window). supply_sizes c.in_ok-excesses.excesses.items ≤ℤ pos (2 * cells_of v)) (sym (same c))
    (raster_sizes (sheet_raster c.args.sheet.now) c.args.gradients.now c.in_ok-excesses.excesses.items c.requires.gradients c.in_ok-excesses.ensures)

start : (c : In_ok-potentials) → IsAtStart (start_residual c.window-window.result c.args.sheet.now.terms.steep (weight_in c.append.new.self.items)) (residue (sheet_raster c.args.sheet.now)) c.window-window.result (shape_by c.window-window.result c.args.sheet.now.terms.steep c.append.new.self.items) (state_by c.window-window.result c.args.sheet.now.terms.steep c.append.new.self.items c.in_ok-flows.flows.items c.in_ok-excesses.excesses.items c.in_ok-potentials.potentials.items)
start c =
    start_at c.window-window.result (limited c) c.args.sheet.now.terms.steep c.args.sheet.now.terms.steepness.1 c.append.new.self.items c.in_ok-flows.flows.items c.in_ok-excesses.excesses.items c.in_ok-potentials.potentials.items (fit c) (light c) (none c) (flat c) (residue (sheet_raster c.args.sheet.now)) (supplies_are c)

pub invariant_of-result : goal.invariant_of-result
invariant_of-result c =
    let v = c.window-window.result in
    let weights = c.append.new.self.items in
    let q = c.args.sheet.now.terms.steep in
    let gentle = c.args.sheet.now.terms.steepness.1 in
    let flows = c.in_ok-flows.flows.items in
    let excesses = c.in_ok-excesses.excesses.items in
    let potentials = c.in_ok-potentials.potentials.items in
    record {
      limited = limited c;
      steepness = c.args.sheet.now.terms.steepness;
      fit = fit c;
      within = start_within v (limited c) q gentle weights flows excesses potentials (fit c) (light c) (none c) (flat c);
      is_network = grid_is_network v q (weight_in weights);
      room = start_room v (limited c) q gentle weights flows excesses potentials (fit c) (light c) (none c) (flat c) (sizes c);
      reach = start_reach v (limited c) q gentle weights flows excesses potentials (fit c) (light c) (none c) (flat c);
      has_reduced_costs = start_kept v (limited c) q gentle weights flows excesses potentials (fit c) (light c) (none c) (flat c) (raster_even (sheet_raster c.args.sheet.now) c.args.gradients.now excesses c.requires.gradients c.in_ok-excesses.ensures);
    }

pub returns-clause-grid : goal.returns-clause-grid
returns-clause-grid c =
    let p = (goal.at.returns-clause-grid c).In_ok-potentials in
    let v = c.window-window.result in
    let s = c.args.sheet.now in
    let unmasked = c.args.unmasked.now in
    record {
      window = c.window-window.ensures.value;
      steep = refl;
      weighed = subst (λ (zs : List ℤ). AreWeighed (sheet_raster s) (open_in_window v unmasked) v (weight_in zs)) (sym (joined p))
          (joined_weighed (sheet_raster s) v unmasked c.in_ok-weights.weights.items c.in_ok-down.down.items c.in_ok-weights.ensures.rows c.in_ok-down.ensures.rows);
      conserved = start_conserved v (limited p) s.terms.steep s.terms.steepness.1 c.append.new.self.items c.in_ok-flows.flows.items c.in_ok-excesses.excesses.items c.in_ok-potentials.potentials.items (fit p) (light p) (none p) (flat p) (residue (sheet_raster s)) (supplies_are p);
    }

pub returns-clause-start : goal.returns-clause-start
returns-clause-start c =
    let p = (goal.at.returns-clause-start c).In_ok-potentials in
    subst (λ (v : Window). IsAtStart (start_residual c.window-window.result c.args.sheet.now.terms.steep (weight_in c.append.new.self.items)) (residue (sheet_raster c.args.sheet.now)) v (shape_by c.window-window.result c.args.sheet.now.terms.steep c.append.new.self.items) (state_by c.window-window.result c.args.sheet.now.terms.steep c.append.new.self.items c.in_ok-flows.flows.items c.in_ok-excesses.excesses.items c.in_ok-potentials.potentials.items)) c.window-window.ensures.value (start p)

pub returns-clause-small : goal.returns-clause-small
returns-clause-small c =
    let p = (goal.at.returns-clause-small c).In_ok-potentials in
    start_cheap c.window-window.result (limited p) c.args.sheet.now.terms.steep c.args.sheet.now.terms.steepness.1 c.append.new.self.items c.in_ok-flows.flows.items c.in_ok-excesses.excesses.items c.in_ok-potentials.potentials.items (fit p) (light p) (none p) (flat p)

pub returns-clause-few : goal.returns-clause-few
returns-clause-few c =
    let p = (goal.at.returns-clause-few c).In_ok-potentials in
    few_of_raster (start_residual c.window-window.result c.args.sheet.now.terms.steep (weight_in c.append.new.self.items)) (sheet_raster c.args.sheet.now) c.window-window.result (shape_by c.window-window.result c.args.sheet.now.terms.steep c.append.new.self.items) (state_by c.window-window.result c.args.sheet.now.terms.steep c.append.new.self.items c.in_ok-flows.flows.items c.in_ok-excesses.excesses.items c.in_ok-potentials.potentials.items) refl (start p)

pub returns-clause-joined : goal.returns-clause-joined
returns-clause-joined c = grid_is_joined c.window-window.result c.args.sheet.now.terms.steep (weight_in c.append.new.self.items)
