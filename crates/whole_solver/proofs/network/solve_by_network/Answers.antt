use Rattle.std.proofs.Common.{◌≡◌, ◌*◌, ◌+◌, ◌≤◌, ◌∙◌, ap, arith, subst, sym, List, Bool, length, pos}
use Rattle.raster_model.specs.declared.tiling.Window.{Window}
use Rattle.raster_model.specs.Limits.{max_pixels}
use Rattle.raster_model.specs.Masks.{open_at}
use Rattle.raster_model.specs.Sheets.{sheet_raster}
use Rattle.raster_model.specs.Tiles.{height_of, width_of, IsTileWindow}
use Rattle.raster_model.proofs.Exact.{lifted_is_congruent}
use Rattle.wrapped_gradient.specs.Corrections.{greatest_of}
use Rattle.surface_integration.specs.Cycles.{DepartBy, StaySmall, cycles_at}
use Rattle.dual_grid.specs.Answers.{AreCertifiedCorrections}
use Rattle.dual_grid.specs.Nodes.{cells_of}
use Rattle.dual_grid.specs.Starts.{TellsMask}
use Rattle.network_solver.proofs.SurfaceLemmas.{certified_surface}
use Rattle.raster_model.specs.Whole.{whole_of}
use Rattle.whole_solver.specs.Solved.{raster_window}
use Rattle.whole_solver.proofs.WholeLemmas.{few_cells_whole, pixels_are, stay_unmoved, whole_tile}
use Rattle.whole_solver.proofs.network.solve_by_network.Goals as goal
use Rattle.whole_solver.proofs.network.solve_by_network.Goals.{After-corrections-2-1}

pub least_corrections-requires-clause-count : goal.least_corrections-requires-clause-count
least_corrections-requires-clause-count c =
    let same : c.in_ok-gradients.gradients.window ≡ raster_window (sheet_raster c.args.sheet.now) = c.in_ok-gradients.ensures.window ∙ c.raster_window.ensures in
    ap (λ (list : List Bool). length list) c.deref.ensures.value ∙ c.in_ok-unmasked.ensures.count ∙ sym (ap (λ (v : Window). width_of v * height_of v) same ∙ pixels_are c.args.sheet.now)

-- the window of the gradients is the raster's
window_is : (c : After-corrections-2-1) → c.in_ok-gradients.gradients.window ≡ raster_window (sheet_raster c.args.sheet.now)
window_is c = c.in_ok-gradients.ensures.window ∙ c.raster_window.ensures

-- what the network answers is certified for the raster as one tile
answer : (c : After-corrections-2-1) → AreCertifiedCorrections (whole_of (sheet_raster c.args.sheet.now)) (open_at c.args.mask.now) 0 c.in_ok-gradients.gradients.window c.in_ok-corrections.corrections c.in_ok-corrections.faces.items
answer c =
    let s = c.args.sheet.now in
    let mask = open_at c.args.mask.now in
    let back = sym (window_is c) in
    let told = subst (λ (list : List Bool). TellsMask (raster_window (sheet_raster s)) list mask) (sym c.deref.ensures.value) c.in_ok-unmasked.ensures.told in
    c.in_ok-corrections.ensures mask (subst (λ (v : Window). TellsMask v c.deref.result.now mask) back told) (λ x y. 0) 1 0
    (subst (λ (v : Window). IsTileWindow (whole_of (sheet_raster s)) 0 v) back (whole_tile s))

pub integrate_wide-requires-clause-shape : goal.integrate_wide-requires-clause-shape
integrate_wide-requires-clause-shape c = (answer c).shape

pub integrate_wide-requires-clause-cancel : goal.integrate_wide-requires-clause-cancel
integrate_wide-requires-clause-cancel c = (answer c).cancel

pub integrate_wide-requires-clause-small : goal.integrate_wide-requires-clause-small
integrate_wide-requires-clause-small c =
    let few : cells_of c.in_ok-gradients.gradients.window ≤ max_pixels = subst (λ (v : Window). cells_of v ≤ max_pixels) (sym (window_is c)) (few_cells_whole c.args.sheet.now) in
    omega (arith, (answer c).small, few)

pub returns-clause-count : goal.returns-clause-count
returns-clause-count c =
    let p = (goal.at.returns-clause-count c).After-corrections-2-1 in
    c.in_ok-cycles.ensures.count ∙ ap (λ (v : Window). width_of v * height_of v) (window_is p) ∙ pixels_are c.args.sheet.now

pub returns-clause-first : goal.returns-clause-first
returns-clause-first c =
    let p = (goal.at.returns-clause-first c).After-corrections-2-1 in
    subst (λ (v : Window). cycles_at v c.in_ok-cycles.cycles.items v.x0 v.y0 ≡ pos 0) (window_is p) c.in_ok-cycles.ensures.first

pub returns-clause-certified : goal.returns-clause-certified
returns-clause-certified c =
    let p = (goal.at.returns-clause-certified c).After-corrections-2-1 in
    let s = c.args.sheet.now in
    let r = whole_of (sheet_raster s) in
    let v = raster_window (sheet_raster s) in
    let mask = open_at c.args.mask.now in
    let k = c.in_ok-corrections.corrections in
    let faces = c.in_ok-corrections.faces.items in
    let cycles = cycles_at v c.in_ok-cycles.cycles.items in
    let departs = subst (λ (w : Window). DepartBy r w (cycles_at w c.in_ok-cycles.cycles.items) k) (window_is p) c.in_ok-cycles.ensures.departs in
    let certified = subst (λ (w : Window). AreCertifiedCorrections r mask 0 w k faces) (window_is p) (answer p) in
    record {
      congruent = lifted_is_congruent (sheet_raster s) mask cycles;
      certified = certified_surface r 0 v (whole_tile s) mask k cycles departs faces certified;
    }

pub returns-clause-within : goal.returns-clause-within
returns-clause-within c =
    let p = (goal.at.returns-clause-within c).After-corrections-2-1 in
    let k = c.in_ok-corrections.corrections in
    let small = subst (λ (v : Window). greatest_of k ≤ cells_of v + 1) (window_is p) (answer p).small in
    let stay = subst (λ (v : Window). StaySmall v (cycles_at v c.in_ok-cycles.cycles.items) (greatest_of k)) (window_is p) c.in_ok-cycles.ensures.bounded in
    stay_unmoved c.args.sheet.now k (cycles_at (raster_window (sheet_raster c.args.sheet.now)) c.in_ok-cycles.cycles.items) small stay
