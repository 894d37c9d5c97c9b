use Rattle.std.proofs.Common.{◌≡◌, ◌+◌, ◌++◌, ℕ, List, arith, length, subst, sym}
use Rattle.std.specs.Prelude.{ℤ, IfNone, IfSome, Option, Some, None}
use Rattle.raster_model.specs.Sheets.{sheet_raster}
use Rattle.flow_network.specs.Nets.{Shape}
use Rattle.dual_grid.specs.declared.grid.DualGrid.{DualGrid}
use Rattle.dual_grid.specs.Answers.{StaysNearStart}
use Rattle.dual_grid.specs.Building.{AreTurnedFaces}
use Rattle.dual_grid.specs.Grids.{IsConnected}
use Rattle.dual_grid.specs.Layout.{AreLow}
use Rattle.dual_grid.specs.Nodes.{rights_of}
use Rattle.dual_grid.specs.Reaching.{MayGoOn}
use Rattle.dual_grid.specs.Views.{grid_shape, grid_start, grid_state}
use Rattle.dual_grid.proofs.CallerLemmas.{grid_stays, start_stays}
use Rattle.dual_grid.proofs.TogetherLemmas.{GridGoesOn, faces_told, grid_goes_on, grid_together, rights_told}
use Rattle.sums_and_lists.proofs.Tests.{true_and_false}
use Rattle.dual_grid.proofs.grid.DualGrid.reached.Goals as goal
use Rattle.dual_grid.proofs.grid.DualGrid.reached.Goals.{then-faces-len-via-then-faces-len, then-faces-len-via-else-faces-len+then-not-are_low}

-- what follows from what is known of a grid, if there is one
if_grid : (o : Option DualGrid) (P Q R : DualGrid → Type 0) → ((g : DualGrid) → P g → Q g → R g) → IfSome o P → IfSome o Q → IfSome o R
if_grid (Some g) P Q R f p q = f g p q
if_grid None P Q R f p q = tt

pub returns-clause-grid : goal.returns-clause-grid
returns-clause-grid c =
    let start = c.in_ok-start.start in
    if_grid c.after.result _ _ _ (λ grid origin _. grid_stays (sheet_raster c.args.sheet.now) c.args.gradients.now.window c.args.unmasked.now start grid origin c.in_ok-start.ensures.grid) c.after.ensures.origin c.after.ensures.low

pub returns-clause-near : goal.returns-clause-near
returns-clause-near c =
    let start = c.in_ok-start.start in
    if_grid c.after.result _ _ _ (λ grid origin near. (
    let shaped = subst (λ (z : Shape). StaysNearStart (grid_start start) z (grid_state grid)) (sym origin.shape) near in
    subst (λ (b : ℕ → ℕ). StaysNearStart b (grid_shape grid) (grid_state grid)) (sym (start_stays start grid origin)) shaped)) c.after.ensures.origin c.after.ensures.near

pub returns-clause-joined : goal.returns-clause-joined
returns-clause-joined c =
    let start = c.in_ok-start.start in
    if_grid c.after.result _ _ _ (λ grid origin _. (
    let shaped = subst (λ (z : Shape). IsConnected (grid_start start) z) (sym origin.shape) c.in_ok-start.ensures.joined in
    subst (λ (b : ℕ → ℕ). IsConnected b (grid_shape grid)) (sym (start_stays start grid origin)) shaped)) c.after.ensures.origin c.after.ensures.low

-- ---- when there is a grid
if_some : (o : Option DualGrid) (P Q : Type 0) → (P → Q) → IfSome o (λ (grid : DualGrid). P) → IfSome o (λ (grid : DualGrid). Q)
if_some (Some g) P Q f p = f p
if_some None P Q f p = tt

if_none : (o : Option DualGrid) (P Q : Type 0) → (Q → P) → IfNone o (P → ⊥) → IfNone o (Q → ⊥)
if_none (Some g) P Q f n = tt
if_none None P Q f n = λ q. n (f q)

pub returns-then-faces-len-clause-none : goal.returns-then-faces-len-clause-none
returns-then-faces-len-clause-none c =
    λ m.
    let start = c.in_ok-start.start in
    let told = faces_told (sheet_raster c.args.sheet.now) c.args.gradients.now.window c.args.unmasked.now start c.in_ok-start.ensures.grid c.in_ok-start.ensures.start c.args.corrections c.args.faces.now m in
    elim c.then-faces-len.branch [
      | then-faces-len-via-then-faces-len w ↦ omega (arith, w.if-faces-len.true, c.len.ensures, start.potentials.ok.0, told)
      | then-faces-len-via-else-faces-len+then-not-are_low w ↦ true_and_false w.are_low.result (w.are_low.ensures.told m.low) w.if-not-are_low.true
    ]

pub returns-then-len-right_count-clause-none : goal.returns-then-len-right_count-clause-none
returns-then-len-right_count-clause-none c =
    λ m.
    let told = rights_told (sheet_raster c.args.sheet.now) c.args.gradients.now.window c.args.unmasked.now c.in_ok-start.start c.in_ok-start.ensures.grid c.in_ok-start.ensures.start c.args.corrections c.args.faces.now m in
    omega (arith, c.if-len-right_count.true, c.len-2.ensures, c.right_count.ensures, c.args.corrections.right.ok.0, told)

pub returns-clause-flows : goal.returns-clause-flows
returns-clause-flows c = subst (λ (zs : List ℤ). IfSome c.after.result (λ (grid : DualGrid). grid.flows.items ≡ zs)) c.in_ok-append.ensures.items c.after.ensures.flows

pub returns-clause-heights : goal.returns-clause-heights
returns-clause-heights c =
    let potentials = c.in_ok-potentials.potentials.items in
    if_grid c.after.result (λ (grid : DualGrid). grid.potentials.items ≡ potentials) (λ (grid : DualGrid). AreLow grid.potentials.items) (λ (grid : DualGrid). AreTurnedFaces c.args.faces.now grid.potentials.items) (λ grid same _. subst (λ (zs : List ℤ). AreTurnedFaces c.args.faces.now zs) (sym same) c.in_ok-potentials.ensures) c.after.ensures.heights c.after.ensures.low

pub returns-clause-may : goal.returns-clause-may
returns-clause-may c =
    let start = c.in_ok-start.start in
    let k = c.args.corrections in
    let faces = c.args.faces.now in
    let potentials = c.in_ok-potentials.potentials.items in
    let rights : length k.right.items ≡ rights_of start.window = omega (arith, c.if-len-right_count.false, c.len-2.ensures, c.right_count.ensures, k.right.ok.0) in
    let count : length faces + 1 ≡ length start.potentials.items = omega (arith, c.if-faces-len.false, c.len.ensures, start.potentials.ok.0) in
    if_some c.after.result (GridGoesOn start (k.right.items ++ k.down.items) potentials) (MayGoOn (sheet_raster c.args.sheet.now) c.args.gradients.now.window c.args.unmasked.now k faces)
    (grid_goes_on (sheet_raster c.args.sheet.now) c.args.gradients.now.window c.args.unmasked.now start c.in_ok-start.ensures.grid c.in_ok-start.ensures.start k faces rights potentials c.in_ok-potentials.ensures count (c.are_low.ensures.low c.if-not-are_low.false))
    (subst (λ (zs : List ℤ). IfSome c.after.result (λ (grid : DualGrid). GridGoesOn start zs potentials)) c.in_ok-append.ensures.items c.after.ensures.together)

pub returns-clause-none : goal.returns-clause-none
returns-clause-none c =
    let start = c.in_ok-start.start in
    let k = c.args.corrections in
    let faces = c.args.faces.now in
    let potentials = c.in_ok-potentials.potentials.items in
    let rights : length k.right.items ≡ rights_of start.window = omega (arith, c.if-len-right_count.false, c.len-2.ensures, c.right_count.ensures, k.right.ok.0) in
    if_none c.after.result (GridGoesOn start (k.right.items ++ k.down.items) potentials) (MayGoOn (sheet_raster c.args.sheet.now) c.args.gradients.now.window c.args.unmasked.now k faces)
    (grid_together (sheet_raster c.args.sheet.now) c.args.gradients.now.window c.args.unmasked.now start c.in_ok-start.ensures.grid c.in_ok-start.ensures.start k faces rights potentials c.in_ok-potentials.ensures)
    (subst (λ (zs : List ℤ). IfNone c.after.result (GridGoesOn start zs potentials → ⊥)) c.in_ok-append.ensures.items c.after.ensures.none)
