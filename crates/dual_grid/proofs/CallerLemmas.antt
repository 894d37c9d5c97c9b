-- Lemmas for crates above, which balance a grid: what a grid of one origin keeps, that no nodes block, and what an answer is for a tile of the scene.
use Rattle.std.proofs.Common.{◌≡◌, ℕ, ◌<◌, ◌∙◌, sym, ap, ap₂, subst, arith, List, Bool, true, false}
use Rattle.std.specs.Prelude.{ℤ, pos, negsuc, ◌+ℤ◌, ◌≤ℤ◌, ◌<ℤ◌}
use Rattle.std.proofs.lemmas.Int.{ints}
use Rattle.raster_model.specs.declared.scene.Scene.{Scene}
use Rattle.raster_model.specs.declared.tiling.Window.{Window}
use Rattle.raster_model.specs.Raster.{residue, Raster}
use Rattle.raster_model.specs.Scene.{raster_of}
use Rattle.raster_model.specs.Sums.{Field}
use Rattle.raster_model.specs.Tiles.{tile_at, tiles_of, window_of}
use Rattle.wrapped_gradient.specs.declared.corrections.Corrections.{Corrections}
use Rattle.raster_model.proofs.TileLemmas.{scene_window, window_of-pixels}
use Rattle.flow_network.specs.Nets.{Shape, State, IsArc, tail_of, positive_part, total_excess}
use Rattle.flow_network.specs.Moves.{IsConserved}
use Rattle.flow_network.proofs.CallerLemmas.{conserved-trans}
use Rattle.dual_grid.specs.declared.grid.DualGrid.{DualGrid}
use Rattle.dual_grid.specs.Answers.{AreCertifiedCorrections, AreCertifiedOver, IsNearStart}
use Rattle.dual_grid.specs.Grids.{AreWeighed, IsConnected, start_residual}
use Rattle.dual_grid.specs.Layout.{weight_in}
use Rattle.dual_grid.specs.Starts.{IsAtStart, open_in_window, start_state}
use Rattle.dual_grid.specs.Views.{HaveOneOrigin, IsGridOf, grid_shape, grid_start, grid_state}
use Rattle.sums_and_lists.specs.Sums.{sum_below}
use Rattle.sums_and_lists.proofs.SumLemmas.{sum_below-same}

-- grids of one origin start alike
pub start_stays : (g h : DualGrid) → HaveOneOrigin g h → grid_start h ≡ grid_start g
start_stays g h origin = ap₂ (λ (q : ℕ) (zs : List ℤ). start_residual h.window q (weight_in zs)) origin.steep origin.weights ∙ ap (λ (v : Window). start_residual v g.steep (weight_in g.weights.items)) origin.window

-- pushes and raises leave a grid what it was made from
pub grid_stays : (r : Raster) (v : Window) (unmasked : List Bool) (g h : DualGrid) → HaveOneOrigin g h → IsGridOf r v unmasked g → IsGridOf r v unmasked h
grid_stays r v unmasked g h origin grid =
    let start = start_stays g h origin in
    let conserved = conserved-trans (grid_shape g) (start_state (grid_start g) (residue r) g.window) (grid_state g) (grid_state h) grid.conserved origin.conserved in
    let begun = subst (λ (b : ℕ → ℕ). IsConserved (grid_shape g) (start_state b (residue r) g.window) (grid_state h)) (sym start) conserved in
    let placed = subst (λ (v : Window). IsConserved (grid_shape g) (start_state (grid_start h) (residue r) v) (grid_state h)) (sym origin.window) begun in
    record {
      window = origin.window ∙ grid.window;
      steep = origin.steep ∙ grid.steep;
      weighed = subst (λ (v : Window). AreWeighed r (open_in_window v unmasked) v (weight_in h.weights.items)) (sym origin.window) (subst (λ (zs : List ℤ). AreWeighed r (open_in_window g.window unmasked) g.window (weight_in zs)) (sym origin.weights) grid.weighed);
      conserved = subst (λ (z : Shape). IsConserved z (start_state (grid_start h) (residue r) h.window) (grid_state h)) (sym origin.shape) placed;
    }

-- an answer over the window of a tile of the scene is one for that tile
pub scene_answer : (s : Scene) (mask : Field Bool) (t : ℕ) (k : Corrections) (faces : List ℤ) → t < tiles_of s.tiling → AreCertifiedOver (raster_of s) mask (window_of s.tiling t) k faces → AreCertifiedCorrections (raster_of s) mask t (window_of s.tiling t) k faces
scene_answer s mask t k faces exists answer = answer (tile_at s.tiling) (tiles_of s.tiling) t (scene_window s t (window_of s.tiling t) (window_of-pixels s.tiling t exists))

-- residuals that differ from those of the start by at most the positive excesses are near them
pub near_start : (begin : ℕ → ℕ) (f : Field ℤ) (v : Window) (s : Shape) (g h : State) (m : ℤ) → IsAtStart begin f v s g → m <ℤ pos s.nodes → ((a : ℕ) → IsArc s a → (pos (h.residual a) ≤ℤ (pos (g.residual a) +ℤ m)) × (pos (g.residual a) ≤ℤ (pos (h.residual a) +ℤ m))) → IsNearStart begin s h
near_start begin f v s g h m start few moves a arc =
    let k = moves a arc in
    let e = start.residual a arc in
    (omega (arith, ints, k.0, e, few), omega (arith, ints, k.1, e, few))

-- the sum of the positive excesses, with another word for the positive part
pub positive_excess-same : (part : ℤ → ℤ) (s : Shape) (g : State) → ((n : ℕ) → part (pos n) ≡ pos n) → ((n : ℕ) → part (negsuc n) ≡ pos 0) → sum_below s.nodes (λ u. part (g.excess u)) ≡ total_excess s g
positive_excess-same part s g at least = sum_below-same s.nodes (λ u. part (g.excess u)) (λ u. positive_part (g.excess u)) (λ u l. same (g.excess u))
  where
    same : (z : ℤ) → part z ≡ positive_part z
    same (pos n) = at n
    same (negsuc n) = least n

-- near the start an arc with capacity left leads out of each set of nodes but the empty one and the whole, so no nodes block
pub leads_out : (begin : ℕ → ℕ) (s : Shape) (g : State) → IsConnected begin s → IsNearStart begin s g → (inside : ℕ → Bool) (u w : ℕ) → u < s.nodes → w < s.nodes → inside u ≡ true → inside w ≡ false → (a : ℕ) × (IsArc s a × (0 < g.residual a) × (inside (tail_of s a) ≡ true) × (inside (s.head a) ≡ false))
leads_out begin s g joined near inside u w l m p q =
    let k = joined inside u w l m p q in
    let a = k.0 in
    let h = (near a k.1.0).1 in
    (a, (k.1.0, omega (arith, h, k.1.1), k.1.2, k.1.3))
