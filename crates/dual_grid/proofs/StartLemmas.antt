-- How a grid starts.
use Rattle.std.proofs.Common.{◌≡◌, ℕ, zero, suc, ◌+◌, ◌-◌, ◌*◌, ◌/◌, ◌%◌, ◌<◌, ◌≤◌, ◌∙◌, sym, ap, arith, List, get_or, inl, inr}
use Rattle.std.specs.Prelude.{ℤ, pos, negsuc, neg_ℤ, ◌+ℤ◌, ◌-ℤ◌, ◌≤ℤ◌, ◌<ℤ◌, unsigned_abs}
use Rattle.std.proofs.lemmas.Int.{ints}
use Rattle.std.proofs.lemmas.Nat.{div_below, mod_below}
use Rattle.raster_model.specs.declared.tiling.Window.{Window}
use Rattle.raster_model.specs.Sums.{Field}
use Rattle.raster_model.specs.Raster.{residue, Raster}
use Rattle.raster_model.proofs.Exact.{residue_is_small}
use Rattle.flow_network.specs.Nets.{Shape, State, positive_part, total_excess}
use Rattle.flow_network.specs.Growing.{supply_sum, supply_sizes}
use Rattle.wrapped_gradient.specs.Gradients.{AreGradientsOf, residue_at}
use Rattle.wrapped_gradient.specs.GradientsView.{GradientsView}
use Rattle.wrapped_gradient.specs.Windows.{IsCellOf}
use Rattle.wrapped_gradient.proofs.GradientLemmas.{residues_are}
use Rattle.dual_grid.specs.Nodes.{cells_of}
use Rattle.dual_grid.specs.Starts.{cell_value, supply_at, IsAtStart}
use Rattle.dual_grid.specs.Building.{AreCellSupplies}
use Rattle.dual_grid.proofs.EdgeLemmas.{has_columns}
use Rattle.dual_grid.proofs.SupplyLemmas.{supply_inside, supply_outside, sum_within}
use Rattle.sums_and_lists.specs.Sums.{sum_below}
use Rattle.sums_and_lists.proofs.Orders.{below_or_last}
use Rattle.sums_and_lists.proofs.SumLemmas.{sum_below-more, sum_below-same}

-- a number below the count of cells is that of a cell
pub cell_of_number : (v : Window) (u : ℕ) → u < cells_of v → IsCellOf v (v.x0 + u % (v.x1 - v.x0)) (v.y0 + u / (v.x1 - v.x0))
cell_of_number v u l =
    let p = has_columns u (v.x1 - v.x0) (v.y1 - v.y0) l in
    let column = mod_below u (v.x1 - v.x0) p in
    let row = div_below u (v.x1 - v.x0) (v.y1 - v.y0) p l in
    (omega arith, omega (arith, column), omega arith, omega (arith, row))

-- residues that are the same at each cell
module _ (f g : Field ℤ) (v : Window) (same : (x y : ℕ) → IsCellOf v x y → f x y ≡ g x y) where
  cells_same : (u : ℕ) → u < cells_of v → cell_value f v u ≡ cell_value g v u
  cells_same u l = same (v.x0 + u % (v.x1 - v.x0)) (v.y0 + u / (v.x1 - v.x0)) (cell_of_number v u l)

  supply_same : (u : ℕ) → u < cells_of v + 1 → supply_at f v u ≡ supply_at g v u
  supply_same u l =
      elim (below_or_last u (cells_of v) l) [
        | inl m ↦ supply_inside f v u m ∙ cells_same u m ∙ sym (supply_inside g v u m)
        | inr m ↦ rw m (supply_outside f v ∙ ap neg_ℤ (sum_below-same (cells_of v) (cell_value f v) (cell_value g v) cells_same) ∙ sym (supply_outside g v))
      ]

  pub supplies_same : (zs : List ℤ) → AreCellSupplies f v zs → AreCellSupplies g v zs
  supplies_same zs h = record { count = h.count; values = λ u l. h.values u l ∙ supply_same u l }

-- numbers from -1 to 1 and their positive parts
part_small : (z : ℤ) → unsigned_abs z ≤ 1 → (positive_part z ≤ℤ pos 1) × ((positive_part z -ℤ z) ≤ℤ pos 1)
part_small (pos n) l = (omega (arith, ints, l), omega (arith, ints, l))
part_small (negsuc n) l = (omega (arith, ints, l), omega (arith, ints, l))

parts_within : (n : ℕ) (f : ℕ → ℤ) → ((k : ℕ) → k < n → unsigned_abs (f k) ≤ 1) → (sum_below n (λ k. positive_part (f k)) ≤ℤ pos n) × ((sum_below n (λ k. positive_part (f k)) -ℤ sum_below n f) ≤ℤ pos n)
unfolding sum_below
parts_within zero f h = (omega (arith, ints), omega (arith, ints))
parts_within (suc n) f h =
    let e = parts_within n f (λ k l. h k (omega arith)) in
    let p = part_small (f n) (h n (omega arith)) in
    (omega (arith, ints, e.0, p.0), omega (arith, ints, e.1, p.1))

part_either : (z a : ℤ) (n : ℕ) → a ≤ℤ pos n → (a +ℤ z) ≤ℤ pos n → (a +ℤ positive_part z) ≤ℤ pos n
part_either (pos k) a n p q = q
part_either (negsuc k) a n p q = omega (arith, ints, p)

sizes_within : (n : ℕ) (f : ℕ → ℤ) → ((k : ℕ) → k < n → unsigned_abs (f k) ≤ 1) → sum_below n (λ k. pos (unsigned_abs (f k))) ≤ℤ pos n
unfolding sum_below
sizes_within zero f h = omega (arith, ints)
sizes_within (suc n) f h = omega (arith, ints, sizes_within n f (λ k l. h k (omega arith)), h n (omega arith))

-- ---- what the nodes have in sum
module _ (f : Field ℤ) (v : Window) (small : (x y : ℕ) → unsigned_abs (f x y) ≤ 1) where
  value_small : (u : ℕ) → u < cells_of v → unsigned_abs (cell_value f v u) ≤ 1
  value_small u l = small (v.x0 + u % (v.x1 - v.x0)) (v.y0 + u / (v.x1 - v.x0))

  all_even : sum_below (cells_of v + 1) (supply_at f v) ≡ pos 0
  all_even =
      let rest = sum_below-same (cells_of v) (supply_at f v) (cell_value f v) (supply_inside f v) in
      omega (arith, ints, sum_below-more (cells_of v) (supply_at f v), rest, supply_outside f v)

  all_sizes : sum_below (cells_of v + 1) (λ u. pos (unsigned_abs (supply_at f v u))) ≤ℤ pos (2 * cells_of v)
  all_sizes =
      let size = λ (u : ℕ). pos (unsigned_abs (supply_at f v u)) in
      let rest = sum_below-same (cells_of v) size (λ u. pos (unsigned_abs (cell_value f v u))) (λ u l. ap (λ (z : ℤ). pos (unsigned_abs z)) (supply_inside f v u l)) in
      let most = sizes_within (cells_of v) (cell_value f v) value_small in
      let last = sum_within (cells_of v) (cell_value f v) value_small in
      omega (arith, ints, sum_below-more (cells_of v) size, rest, most, last, supply_outside f v)

  all_parts : sum_below (cells_of v + 1) (λ u. positive_part (supply_at f v u)) ≤ℤ pos (cells_of v)
  all_parts =
      let part = λ (u : ℕ). positive_part (supply_at f v u) in
      let rest = sum_below-same (cells_of v) part (λ u. positive_part (cell_value f v u)) (λ u l. ap positive_part (supply_inside f v u l)) in
      let most = parts_within (cells_of v) (cell_value f v) value_small in
      let both = part_either (supply_at f v (cells_of v)) (sum_below (cells_of v) (λ u. positive_part (cell_value f v u))) (cells_of v) most.0 (omega (arith, ints, most.1, supply_outside f v)) in
      omega (arith, ints, sum_below-more (cells_of v) part, rest, both)

  module _ (zs : List ℤ) (are : AreCellSupplies f v zs) where
    pub supplies_even : supply_sum zs ≡ pos 0
    supplies_even =
        ap (λ (n : ℕ). sum_below n (λ u. get_or zs u (pos 0))) are.count ∙ sum_below-same (cells_of v + 1) (λ u. get_or zs u (pos 0)) (supply_at f v) are.values ∙ all_even

    pub supplies_sizes : supply_sizes zs ≤ℤ pos (2 * cells_of v)
    supplies_sizes =
        let size = λ (u : ℕ). pos (unsigned_abs (get_or zs u (pos 0))) in
        let e : supply_sizes zs ≡ sum_below (cells_of v + 1) (λ u. pos (unsigned_abs (supply_at f v u))) = ap (λ (n : ℕ). sum_below n size) are.count ∙ sum_below-same (cells_of v + 1) size (λ u. pos (unsigned_abs (supply_at f v u))) (λ u l. ap (λ (z : ℤ). pos (unsigned_abs z)) (are.values u l)) in
        rw e all_sizes

  -- at the start the positive excesses are at most the cells
  pub few_positive : (begin : ℕ → ℕ) (s : Shape) (g : State) → s.nodes ≡ cells_of v + 1 → IsAtStart begin f v s g → total_excess s g ≤ℤ pos (cells_of v)
  few_positive begin s g nodes start =
      let part = λ (u : ℕ). positive_part (g.excess u) in
      let e : total_excess s g ≡ sum_below (cells_of v + 1) (λ u. positive_part (supply_at f v u)) = ap (λ (n : ℕ). sum_below n part) nodes ∙ sum_below-same (cells_of v + 1) part (λ u. positive_part (supply_at f v u)) (λ u l. ap positive_part (start.excess u (omega (arith, nodes, l)))) in
      rw e all_parts

-- the residues that gradients tell are the raster's
pub raster_supplies : (r : Raster) (g : GradientsView) (zs : List ℤ) → AreGradientsOf r g → AreCellSupplies (residue_at g) g.window zs → AreCellSupplies (residue r) g.window zs
raster_supplies r g zs h are = supplies_same (residue_at g) (residue r) g.window (residues_are r g h) zs are

pub raster_even : (r : Raster) (g : GradientsView) (zs : List ℤ) → AreGradientsOf r g → AreCellSupplies (residue_at g) g.window zs → supply_sum zs ≡ pos 0
raster_even r g zs h are = supplies_even (residue r) g.window (λ x y. (residue_is_small r x y).1) zs (raster_supplies r g zs h are)

pub raster_sizes : (r : Raster) (g : GradientsView) (zs : List ℤ) → AreGradientsOf r g → AreCellSupplies (residue_at g) g.window zs → supply_sizes zs ≤ℤ pos (2 * cells_of g.window)
raster_sizes r g zs h are = supplies_sizes (residue r) g.window (λ x y. (residue_is_small r x y).1) zs (raster_supplies r g zs h are)

-- at the start fewer units of a raster's residues are to flow than there are nodes
pub few_of_raster : (begin : ℕ → ℕ) (r : Raster) (v : Window) (z : Shape) (g : State) → z.nodes ≡ cells_of v + 1 → IsAtStart begin (residue r) v z g → total_excess z g <ℤ pos z.nodes
few_of_raster begin r v z g nodes start =
    let few = few_positive (residue r) v (λ x y. (residue_is_small r x y).1) begin z g nodes start in
    omega (arith, ints, few, nodes)
