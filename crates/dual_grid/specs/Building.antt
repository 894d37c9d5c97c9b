-- What a grid is made from, how an arc is found, and the lists that a grid answers. These are words of helpers. Of them the clauses of a grid that was reached cite AreTurnedFaces, and by MayGoOn also IsHeldBy and leaves.
use Rattle.std.specs.Prelude.{◌≡◌, ℕ, ◌+◌, ◌*◌, ◌<◌, ◌≤◌, ◌⊎◌, ℤ, pos, neg_ℤ, ◌-ℤ◌, ◌≤ℤ◌, ◌==◌, unsigned_abs, Bool, false, IsTrue, ◌&&◌, if◌then◌else◌, List, length, get_or, slice_index_or, Option, Some, None}
use Rattle.raster_model.specs.declared.tiling.Window.{Window}
use Rattle.raster_model.specs.Raster.{Raster}
use Rattle.raster_model.specs.Sums.{Field}
use Rattle.raster_model.specs.Tiles.{IsRasterWindow, IsWindowIn, width_of, height_of}
use Rattle.wrapped_gradient.specs.declared.corrections.Corrections.{Corrections}
use Rattle.flow_network.specs.Nets.{Shape, IsGreatest, NoneBetween, positive_part}
use Rattle.dual_grid.specs.Nodes.{cells_of, rights_of, downs_of, edge_of, first_side, other_side}
use Rattle.dual_grid.specs.Starts.{supply_at}
use Rattle.dual_grid.specs.Grids.{amount_of, is_taken, leads_forth}
use Rattle.sums_and_lists.specs.Sums.{sum_below, where_true}

-- the window lies in the raster and in the limits, and the list tells of each of its pixels whether it is open
pub record IsMadeFor (raster : Raster) (window : Window) (unmasked : List Bool) : Type 0 where
  pub inside : IsWindowIn raster.width raster.height window
  pub limited : IsRasterWindow window
  pub count : length unmasked ≡ width_of window * height_of window

-- the sum of the first n numbers of a list
abbrev pub sum_of_first : List ℤ → ℕ → ℤ
sum_of_first zs n = sum_below n (λ k. get_or zs k (pos 0))

-- the list has what each node has at the start
pub record AreCellSupplies (f : Field ℤ) (window : Window) (zs : List ℤ) : Type 0 where
  pub count : length zs ≡ cells_of window + 1
  pub values : (u : ℕ) → u < cells_of window + 1 → get_or zs u (pos 0) ≡ supply_at f window u

-- node u lies on a side of the edge with the number n
abbrev pub LiesAt : Window → ℕ → ℕ → Type 0
LiesAt window u n = (first_side window (edge_of window n) ≡ u) ⊎ (other_side window (edge_of window n) ≡ u)

-- node u lies on a side of no edge with a number from `low` to before `high`
abbrev pub LiesAtNone : Window → ℕ → ℕ → ℕ → Type 0
LiesAtNone window u low high = (m : ℕ) → low ≤ m → m < high → LiesAt window u m → ⊥

-- o is the greatest number below `high` of an edge that node u lies at, or None if there is none
pub record IsEdgeBelow (window : Window) (u high : ℕ) (o : Option ℕ) : Type 0 where
  pub found : (n : ℕ) → o ≡ Some n → (n < high) × LiesAt window u n × LiesAtNone window u (n + 1) high
  pub ended : o ≡ None → LiesAtNone window u 0 high

-- across an edge of the weight w, an arc in the place k starts at a node, which may lie on the first side, on the other, on both or on neither
abbrev pub starts_at : ℕ → ℕ → Bool → Bool → ℕ → Bool
starts_at steep w at_first at_other k = is_taken steep w k && (if leads_forth k then at_first else at_other)

-- o is the greatest place below `high` of an arc that starts at such a node, or None if there is none
pub record IsPlaceBelow (steep w : ℕ) (at_first at_other : Bool) (high : ℕ) (o : Option ℕ) : Type 0 where
  pub found : (k : ℕ) → o ≡ Some k → (k < high) × IsTrue (starts_at steep w at_first at_other k) × ((j : ℕ) → k < j → j < high → starts_at steep w at_first at_other j ≡ false)
  pub ended : o ≡ None → (j : ℕ) → j < high → starts_at steep w at_first at_other j ≡ false

-- o is the greatest arc that starts at u, of those across the edge with the number n in places below `high`, or None if there is none
pub record IsOutAcross (shape : Shape) (u n high : ℕ) (o : Option ℕ) : Type 0 where
  pub found : (a : ℕ) → o ≡ Some a → (n * 8 ≤ a) × IsGreatest shape u (n * 8 + high) a
  pub ended : o ≡ None → NoneBetween shape u (n * 8) (n * 8 + high)

-- the corrections are the flows across the edges, in the order of the edges' numbers
pub record AreEdgeFlows (window : Window) (flow : ℕ → ℤ) (corrections : Corrections) : Type 0 where
  pub right_count : length corrections.right.items ≡ rights_of window
  pub right : (i : ℕ) → i < rights_of window → slice_index_or corrections.right.items i (pos 0) ≡ flow i
  pub down_count : length corrections.down.items ≡ downs_of window
  pub down : (i : ℕ) → i < downs_of window → slice_index_or corrections.down.items i (pos 0) ≡ flow (rights_of window + i)

-- for each of the first n cells the list has the potential of the outside minus that of the cell
pub record AreFaces (potential : ℕ → ℤ) (outside n : ℕ) (zs : List ℤ) : Type 0 where
  pub count : length zs ≡ n
  pub values : (u : ℕ) → u < n → slice_index_or zs u (pos 0) ≡ potential outside -ℤ potential u

-- the list has minus the face of each cell, and then 0 for the outside
pub record AreTurnedFaces (faces potentials : List ℤ) : Type 0 where
  pub count : length potentials ≡ length faces + 1
  pub values : (u : ℕ) → get_or potentials u (pos 0) ≡ neg_ℤ (get_or faces u (pos 0))

-- What holds a difference of faces across an edge of the weight w, where a units flow forth and b back: nothing flows above
-- the weight, what flows does not flow below it, and more than one unit not below the steepness times the weight.
pub record IsHeld (steep w a b : ℕ) (d : ℤ) : Type 0 where
  pub within : unsigned_abs d ≤ steep * w
  pub none : a ≡ 0 → b ≡ 0 → unsigned_abs d ≤ w
  pub forth : 0 < a → pos w ≤ℤ d
  pub forth_more : 1 < a → pos (steep * w) ≤ℤ d
  pub back : 0 < b → pos w ≤ℤ neg_ℤ d
  pub back_more : 1 < b → pos (steep * w) ≤ℤ neg_ℤ d

-- this holds for a flow of q from the first side to the other
abbrev pub IsHeldBy : ℕ → ℕ → ℤ → ℤ → Type 0
IsHeldBy steep w d q = IsHeld steep w (amount_of q) (amount_of (neg_ℤ q)) d

-- this holds for the flow across the edge with the number n, between nodes of these potentials
abbrev pub IsHeldAt : Window → ℕ → (ℕ → ℕ) → (ℕ → ℤ) → (ℕ → ℤ) → ℕ → Type 0
IsHeldAt window steep weight flow potential n = IsHeldBy steep (weight n) (potential (other_side window (edge_of window n)) -ℤ potential (first_side window (edge_of window n))) (flow n)

-- what of the flow across the edge with the number n leaves node u
abbrev pub leaves : Window → (ℕ → ℤ) → ℕ → ℕ → ℤ
leaves window flow u n = where_true (u == first_side window (edge_of window n)) (flow n) -ℤ where_true (u == other_side window (edge_of window n)) (flow n)

-- the positive numbers among the first n of a list, in sum
abbrev pub positive_sum : List ℤ → ℕ → ℤ
positive_sum zs n = sum_below n (λ u. positive_part (get_or zs u (pos 0)))
