-- When flows and potentials go together, as code finds it, and that corrections and faces then do.
use Rattle.std.proofs.Common.{◌≡◌, ℕ, ◌+◌, ◌-◌, ◌*◌, ◌<◌, ◌≤◌, ◌∙◌, sym, ap, ap₂, refl, subst, arith, Bool, true, false, List, [], ◌∷◌, ◌++◌, length, length-append, get_or}
use Rattle.std.specs.Prelude.{ℤ, pos, negsuc, neg_ℤ, ◌+ℤ◌, ◌-ℤ◌, ◌≤ℤ◌, ◌==◌, max}
use Rattle.std.proofs.lemmas.Int.{ints}
use Rattle.std.proofs.lemmas.List.{get_or_append_left, get_or-append-add}
use Rattle.raster_model.specs.declared.edge.Edge.{Edge}
use Rattle.raster_model.specs.declared.tiling.Window.{Window}
use Rattle.raster_model.specs.Raster.{residue, Raster}
use Rattle.raster_model.specs.Tiles.{width_of, IsRasterWindow}
use Rattle.flow_network.specs.Nets.{positive_part}
use Rattle.flow_network.proofs.CallerLemmas.{sum-not_below}
use Rattle.wrapped_gradient.specs.declared.corrections.Corrections.{Corrections}
use Rattle.wrapped_gradient.specs.Corrections.{correction_at, greatest, greatest_of}
use Rattle.wrapped_gradient.specs.Windows.{IsEdgeOf, edge_value}
use Rattle.wrapped_gradient.proofs.CorrectionLemmas.{greatest_least, within_greatest}
use Rattle.dual_grid.specs.declared.grid.DualGrid.{DualGrid}
use Rattle.dual_grid.specs.Building.{AreTurnedFaces, IsHeldAt, IsHeldBy, leaves, positive_sum}
use Rattle.dual_grid.specs.Grids.{AreWeighed, amount_of}
use Rattle.dual_grid.specs.Layout.{AreLow, number_or_zero, weight_in}
use Rattle.dual_grid.specs.Nodes.{cells_of, edge_number, edge_of, edges_of, first_side, other_side, rights_of}
use Rattle.dual_grid.specs.Problems.{AreSmallNumbers, face_of}
use Rattle.dual_grid.specs.Reaching.{FlowsMayGoOn, MayGoOn, correction_flow, left_after, to_send}
use Rattle.dual_grid.specs.Starts.{IsAtStart, open_in_window, supply_at}
use Rattle.dual_grid.specs.Views.{IsGridOf, grid_shape, grid_start, grid_state}
use Rattle.dual_grid.proofs.EdgeLemmas.{number_below, right_number_below}
use Rattle.dual_grid.proofs.NumberLemmas.{edge_in, edge_of_number, number_of_edge}
use Rattle.dual_grid.proofs.SumLemmas.{sum_below-parts}
use Rattle.sums_and_lists.specs.Sums.{sum_below, where_true}
use Rattle.sums_and_lists.proofs.SumLemmas.{sum_below-more, sum_below-same}

-- ---- the greatest number of a list
pub greatest_is : (zs : List ℤ) (m : ℕ) → AreSmallNumbers m zs → ((b : ℕ) → AreSmallNumbers b zs → m ≤ b) → m ≡ greatest zs
greatest_is zs m small least =
    let above = greatest_least zs m small in
    let below = least (greatest zs) (within_greatest zs) in
    omega (arith, above, below)

greatest_joined : (xs ys : List ℤ) → greatest (xs ++ ys) ≡ max (greatest xs) (greatest ys)
unfolding greatest
greatest_joined [] ys = omega arith
greatest_joined (z ∷ zs) ys = let h = greatest_joined zs ys in omega (arith, h)

-- ---- the positive numbers of a list, in sum
part_not_below : (z : ℤ) → pos 0 ≤ℤ positive_part z
part_not_below (pos n) = omega (arith, ints)
part_not_below (negsuc n) = omega (arith, ints)

-- where one number is more than what is left of a limit, all are more than the limit
pub positive_beyond : (zs : List ℤ) (n limit left part : ℕ) → part ≡ amount_of (get_or zs n (pos 0)) → left < part → pos left +ℤ positive_sum zs n ≡ pos limit → n < length zs → positive_sum zs (length zs) ≤ℤ pos limit → ⊥
positive_beyond zs n limit left part e l h b few =
    let parts = λ (u : ℕ). positive_part (get_or zs u (pos 0)) in
    let more = sum_below-more n parts in
    let same = amount_part (get_or zs n (pos 0)) in
    let whole : n + 1 + (length zs - (n + 1)) ≡ length zs = omega (arith, b) in
    let all = ap (λ (m : ℕ). sum_below m parts) (sym whole) ∙ sum_below-parts (n + 1) (length zs - (n + 1)) parts in
    let rest = sum-not_below (length zs - (n + 1)) (λ i. parts (n + 1 + i)) (λ i j. part_not_below (get_or zs (n + 1 + i) (pos 0))) in
    above _ _ _ _ _ e l h few more same all rest
  where
    amount_part : (z : ℤ) → pos (amount_of z) ≡ positive_part z
    amount_part (pos n) = refl
    amount_part (negsuc n) = refl

    above : (before here upto beyond whole : ℤ) → part ≡ amount_of (get_or zs n (pos 0)) → left < part → pos left +ℤ before ≡ pos limit → whole ≤ℤ pos limit → upto ≡ before +ℤ here → pos (amount_of (get_or zs n (pos 0))) ≡ here → whole ≡ upto +ℤ beyond → pos 0 ≤ℤ beyond → ⊥
    above before here upto beyond whole e l h few more same all rest = omega (arith, ints, e, l, h, few, more, same, all, rest)

-- ---- what code finds of flows and potentials
module _ (v : Window) (steep : ℕ) (weight : ℕ → ℕ) (excess : ℕ → ℤ) (flows : List ℤ) (potential : ℕ → ℤ) (most : ℕ) (small : AreSmallNumbers most flows) (least : (b : ℕ) → AreSmallNumbers b flows → most ≤ b) where
  sent_not_below : pos 0 ≤ℤ to_send v (left_after v (number_or_zero flows) excess)
  sent_not_below = sum-not_below (cells_of v + 1) (λ u. positive_part (left_after v (number_or_zero flows) excess u)) (λ u l. part_not_below (left_after v (number_or_zero flows) excess u))

  split : (m g c : ℕ) (z : ℤ) → m ≡ g → pos 0 ≤ℤ z → (pos g +ℤ z) ≤ℤ pos c → (m ≤ c) × (z ≤ℤ pos (c - m))
  split m g c z e l h = (omega (arith, ints, e, l, h), omega (arith, ints, e, l, h))

  joined : (m g c : ℕ) (z : ℤ) → m ≡ g → m ≤ c → z ≤ℤ pos (c - m) → (pos g +ℤ z) ≤ℤ pos c
  joined m g c z e l h = omega (arith, ints, e, l, h)

  pub few_flow : FlowsMayGoOn v steep weight excess flows potential → most ≤ cells_of v
  few_flow t = (split most (greatest flows) (cells_of v) (to_send v (left_after v (number_or_zero flows) excess)) (greatest_is flows most small least) sent_not_below t.within).0

  module _ (after : List ℤ) (count : length after ≡ cells_of v + 1) (moved : (u : ℕ) → number_or_zero after u ≡ excess u -ℤ sum_below (edges_of v) (leaves v (number_or_zero flows) u)) where
    sent_is : positive_sum after (length after) ≡ to_send v (left_after v (number_or_zero flows) excess)
    sent_is = ap (λ (n : ℕ). positive_sum after n) count ∙ sum_below-same (cells_of v + 1) (λ u. positive_part (number_or_zero after u)) (λ u. positive_part (left_after v (number_or_zero flows) excess u)) (λ u l. ap positive_part (moved u))

    pub few_sent : FlowsMayGoOn v steep weight excess flows potential → positive_sum after (length after) ≤ℤ pos (cells_of v - most)
    few_sent t = subst (λ (z : ℤ). z ≤ℤ pos (cells_of v - most)) (sym sent_is) ((split most (greatest flows) (cells_of v) (to_send v (left_after v (number_or_zero flows) excess)) (greatest_is flows most small least) sent_not_below t.within).1)

    pub go_together : length flows ≡ edges_of v → most ≤ cells_of v → ((n : ℕ) → n < edges_of v → IsHeldAt v steep weight (number_or_zero flows) potential n) → positive_sum after (length after) ≤ℤ pos (cells_of v - most) → FlowsMayGoOn v steep weight excess flows potential
    go_together edges few held total = record {
      count = edges;
      held = held;
      within = joined most (greatest flows) (cells_of v) (to_send v (left_after v (number_or_zero flows) excess)) (greatest_is flows most small least) few (subst (λ (z : ℤ). z ≤ℤ pos (cells_of v - most)) sent_is total);
    }

-- ---- what a grid holds in lists, and the corrections and faces
held_same : (s t n m : ℕ) (d e q r : ℤ) → s ≡ t → n ≡ m → d ≡ e → q ≡ r → IsHeldBy s n d q → IsHeldBy t m e r
held_same s t n m d e q r i j k l h = rw (i, j, k, l) at h

sum_within : (a b c : ℕ) (x y : ℤ) → a ≡ b → x ≡ y → (pos a +ℤ x) ≤ℤ pos c → (pos b +ℤ y) ≤ℤ pos c
sum_within a b c x y e f h = omega (arith, ints, e, f, h)

module _ (r : Raster) (v : Window) (limited : IsRasterWindow v) (unmasked : List Bool) (steep : ℕ) (is : steep ≡ r.steep) (weight : ℕ → ℕ) (weighed : AreWeighed r (open_in_window v unmasked) v weight) (excess : ℕ → ℤ) (supplied : (u : ℕ) → u < cells_of v + 1 → excess u ≡ supply_at (residue r) v u) (k : Corrections) (rights : length k.right.items ≡ rights_of v) (faces potentials : List ℤ) (turned : (u : ℕ) → number_or_zero potentials u ≡ neg_ℤ (number_or_zero faces u)) where
  flow_at : (e : Edge) → IsEdgeOf v e → number_or_zero (k.right.items ++ k.down.items) (edge_number v e) ≡ correction_at v k e
  flow_at e i = go e.x e.y e.down i
    where
      go : (x y : ℕ) (d : Bool) → IsEdgeOf v (record { x = x; y = y; down = d }) → number_or_zero (k.right.items ++ k.down.items) (edge_number v (record { x = x; y = y; down = d })) ≡ edge_value v k.right.items k.down.items (record { x = x; y = y; down = d })
      go x y false i = get_or_append_left k.right.items k.down.items (pos 0) ((y - v.y0) * (width_of v - 1) + (x - v.x0)) (let l = right_number_below v x y i in omega (arith, l, rights))
      go x y true i =
          ap (λ (n : ℕ). number_or_zero (k.right.items ++ k.down.items) (n + ((y - v.y0) * width_of v + (x - v.x0)))) (sym rights)
          ∙ get_or-append-add k.right.items k.down.items ((y - v.y0) * width_of v + (x - v.x0)) (pos 0)

  flow_is : (n : ℕ) → n < edges_of v → number_or_zero (k.right.items ++ k.down.items) n ≡ correction_flow v k n
  flow_is n l = ap (λ (m : ℕ). number_or_zero (k.right.items ++ k.down.items) m) (sym (number_of_edge v limited n l)) ∙ flow_at (edge_of v n) (edge_in v limited n l)

  left_same : (u : ℕ) → u < cells_of v + 1 → left_after v (number_or_zero (k.right.items ++ k.down.items)) excess u ≡ left_after v (correction_flow v k) (supply_at (residue r) v) u
  left_same u l =
      ap₂ (λ (a b : ℤ). a -ℤ b) (supplied u l)
      (sum_below-same (edges_of v) (leaves v (number_or_zero (k.right.items ++ k.down.items)) u) (leaves v (correction_flow v k) u) (λ n m. ap (λ (z : ℤ). where_true (u == first_side v (edge_of v n)) z -ℤ where_true (u == other_side v (edge_of v n)) z) (flow_is n m)))

  sent_same : to_send v (left_after v (number_or_zero (k.right.items ++ k.down.items)) excess) ≡ to_send v (left_after v (correction_flow v k) (supply_at (residue r) v))
  sent_same = sum_below-same (cells_of v + 1) (λ u. positive_part (left_after v (number_or_zero (k.right.items ++ k.down.items)) excess u)) (λ u. positive_part (left_after v (correction_flow v k) (supply_at (residue r) v) u)) (λ u l. ap positive_part (left_same u l))

  difference : (e : Edge) → number_or_zero potentials (other_side v e) -ℤ number_or_zero potentials (first_side v e) ≡ face_of faces (first_side v e) -ℤ face_of faces (other_side v e)
  difference e = turned_difference _ _ _ _ (turned (other_side v e)) (turned (first_side v e))
    where
      turned_difference : (p q a b : ℤ) → p ≡ neg_ℤ a → q ≡ neg_ℤ b → p -ℤ q ≡ b -ℤ a
      turned_difference p q a b e f = omega (arith, ints, e, f)

  lists_go_on : length faces ≡ cells_of v → AreLow faces → FlowsMayGoOn v steep weight excess (k.right.items ++ k.down.items) (number_or_zero potentials) → MayGoOn r v unmasked k faces
  lists_go_on count low t = record {
    shape = (rights, omega (arith, rights, t.count, length-append k.right.items k.down.items));
    count = count;
    low = low;
    held = λ e i. held_same _ _ _ _ _ _ _ _ is (weighed e i) (ap (λ (f : Edge). number_or_zero potentials (other_side v f) -ℤ number_or_zero potentials (first_side v f)) (edge_of_number v e i) ∙ difference e) (flow_at e i) (t.held (edge_number v e) (number_below v e i));
    within = sum_within (greatest (k.right.items ++ k.down.items)) (greatest_of k) (cells_of v) _ _ (greatest_joined k.right.items k.down.items) sent_same t.within;
  }

  lists_together : MayGoOn r v unmasked k faces → FlowsMayGoOn v steep weight excess (k.right.items ++ k.down.items) (number_or_zero potentials)
  lists_together m = record {
    count = omega (arith, m.shape, length-append k.right.items k.down.items);
    held = λ n l. (
        let i = edge_in v limited n l in
        held_same _ _ _ _ _ _ _ _ (sym is) (sym (weighed (edge_of v n) i) ∙ ap weight (number_of_edge v limited n l)) (sym (difference (edge_of v n))) (sym (flow_is n l)) (m.held (edge_of v n) i));
    within = sum_within (greatest_of k) (greatest (k.right.items ++ k.down.items)) (cells_of v) _ _ (sym (greatest_joined k.right.items k.down.items)) (sym sent_same) m.within;
  }

-- ---- the same of a grid at the start
abbrev pub GridGoesOn : DualGrid → List ℤ → List ℤ → Type 0
GridGoesOn g flows potentials = FlowsMayGoOn g.window g.steep (weight_in g.weights.items) (number_or_zero g.excesses.items) flows (number_or_zero potentials)

module _ (r : Raster) (v : Window) (unmasked : List Bool) (g : DualGrid) (grid : IsGridOf r v unmasked g) (start : IsAtStart (grid_start g) (residue r) v (grid_shape g) (grid_state g)) (k : Corrections) (faces : List ℤ) where
  supplied_here : (u : ℕ) → u < cells_of g.window + 1 → number_or_zero g.excesses.items u ≡ supply_at (residue r) g.window u
  supplied_here u l = start.excess u l ∙ ap (λ (w : Window). supply_at (residue r) w u) (sym grid.window)

  here : MayGoOn r v unmasked k faces → MayGoOn r g.window unmasked k faces
  here m = subst (λ (w : Window). MayGoOn r w unmasked k faces) (sym grid.window) m

  pub rights_told : MayGoOn r v unmasked k faces → length k.right.items ≡ rights_of g.window
  rights_told m = (here m).shape.0

  pub faces_told : MayGoOn r v unmasked k faces → length faces + 1 ≡ length g.potentials.items
  faces_told m = let c = (here m).count in omega (arith, c, g.fit.by_height)

  module _ (rights : length k.right.items ≡ rights_of g.window) (potentials : List ℤ) (turned : AreTurnedFaces faces potentials) where
    pub grid_goes_on : length faces + 1 ≡ length g.potentials.items → AreLow faces → GridGoesOn g (k.right.items ++ k.down.items) potentials → MayGoOn r v unmasked k faces
    grid_goes_on count low t =
        subst (λ (w : Window). MayGoOn r w unmasked k faces) grid.window
        (lists_go_on r g.window g.limited unmasked g.steep grid.steep (weight_in g.weights.items) grid.weighed (number_or_zero g.excesses.items) supplied_here k rights faces potentials turned.values (omega (arith, count, g.fit.by_height)) low t)

    pub grid_together : MayGoOn r v unmasked k faces → GridGoesOn g (k.right.items ++ k.down.items) potentials
    grid_together m = lists_together r g.window g.limited unmasked g.steep grid.steep (weight_in g.weights.items) grid.weighed (number_or_zero g.excesses.items) supplied_here k rights faces potentials turned.values (here m)
