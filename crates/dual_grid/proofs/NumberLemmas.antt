-- The edges of numbers, and the nodes on their sides.
use Rattle.std.proofs.Common.{◌≡◌, ℕ, zero, suc, ◌+◌, ◌-◌, ◌*◌, ◌/◌, ◌%◌, ◌<◌, ◌≤◌, ◌∙◌, sym, subst, ap, ap₂, refl, arith, inl, inr, true, false, Bool}
use Rattle.std.specs.Prelude.{nat_lt}
use Rattle.std.proofs.lemmas.Bool.{cases_lt}
use Rattle.std.proofs.lemmas.Nat.{div-add-mod', div-mul-add, mod-mul-add, div_below, mod_below}
use Rattle.raster_model.specs.declared.edge.Edge.{Edge}
use Rattle.raster_model.specs.declared.tiling.Window.{Window}
use Rattle.raster_model.specs.Sums.{right_edge, down_edge}
use Rattle.raster_model.specs.Tiles.{width_of, height_of, IsRasterWindow}
use Rattle.wrapped_gradient.specs.Windows.{IsEdgeOf}
use Rattle.wrapped_gradient.proofs.GradientLemmas.{down_edge_of, right_edge_of}
use Rattle.wrapped_gradient.proofs.Places.{place_within}
use Rattle.dual_grid.specs.Nodes.{cells_of, rights_of, downs_of, edges_of, edge_number, edge_of, first_side, other_side}
use Rattle.dual_grid.proofs.EdgeLemmas.{has_columns, right_number_below}
use Rattle.dual_grid.proofs.NodeLemmas.{node_inside, node_outside, above_inside, above_outside, left_inside, left_outside, first_right, first_down, other_right, other_down}
use Rattle.sums_and_lists.proofs.Orders.{lt_is, not_lt_is}

pub one_less : (v : Window) → width_of v - 1 ≡ v.x1 - v.x0
one_less v = omega arith

pub rights_are : (v : Window) → rights_of v ≡ cells_of v + (v.x1 - v.x0)
rights_are v = ap (λ (n : ℕ). n * height_of v) (one_less v) ∙ omega arith

pub downs_are : (v : Window) → downs_of v ≡ (v.y1 - v.y0) * width_of v
downs_are v = let e : height_of v - 1 ≡ v.y1 - v.y0 = omega arith in ap (λ (n : ℕ). width_of v * n) e ∙ omega arith

pub edge_of_right : (v : Window) (n : ℕ) → n < rights_of v → edge_of v n ≡ right_edge (v.x0 + n % (v.x1 - v.x0)) (v.y0 + n / (v.x1 - v.x0))
unfolding edge_of
edge_of_right v n l =
    let t : nat_lt n (rights_of v) ≡ true = lt_is n (rights_of v) l in
    rw t (ap (λ (s : ℕ). right_edge (v.x0 + n % s) (v.y0 + n / s)) (one_less v))

pub edge_of_down : (v : Window) (m : ℕ) → edge_of v (rights_of v + m) ≡ down_edge (v.x0 + m % width_of v) (v.y0 + m / width_of v)
unfolding edge_of
edge_of_down v m =
    let t : nat_lt (rights_of v + m) (rights_of v) ≡ false = not_lt_is (rights_of v + m) (rights_of v) (omega arith) in
    let e : rights_of v + m - rights_of v ≡ m = omega arith in
    rw t (ap (λ (k : ℕ). down_edge (v.x0 + k % width_of v) (v.y0 + k / width_of v)) e)

-- an edge is the one of its number
pub edge_of_number : (v : Window) (e : Edge) → IsEdgeOf v e → edge_of v (edge_number v e) ≡ e
edge_of_number v e i = go e.x e.y e.down i
  where
    go : (x y : ℕ) (d : Bool) → IsEdgeOf v (record { x = x; y = y; down = d }) → edge_of v (edge_number v (record { x = x; y = y; down = d })) ≡ record { x = x; y = y; down = d }
    go x y true i =
        let a = i.start in
        let column = mod-mul-add (y - v.y0) (width_of v) (x - v.x0) (omega (arith, a)) in
        let row = div-mul-add (y - v.y0) (width_of v) (x - v.x0) (omega (arith, a)) in
        edge_of_down v ((y - v.y0) * width_of v + (x - v.x0)) ∙ ap₂ (λ (m n : ℕ). down_edge m n) (omega (arith, column, a)) (omega (arith, row, a))
    go x y false i =
        let a = i.start in
        let b = i.end in
        let s = v.x1 - v.x0 in
        let e : (y - v.y0) * (width_of v - 1) + (x - v.x0) ≡ (y - v.y0) * s + (x - v.x0) = ap (λ (k : ℕ). (y - v.y0) * k + (x - v.x0)) (one_less v) in
        let column = mod-mul-add (y - v.y0) s (x - v.x0) (omega (arith, a, b)) in
        let row = div-mul-add (y - v.y0) s (x - v.x0) (omega (arith, a, b)) in
        let l : (y - v.y0) * s + (x - v.x0) < rights_of v = rw e at (right_number_below v x y i) in
        ap (λ (k : ℕ). edge_of v k) e ∙ edge_of_right v ((y - v.y0) * s + (x - v.x0)) l ∙ ap₂ (λ (m n : ℕ). right_edge m n) (omega (arith, column, a)) (omega (arith, row, a))

-- ---- the sides of a right edge
module _ (v : Window) (n : ℕ) (l : n < rights_of v) where
  wide : 0 < v.x1 - v.x0
  wide = has_columns n (v.x1 - v.x0) (v.y1 - v.y0 + 1) (omega (arith, l, rights_are v))

  split : n / (v.x1 - v.x0) * (v.x1 - v.x0) + n % (v.x1 - v.x0) ≡ n
  split = div-add-mod' n (v.x1 - v.x0)

  column : n % (v.x1 - v.x0) < v.x1 - v.x0
  column = mod_below n (v.x1 - v.x0) wide

  row : n / (v.x1 - v.x0) < v.y1 - v.y0 + 1
  row = div_below n (v.x1 - v.x0) (v.y1 - v.y0 + 1) wide (omega (arith, l, rights_are v))

  pub right_other_in : n < cells_of v → other_side v (edge_of v n) ≡ n
  right_other_in m =
      let below = div_below n (v.x1 - v.x0) (v.y1 - v.y0) wide m in
      let x : v.x0 + n % (v.x1 - v.x0) - v.x0 ≡ n % (v.x1 - v.x0) = omega arith in
      let y : v.y0 + n / (v.x1 - v.x0) - v.y0 ≡ n / (v.x1 - v.x0) = omega arith in
      ap (λ (e : Edge). other_side v e) (edge_of_right v n l) ∙ other_right v (right_edge (v.x0 + n % (v.x1 - v.x0)) (v.y0 + n / (v.x1 - v.x0))) refl
      ∙ node_inside v (v.x0 + n % (v.x1 - v.x0)) (v.y0 + n / (v.x1 - v.x0)) (omega arith, omega (arith, column), omega arith, omega (arith, below))
      ∙ ap₂ (λ (j i : ℕ). j * (v.x1 - v.x0) + i) y x ∙ split

  pub right_other_out : cells_of v ≤ n → other_side v (edge_of v n) ≡ cells_of v
  right_other_out m =
      ap (λ (e : Edge). other_side v e) (edge_of_right v n l) ∙ other_right v (right_edge (v.x0 + n % (v.x1 - v.x0)) (v.y0 + n / (v.x1 - v.x0))) refl
      ∙ node_outside v (v.x0 + n % (v.x1 - v.x0)) (v.y0 + n / (v.x1 - v.x0)) (λ c. (
      let p = place_within (v.x1 - v.x0) (v.y1 - v.y0) (n / (v.x1 - v.x0)) (n % (v.x1 - v.x0)) (omega (arith, c)) column in
      omega (arith, p, split, m)))

  pub right_first_out : n < v.x1 - v.x0 → first_side v (edge_of v n) ≡ cells_of v
  right_first_out m =
      let top = div_below n (v.x1 - v.x0) 1 wide (omega (arith, m)) in
      ap (λ (e : Edge). first_side v e) (edge_of_right v n l) ∙ first_right v (right_edge (v.x0 + n % (v.x1 - v.x0)) (v.y0 + n / (v.x1 - v.x0))) refl
      ∙ above_outside v (v.x0 + n % (v.x1 - v.x0)) (v.y0 + n / (v.x1 - v.x0)) (omega (arith, top))

  -- a row that is not the first comes after another
  later : v.x1 - v.x0 ≤ n → 0 < n / (v.x1 - v.x0)
  later m =
      elim (cases_lt 0 (n / (v.x1 - v.x0))) [
        | inl p ↦ p
        | inr p ↦ (
            let none : n / (v.x1 - v.x0) ≡ 0 = omega (arith, p) in
            let e : n / (v.x1 - v.x0) * (v.x1 - v.x0) ≡ 0 * (v.x1 - v.x0) = ap (λ (k : ℕ). k * (v.x1 - v.x0)) none in
            absurd (omega (arith, e, split, column, m)))
      ]

  pub right_first_in : v.x1 - v.x0 ≤ n → first_side v (edge_of v n) ≡ n - (v.x1 - v.x0)
  right_first_in m =
      let p = later m in
      let x : v.x0 + n % (v.x1 - v.x0) - v.x0 ≡ n % (v.x1 - v.x0) = omega arith in
      let y : v.y0 + n / (v.x1 - v.x0) - 1 - v.y0 ≡ n / (v.x1 - v.x0) - 1 = omega arith in
      ap (λ (e : Edge). first_side v e) (edge_of_right v n l) ∙ first_right v (right_edge (v.x0 + n % (v.x1 - v.x0)) (v.y0 + n / (v.x1 - v.x0))) refl
      ∙ above_inside v (v.x0 + n % (v.x1 - v.x0)) (v.y0 + n / (v.x1 - v.x0)) (omega (arith, p))
      ∙ node_inside v (v.x0 + n % (v.x1 - v.x0)) (v.y0 + n / (v.x1 - v.x0) - 1) (omega arith, omega (arith, column), omega (arith, p), omega (arith, p, row))
      ∙ ap₂ (λ (j i : ℕ). j * (v.x1 - v.x0) + i) y x ∙ one_row_up (n / (v.x1 - v.x0)) (v.x1 - v.x0) (n % (v.x1 - v.x0)) n p split
    where
      one_row_up : (j a i n : ℕ) → 0 < j → j * a + i ≡ n → (j - 1) * a + i ≡ n - a
      one_row_up zero a i n p e = absurd (omega (arith, p))
      one_row_up (suc j) a i n p e =
          let k : suc j - 1 ≡ j = omega arith in
          let d : suc j * a ≡ j * a + a = omega arith in
          rw k (omega (arith, d, e))

-- ---- the sides of a down edge
module _ (v : Window) (m : ℕ) (l : rights_of v + m < edges_of v) where
  down_split : m / width_of v * width_of v + m % width_of v ≡ m
  down_split = div-add-mod' m (width_of v)

  -- in rows of cells
  pub narrower : m / width_of v * (v.x1 - v.x0) + m / width_of v + m % width_of v ≡ m
  narrower = omega (arith, down_split)

  pub down_column : m % width_of v < width_of v
  down_column = mod_below m (width_of v) (omega arith)

  pub down_row : m / width_of v < v.y1 - v.y0
  down_row = div_below m (width_of v) (v.y1 - v.y0) (omega arith) (omega (arith, l, downs_are v))

  pub down_first_in : m % width_of v < v.x1 - v.x0 → first_side v (edge_of v (rights_of v + m)) ≡ m - m / width_of v
  down_first_in p =
      let x : v.x0 + m % width_of v - v.x0 ≡ m % width_of v = omega arith in
      let y : v.y0 + m / width_of v - v.y0 ≡ m / width_of v = omega arith in
      ap (λ (e : Edge). first_side v e) (edge_of_down v m) ∙ first_down v (down_edge (v.x0 + m % width_of v) (v.y0 + m / width_of v)) refl
      ∙ node_inside v (v.x0 + m % width_of v) (v.y0 + m / width_of v) (omega arith, omega (arith, p), omega arith, omega (arith, down_row))
      ∙ ap₂ (λ (j i : ℕ). j * (v.x1 - v.x0) + i) y x ∙ omega (arith, narrower)

  pub down_first_out : v.x1 - v.x0 ≤ m % width_of v → first_side v (edge_of v (rights_of v + m)) ≡ cells_of v
  down_first_out p =
      ap (λ (e : Edge). first_side v e) (edge_of_down v m) ∙ first_down v (down_edge (v.x0 + m % width_of v) (v.y0 + m / width_of v)) refl
      ∙ node_outside v (v.x0 + m % width_of v) (v.y0 + m / width_of v) (λ c. omega (arith, c, p))

  pub down_other_in : 0 < m % width_of v → other_side v (edge_of v (rights_of v + m)) ≡ m - m / width_of v - 1
  down_other_in p =
      let x : v.x0 + m % width_of v - 1 - v.x0 ≡ m % width_of v - 1 = omega arith in
      let y : v.y0 + m / width_of v - v.y0 ≡ m / width_of v = omega arith in
      ap (λ (e : Edge). other_side v e) (edge_of_down v m) ∙ other_down v (down_edge (v.x0 + m % width_of v) (v.y0 + m / width_of v)) refl
      ∙ left_inside v (v.x0 + m % width_of v) (v.y0 + m / width_of v) (omega (arith, p))
      ∙ node_inside v (v.x0 + m % width_of v - 1) (v.y0 + m / width_of v) (omega (arith, p), omega (arith, p, down_column), omega arith, omega (arith, down_row))
      ∙ ap₂ (λ (j i : ℕ). j * (v.x1 - v.x0) + i) y x ∙ omega (arith, narrower, p)

  pub down_other_out : m % width_of v ≡ 0 → other_side v (edge_of v (rights_of v + m)) ≡ cells_of v
  down_other_out p =
      ap (λ (e : Edge). other_side v e) (edge_of_down v m) ∙ other_down v (down_edge (v.x0 + m % width_of v) (v.y0 + m / width_of v)) refl
      ∙ left_outside v (v.x0 + m % width_of v) (v.y0 + m / width_of v) (omega (arith, p))

  -- what lies there is a cell
  pub down_cell : (i : ℕ) → i < v.x1 - v.x0 → m / width_of v * (v.x1 - v.x0) + i < cells_of v
  down_cell i p = let q = place_within (v.x1 - v.x0) (v.y1 - v.y0) (m / width_of v) i down_row p in omega (arith, q)

-- ---- the edge of a number is one of the window, and has that number
module _ (v : Window) (small : IsRasterWindow v) where
  right_in : (n : ℕ) → n < rights_of v → IsEdgeOf v (right_edge (v.x0 + n % (v.x1 - v.x0)) (v.y0 + n / (v.x1 - v.x0)))
  right_in n l =
      let w = has_columns n (v.x1 - v.x0) (v.y1 - v.y0 + 1) (omega (arith, l, rights_are v)) in
      let column = mod_below n (v.x1 - v.x0) w in
      let row = div_below n (v.x1 - v.x0) (v.y1 - v.y0 + 1) w (omega (arith, l, rights_are v)) in
      let a = small.along in
      right_edge_of v (v.x0 + n % (v.x1 - v.x0)) (v.y0 + n / (v.x1 - v.x0)) (omega arith) (omega (arith, column)) (omega arith) (omega (arith, row, a))

  down_in : (m : ℕ) → rights_of v + m < edges_of v → IsEdgeOf v (down_edge (v.x0 + m % width_of v) (v.y0 + m / width_of v))
  down_in m l =
      let a = small.across in
      down_edge_of v (v.x0 + m % width_of v) (v.y0 + m / width_of v) (omega arith) (omega (arith, down_column v m l, a)) (omega arith) (omega (arith, down_row v m l))

  pub edge_in : (n : ℕ) → n < edges_of v → IsEdgeOf v (edge_of v n)
  edge_in n l =
      elim (cases_lt n (rights_of v)) [
        | inl p ↦ rw (edge_of_right v n p) (right_in n p)
        | inr p ↦ (
            let e : n ≡ rights_of v + (n - rights_of v) = omega (arith, p) in
            subst (λ (k : ℕ). IsEdgeOf v (edge_of v k)) (sym e) (rw (edge_of_down v (n - rights_of v)) (down_in (n - rights_of v) (omega (arith, l, p)))))
      ]

  pub number_of_edge : (n : ℕ) → n < edges_of v → edge_number v (edge_of v n) ≡ n
  number_of_edge n l =
      elim (cases_lt n (rights_of v)) [
        | inl p ↦ (
            let x : v.x0 + n % (v.x1 - v.x0) - v.x0 ≡ n % (v.x1 - v.x0) = omega arith in
            let y : v.y0 + n / (v.x1 - v.x0) - v.y0 ≡ n / (v.x1 - v.x0) = omega arith in
            ap (λ (e : Edge). edge_number v e) (edge_of_right v n p)
            ∙ ap (λ (s : ℕ). (v.y0 + n / (v.x1 - v.x0) - v.y0) * s + (v.x0 + n % (v.x1 - v.x0) - v.x0)) (one_less v)
            ∙ ap₂ (λ (j i : ℕ). j * (v.x1 - v.x0) + i) y x ∙ div-add-mod' n (v.x1 - v.x0))
        | inr p ↦ down_number (n - rights_of v) n (omega (arith, p))
      ]
    where
      down_number : (m n : ℕ) → rights_of v + m ≡ n → edge_number v (edge_of v n) ≡ n
      down_number m n e =
          let x : v.x0 + m % width_of v - v.x0 ≡ m % width_of v = omega arith in
          let y : v.y0 + m / width_of v - v.y0 ≡ m / width_of v = omega arith in
          ap (λ (k : ℕ). edge_number v (edge_of v k)) (sym e)
          ∙ ap (λ (i : Edge). edge_number v i) (edge_of_down v m)
          ∙ ap₂ (λ (j i : ℕ). rights_of v + (j * width_of v + i)) y x ∙ ap (λ (k : ℕ). rights_of v + k) (div-add-mod' m (width_of v)) ∙ e
