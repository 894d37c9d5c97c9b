-- The numbers of a window's edges.
use Rattle.std.proofs.Common.{◌≡◌, ℕ, zero, suc, ◌+◌, ◌-◌, ◌*◌, ◌/◌, ◌%◌, ◌<◌, ◌≤◌, ◌∙◌, sym, ap, ap₂, arith, Bool, true, false}
use Rattle.std.proofs.lemmas.Nat.{div-mul-add, mod-mul-add}
use Rattle.raster_model.specs.declared.edge.Edge.{Edge}
use Rattle.raster_model.specs.declared.tiling.Window.{Window}
use Rattle.raster_model.specs.Sums.{right_edge, down_edge}
use Rattle.raster_model.specs.Tiles.{width_of, height_of, IsRasterWindow}
use Rattle.wrapped_gradient.specs.Windows.{IsEdgeOf}
use Rattle.wrapped_gradient.proofs.Places.{place_within}
use Rattle.dual_grid.specs.Grids.{arc_capacity}
use Rattle.dual_grid.specs.Nodes.{cells_of, rights_of, downs_of, edges_of, edge_number}

-- rows in which a number lies have columns
pub has_columns : (u a b : ℕ) → u < b * a → 0 < a
has_columns u zero b l = absurd (omega (arith, l))
has_columns u (suc a) b l = omega arith

-- a place in rows of s tells its row and its column
pub same_row : (s a b c d : ℕ) → b < s → d < s → a * s + b ≡ c * s + d → a ≡ c
same_row s a b c d l m e = sym (div-mul-add a s b l) ∙ ap (λ (n : ℕ). n / s) e ∙ div-mul-add c s d m

pub same_column : (s a b c d : ℕ) → b < s → d < s → a * s + b ≡ c * s + d → b ≡ d
same_column s a b c d l m e = sym (mod-mul-add a s b l) ∙ ap (λ (n : ℕ). n % s) e ∙ mod-mul-add c s d m

pub right_number_below : (v : Window) (x y : ℕ) → IsEdgeOf v (right_edge x y) → edge_number v (right_edge x y) < rights_of v
right_number_below v x y i =
    let a = i.start in
    let b = i.end in
    place_within (width_of v - 1) (height_of v) (y - v.y0) (x - v.x0) (omega (arith, a)) (omega (arith, a, b))

pub down_number_below : (v : Window) (x y : ℕ) → IsEdgeOf v (down_edge x y) → (y - v.y0) * width_of v + (x - v.x0) < downs_of v
down_number_below v x y i =
    let a = i.start in
    let b = i.end in
    place_within (width_of v) (height_of v - 1) (y - v.y0) (x - v.x0) (omega (arith, a, b)) (omega (arith, a))

pub number_below : (v : Window) (e : Edge) → IsEdgeOf v e → edge_number v e < edges_of v
number_below v e i = go e.x e.y e.down i
  where
    go : (x y : ℕ) (d : Bool) → IsEdgeOf v (record { x = x; y = y; down = d }) → edge_number v (record { x = x; y = y; down = d }) < edges_of v
    go x y true i = let p = down_number_below v x y i in omega (arith, p)
    go x y false i = let p = right_number_below v x y i in omega (arith, p)

-- an edge by its parts
abbrev named : ℕ → ℕ → Bool → Edge
named x y d = record { x = x; y = y; down = d }

-- no two edges have one number
pub same_number : (v : Window) (e f : Edge) → IsEdgeOf v e → IsEdgeOf v f → edge_number v e ≡ edge_number v f → e ≡ f
same_number v e f i j h = go e.x e.y e.down f.x f.y f.down i j h
  where
    rights : (x y u w : ℕ) → IsEdgeOf v (right_edge x y) → IsEdgeOf v (right_edge u w) → edge_number v (right_edge x y) ≡ edge_number v (right_edge u w) → right_edge x y ≡ right_edge u w
    rights x y u w i j h =
        let a = i.start in
        let b = j.start in
        let c = i.end in
        let d = j.end in
        let p : x - v.x0 < width_of v - 1 = omega (arith, a, c) in
        let q : u - v.x0 < width_of v - 1 = omega (arith, b, d) in
        let r = same_row (width_of v - 1) (y - v.y0) (x - v.x0) (w - v.y0) (u - v.x0) p q h in
        let k = same_column (width_of v - 1) (y - v.y0) (x - v.x0) (w - v.y0) (u - v.x0) p q h in
        ap₂ (λ (m n : ℕ). right_edge m n) (omega (arith, a, b, k)) (omega (arith, a, b, r))

    downs : (x y u w : ℕ) → IsEdgeOf v (down_edge x y) → IsEdgeOf v (down_edge u w) → edge_number v (down_edge x y) ≡ edge_number v (down_edge u w) → down_edge x y ≡ down_edge u w
    downs x y u w i j h =
        let a = i.start in
        let b = j.start in
        let p : x - v.x0 < width_of v = omega (arith, a) in
        let q : u - v.x0 < width_of v = omega (arith, b) in
        let e : (y - v.y0) * width_of v + (x - v.x0) ≡ (w - v.y0) * width_of v + (u - v.x0) = omega (arith, h) in
        let r = same_row (width_of v) (y - v.y0) (x - v.x0) (w - v.y0) (u - v.x0) p q e in
        let k = same_column (width_of v) (y - v.y0) (x - v.x0) (w - v.y0) (u - v.x0) p q e in
        ap₂ (λ (m n : ℕ). down_edge m n) (omega (arith, a, b, k)) (omega (arith, a, b, r))

    go : (x y : ℕ) (d : Bool) (u w : ℕ) (c : Bool) → IsEdgeOf v (named x y d) → IsEdgeOf v (named u w c) → edge_number v (named x y d) ≡ edge_number v (named u w c) → named x y d ≡ named u w c
    go x y true u w true i j h = downs x y u w i j h
    go x y false u w false i j h = rights x y u w i j h
    go x y true u w false i j h = let p = right_number_below v u w j in absurd (omega (arith, p, h))
    go x y false u w true i j h = let p = right_number_below v x y i in absurd (omega (arith, p, h))

-- the number of edges and of cells of the greatest window
pub few_edges : (v : Window) → IsRasterWindow v → edges_of v ≤ 536870910
few_edges v s = few (v.x1 - v.x0) (v.y1 - v.y0) s.few
  where
    few : (a b : ℕ) → (a + 1) * (b + 1) ≤ 268435456 → (a + 1 - 1) * (b + 1) + (a + 1) * (b + 1 - 1) ≤ 536870910
    few a b l =
        let p : a + 1 - 1 ≡ a = omega arith in
        let q : b + 1 - 1 ≡ b = omega arith in
        rw (p, q) (omega (arith, l))

pub few_cells : (v : Window) → IsRasterWindow v → cells_of v ≤ 268435455
few_cells v s = few (v.x1 - v.x0) (v.y1 - v.y0) s.few
  where
    few : (a b : ℕ) → (a + 1) * (b + 1) ≤ 268435456 → b * a ≤ 268435455
    few a b l = omega (arith, l)

pub capacity_few : (v : Window) → IsRasterWindow v → arc_capacity v ≤ 268435456
capacity_few v s = omega (arith, few_cells v s)
