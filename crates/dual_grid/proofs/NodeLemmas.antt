-- The nodes of a window, and the sides of its edges.
use Rattle.std.proofs.Common.{◌≡◌, ℕ, ◌+◌, ◌-◌, ◌*◌, ◌<◌, ◌≤◌, refl, arith, true, false, inl, inr, ◌⊎◌}
use Rattle.std.specs.Prelude.{nat_lt, nat_le, ◌&&◌}
use Rattle.std.proofs.lemmas.Bool.Decides.{nat_tests}
use Rattle.std.proofs.lemmas.Bool.{cases_Bool}
use Rattle.raster_model.specs.declared.edge.Edge.{Edge}
use Rattle.raster_model.specs.declared.tiling.Window.{Window}
use Rattle.wrapped_gradient.specs.Windows.{IsCellOf}
use Rattle.wrapped_gradient.proofs.Places.{place_within}
use Rattle.dual_grid.specs.Nodes.{cells_of, is_cell_of, node_at, node_above, node_left, first_side, other_side}

tests_hold : (a x b c y d : ℕ) → a ≤ x → x < b → c ≤ y → y < d → (nat_le a x && nat_lt x b && nat_le c y && nat_lt y d) ≡ true
tests_hold a x b c y d p q r s = grind (arith, nat_tests)

tests_tell : (a x b c y d : ℕ) → (nat_le a x && nat_lt x b && nat_le c y && nat_lt y d) ≡ true → (a ≤ x) × (x < b) × (c ≤ y) × (y < d)
tests_tell a x b c y d t = (grind (arith, nat_tests), grind (arith, nat_tests), grind (arith, nat_tests), grind (arith, nat_tests))

pub cell_or_not : (v : Window) (x y : ℕ) → IsCellOf v x y ⊎ (IsCellOf v x y → ⊥)
cell_or_not v x y =
    elim (cases_Bool (is_cell_of v x y)) [
      | inl t ↦ inl (tests_tell v.x0 x v.x1 v.y0 y v.y1 t)
      | inr t ↦ inr (λ c. let h : true ≡ false = (let k = tests_hold v.x0 x v.x1 v.y0 y v.y1 c.0 c.1 c.2 c.3 in cc) in cc)
    ]

pub node_inside : (v : Window) (x y : ℕ) → IsCellOf v x y → node_at v x y ≡ (y - v.y0) * (v.x1 - v.x0) + (x - v.x0)
unfolding node_at
node_inside v x y c = rw (tests_hold v.x0 x v.x1 v.y0 y v.y1 c.0 c.1 c.2 c.3) refl

pub node_outside : (v : Window) (x y : ℕ) → (IsCellOf v x y → ⊥) → node_at v x y ≡ cells_of v
unfolding node_at
node_outside v x y n =
    elim (cases_Bool (is_cell_of v x y)) [
      | inl t ↦ absurd (n (tests_tell v.x0 x v.x1 v.y0 y v.y1 t))
      | inr t ↦ rw t refl
    ]

pub above_inside : (v : Window) (x y : ℕ) → v.y0 < y → node_above v x y ≡ node_at v x (y - 1)
unfolding node_above
above_inside v x y l = let t : nat_lt v.y0 y ≡ true = grind (arith, nat_tests) in rw t refl

pub above_outside : (v : Window) (x y : ℕ) → y ≤ v.y0 → node_above v x y ≡ cells_of v
unfolding node_above
above_outside v x y l = let t : nat_lt v.y0 y ≡ false = grind (arith, nat_tests) in rw t refl

pub left_inside : (v : Window) (x y : ℕ) → v.x0 < x → node_left v x y ≡ node_at v (x - 1) y
unfolding node_left
left_inside v x y l = let t : nat_lt v.x0 x ≡ true = grind (arith, nat_tests) in rw t refl

pub left_outside : (v : Window) (x y : ℕ) → x ≤ v.x0 → node_left v x y ≡ cells_of v
unfolding node_left
left_outside v x y l = let t : nat_lt v.x0 x ≡ false = grind (arith, nat_tests) in rw t refl

-- the sides of an edge by its direction
pub first_down : (v : Window) (e : Edge) → e.down ≡ true → first_side v e ≡ node_at v e.x e.y
unfolding first_side
first_down v e d = rw d refl

pub first_right : (v : Window) (e : Edge) → e.down ≡ false → first_side v e ≡ node_above v e.x e.y
unfolding first_side
first_right v e d = rw d refl

pub other_down : (v : Window) (e : Edge) → e.down ≡ true → other_side v e ≡ node_left v e.x e.y
unfolding other_side
other_down v e d = rw d refl

pub other_right : (v : Window) (e : Edge) → e.down ≡ false → other_side v e ≡ node_at v e.x e.y
unfolding other_side
other_right v e d = rw d refl

-- all of these are nodes
pub cell_below : (v : Window) (x y : ℕ) → IsCellOf v x y → (y - v.y0) * (v.x1 - v.x0) + (x - v.x0) < cells_of v
cell_below v x y c =
    let p = place_within (v.x1 - v.x0) (v.y1 - v.y0) (y - v.y0) (x - v.x0) (omega (arith, c)) (omega (arith, c)) in
    omega (arith, p)

pub node_below : (v : Window) (x y : ℕ) → node_at v x y < cells_of v + 1
node_below v x y =
    elim (cell_or_not v x y) [
      | inl c ↦ omega (arith, node_inside v x y c, cell_below v x y c)
      | inr n ↦ omega (arith, node_outside v x y n)
    ]

above_below : (v : Window) (x y : ℕ) → node_above v x y < cells_of v + 1
unfolding node_above
above_below v x y =
    elim (cases_Bool (nat_lt v.y0 y)) [
      | inl t ↦ rw t (node_below v x (y - 1))
      | inr t ↦ rw t (omega arith)
    ]

left_below : (v : Window) (x y : ℕ) → node_left v x y < cells_of v + 1
unfolding node_left
left_below v x y =
    elim (cases_Bool (nat_lt v.x0 x)) [
      | inl t ↦ rw t (node_below v (x - 1) y)
      | inr t ↦ rw t (omega arith)
    ]

pub first_below : (v : Window) (e : Edge) → first_side v e < cells_of v + 1
first_below v e =
    elim (cases_Bool e.down) [
      | inl d ↦ rw (first_down v e d) (node_below v e.x e.y)
      | inr d ↦ rw (first_right v e d) (above_below v e.x e.y)
    ]

pub other_below : (v : Window) (e : Edge) → other_side v e < cells_of v + 1
other_below v e =
    elim (cases_Bool e.down) [
      | inl d ↦ rw (other_down v e d) (left_below v e.x e.y)
      | inr d ↦ rw (other_right v e d) (node_below v e.x e.y)
    ]
