-- Which edges have a cell on which side.
use Rattle.std.proofs.Common.{◌≡◌, ℕ, ◌+◌, ◌-◌, ◌*◌, ◌∙◌, sym, ap, refl, arith, inl, inr, Bool, true, false}
use Rattle.std.specs.Prelude.{◌==◌, ◌&&◌}
use Rattle.std.proofs.lemmas.Bool.{eq-eqb, eqb-true, and_parts, cases_lt}
use Rattle.raster_model.specs.declared.edge.Edge.{Edge}
use Rattle.raster_model.specs.declared.tiling.Window.{Window}
use Rattle.raster_model.specs.Sums.{right_edge, down_edge}
use Rattle.wrapped_gradient.specs.Windows.{IsCellOf, IsEdgeOf}
use Rattle.wrapped_gradient.proofs.GradientLemmas.{right_edge_of, down_edge_of}
use Rattle.dual_grid.specs.Nodes.{cells_of, node_at, node_above, node_left, first_side, other_side}
use Rattle.dual_grid.proofs.NodeLemmas.{cell_or_not, node_inside, node_outside, above_inside, above_outside, left_inside, left_outside, cell_below, first_right, first_down, other_right, other_down}
use Rattle.dual_grid.proofs.EdgeLemmas.{same_row, same_column}

-- two tests that hold together
same_test : (t u : Bool) → (t ≡ true → u ≡ true) → (u ≡ true → t ≡ true) → t ≡ u
same_test true u p q = sym (p refl)
same_test false true p q = q refl
same_test false false p q = refl

both_eqb : (a b c d : ℕ) → a ≡ b → c ≡ d → ((a == b) && (c == d)) ≡ true
both_eqb a b c d e f = rw (eq-eqb a b e, eq-eqb c d f) refl

module _ (v : Window) (p q : ℕ) (cell : IsCellOf v p q) where
  at : node_at v p q ≡ (q - v.y0) * (v.x1 - v.x0) + (p - v.x0)
  at = node_inside v p q cell

  not_outside : node_at v p q ≡ cells_of v → ⊥
  not_outside e = omega (arith, at, e, cell_below v p q cell)

  -- a place whose node is the cell's is the cell
  pub node_tells : (x y : ℕ) → node_at v x y ≡ node_at v p q → (x ≡ p) × (y ≡ q)
  node_tells x y e =
      elim (cell_or_not v x y) [
        | inl c ↦ (
            let k : (y - v.y0) * (v.x1 - v.x0) + (x - v.x0) ≡ (q - v.y0) * (v.x1 - v.x0) + (p - v.x0) = sym (node_inside v x y c) ∙ e ∙ at in
            let i = same_column (v.x1 - v.x0) (y - v.y0) (x - v.x0) (q - v.y0) (p - v.x0) (omega (arith, c)) (omega (arith, cell)) k in
            let j = same_row (v.x1 - v.x0) (y - v.y0) (x - v.x0) (q - v.y0) (p - v.x0) (omega (arith, c)) (omega (arith, cell)) k in
            (omega (arith, c, cell, i), omega (arith, c, cell, j)))
        | inr n ↦ absurd (not_outside (sym e ∙ node_outside v x y n))
      ]

  pub above_tells : (x y : ℕ) → node_above v x y ≡ node_at v p q → (x ≡ p) × (y ≡ q + 1)
  above_tells x y e =
      elim (cases_lt v.y0 y) [
        | inl l ↦ (let t = node_tells x (y - 1) (sym (above_inside v x y l) ∙ e) in (t.0, omega (arith, t.1, l)))
        | inr l ↦ absurd (not_outside (sym e ∙ above_outside v x y l))
      ]

  pub left_tells : (x y : ℕ) → node_left v x y ≡ node_at v p q → (x ≡ p + 1) × (y ≡ q)
  left_tells x y e =
      elim (cases_lt v.x0 x) [
        | inl l ↦ (let t = node_tells (x - 1) y (sym (left_inside v x y l) ∙ e) in (omega (arith, t.0, l), t.1))
        | inr l ↦ absurd (not_outside (sym e ∙ left_outside v x y l))
      ]

  pub above_is : node_above v p (q + 1) ≡ node_at v p q
  above_is =
      let e : q + 1 - 1 ≡ q = omega arith in
      above_inside v p (q + 1) (omega (arith, cell)) ∙ ap (λ (y : ℕ). node_at v p y) e

  pub left_is : node_left v (p + 1) q ≡ node_at v p q
  left_is =
      let e : p + 1 - 1 ≡ p = omega arith in
      left_inside v (p + 1) q (omega (arith, cell)) ∙ ap (λ (x : ℕ). node_at v x q) e

  -- the same as tests, by column and row of the window
  pub here_test : (i j : ℕ) → (node_at v (v.x0 + i) (v.y0 + j) == node_at v p q) ≡ ((q - v.y0 == j) && (p - v.x0 == i))
  here_test i j =
      same_test (node_at v (v.x0 + i) (v.y0 + j) == node_at v p q) ((q - v.y0 == j) && (p - v.x0 == i))
      (λ t. (let k = node_tells (v.x0 + i) (v.y0 + j) (eqb-true (node_at v (v.x0 + i) (v.y0 + j)) (node_at v p q) t) in both_eqb (q - v.y0) j (p - v.x0) i (omega (arith, k.1)) (omega (arith, k.0))))
      (λ t. (
      let u = and_parts (q - v.y0 == j) (p - v.x0 == i) t in
      let row = eqb-true (q - v.y0) j u.0 in
      let column = eqb-true (p - v.x0) i u.1 in
      let x : v.x0 + i ≡ p = omega (arith, column, cell) in
      let y : v.y0 + j ≡ q = omega (arith, row, cell) in
      eq-eqb (node_at v (v.x0 + i) (v.y0 + j)) (node_at v p q) (rw (x, y) refl)))

  pub above_test : (i j : ℕ) → (node_above v (v.x0 + i) (v.y0 + j) == node_at v p q) ≡ ((q + 1 - v.y0 == j) && (p - v.x0 == i))
  above_test i j =
      same_test (node_above v (v.x0 + i) (v.y0 + j) == node_at v p q) ((q + 1 - v.y0 == j) && (p - v.x0 == i))
      (λ t. (let k = above_tells (v.x0 + i) (v.y0 + j) (eqb-true (node_above v (v.x0 + i) (v.y0 + j)) (node_at v p q) t) in both_eqb (q + 1 - v.y0) j (p - v.x0) i (omega (arith, k.1)) (omega (arith, k.0))))
      (λ t. (
      let u = and_parts (q + 1 - v.y0 == j) (p - v.x0 == i) t in
      let row = eqb-true (q + 1 - v.y0) j u.0 in
      let column = eqb-true (p - v.x0) i u.1 in
      let x : v.x0 + i ≡ p = omega (arith, column, cell) in
      let y : v.y0 + j ≡ q + 1 = omega (arith, row, cell) in
      eq-eqb (node_above v (v.x0 + i) (v.y0 + j)) (node_at v p q) (rw (x, y) above_is)))

  pub left_test : (i j : ℕ) → (node_left v (v.x0 + i) (v.y0 + j) == node_at v p q) ≡ ((q - v.y0 == j) && (p + 1 - v.x0 == i))
  left_test i j =
      same_test (node_left v (v.x0 + i) (v.y0 + j) == node_at v p q) ((q - v.y0 == j) && (p + 1 - v.x0 == i))
      (λ t. (let k = left_tells (v.x0 + i) (v.y0 + j) (eqb-true (node_left v (v.x0 + i) (v.y0 + j)) (node_at v p q) t) in both_eqb (q - v.y0) j (p + 1 - v.x0) i (omega (arith, k.1)) (omega (arith, k.0))))
      (λ t. (
      let u = and_parts (q - v.y0 == j) (p + 1 - v.x0 == i) t in
      let row = eqb-true (q - v.y0) j u.0 in
      let column = eqb-true (p + 1 - v.x0) i u.1 in
      let x : v.x0 + i ≡ p + 1 = omega (arith, column, cell) in
      let y : v.y0 + j ≡ q = omega (arith, row, cell) in
      eq-eqb (node_left v (v.x0 + i) (v.y0 + j)) (node_at v p q) (rw (x, y) left_is)))

-- an edge that is not the window's has the outside on both sides
pub sides_outside : (v : Window) (e : Edge) → (IsEdgeOf v e → ⊥) → (first_side v e ≡ cells_of v) × (other_side v e ≡ cells_of v)
sides_outside v e n = go e.x e.y e.down n
  where
    go : (x y : ℕ) (d : Bool) → (IsEdgeOf v (record { x = x; y = y; down = d }) → ⊥) → (first_side v (record { x = x; y = y; down = d }) ≡ cells_of v) × (other_side v (record { x = x; y = y; down = d }) ≡ cells_of v)
    go x y false n = (
      first_right v (right_edge x y) refl ∙ elim (cases_lt v.y0 y) [
        | inl l ↦ above_inside v x y l ∙ node_outside v x (y - 1) (λ c. n (right_edge_of v x y c.0 c.1 (omega (arith, l)) (omega (arith, c, l))))
        | inr l ↦ above_outside v x y l
      ],
      other_right v (right_edge x y) refl ∙ node_outside v x y (λ c. n (right_edge_of v x y c.0 c.1 c.2 (omega (arith, c)))),
    )
    go x y true n = (
      first_down v (down_edge x y) refl ∙ node_outside v x y (λ c. n (down_edge_of v x y c.0 (omega (arith, c)) c.2 c.3)),
      other_down v (down_edge x y) refl ∙ elim (cases_lt v.x0 x) [
        | inl l ↦ left_inside v x y l ∙ node_outside v (x - 1) y (λ c. n (down_edge_of v x y (omega (arith, l)) (omega (arith, c, l)) c.2 c.3))
        | inr l ↦ left_outside v x y l
      ],
    )
