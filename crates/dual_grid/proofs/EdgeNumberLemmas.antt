-- Which edges a node lies at, by their numbers.
use Rattle.std.proofs.Common.{◌≡◌, ℕ, ◌+◌, ◌-◌, ◌*◌, ◌/◌, ◌%◌, ◌<◌, ◌≤◌, ◌∙◌, subst, ap, refl, arith, inl, inr, ◌⊎◌}
use Rattle.std.specs.Prelude.{Some, None}
use Rattle.std.proofs.lemmas.Bool.{cases_lt}
use Rattle.std.proofs.lemmas.Nat.{div-add-mod', div-mul-add, mod-mul-add, mod_below}
use Rattle.raster_model.specs.declared.tiling.Window.{Window}
use Rattle.raster_model.specs.Tiles.{width_of}
use Rattle.dual_grid.specs.Building.{IsEdgeBelow, LiesAt, LiesAtNone}
use Rattle.dual_grid.specs.Nodes.{cells_of, rights_of, edges_of}
use Rattle.dual_grid.proofs.NumberLemmas.{rights_are, right_other_in, right_other_out, right_first_in, right_first_out, narrower, down_column, down_first_in, down_first_out, down_other_in, down_other_out, down_cell}
use Rattle.dual_grid.proofs.EdgeLemmas.{has_columns}

-- a number of an edge is that of a right edge, or that of a down edge
abbrev pub IsDownFrom : ℕ → ℕ → Type 0
IsDownFrom rights m = (k : ℕ) × (m ≡ rights + k)

pub right_or_down : (rights m : ℕ) → (m < rights) ⊎ IsDownFrom rights m
right_or_down rights m =
    elim (cases_lt m rights) [
      | inl l ↦ inl l
      | inr l ↦ inr (m - rights, omega (arith, l))
    ]

-- an edge is found, or there is none
pub one_found : (v : Window) (u high n : ℕ) → n < high → LiesAt v u n → LiesAtNone v u (n + 1) high → IsEdgeBelow v u high (Some n)
one_found v u high n l at none = record {
  found = λ m e. (let k : n ≡ m = cc in subst (λ (j : ℕ). (j < high) × LiesAt v u j × LiesAtNone v u (j + 1) high) k (l, at, none));
  ended = λ e. absurd cc;
}

pub none_found : (v : Window) (u high : ℕ) → LiesAtNone v u 0 high → IsEdgeBelow v u high None
none_found v u high none = record { found = λ m e. absurd cc; ended = λ e. none }

-- ---- a cell
module _ (v : Window) (u : ℕ) (cell : u < cells_of v) where
  wide : 0 < v.x1 - v.x0
  wide = has_columns u (v.x1 - v.x0) (v.y1 - v.y0) cell

  cell_column : u % (v.x1 - v.x0) < v.x1 - v.x0
  cell_column = mod_below u (v.x1 - v.x0) wide

  cell_split : u / (v.x1 - v.x0) * (v.x1 - v.x0) + u % (v.x1 - v.x0) ≡ u
  cell_split = div-add-mod' u (v.x1 - v.x0)

  -- the row and the column of the down edge on its left, and of that on its right
  left_split : u + u / (v.x1 - v.x0) ≡ u / (v.x1 - v.x0) * width_of v + u % (v.x1 - v.x0)
  left_split = omega (arith, cell_split)

  left_column : (u + u / (v.x1 - v.x0)) % width_of v ≡ u % (v.x1 - v.x0)
  left_column = ap (λ (k : ℕ). k % width_of v) left_split ∙ mod-mul-add (u / (v.x1 - v.x0)) (width_of v) (u % (v.x1 - v.x0)) (omega (arith, cell_column))

  left_row : (u + u / (v.x1 - v.x0)) / width_of v ≡ u / (v.x1 - v.x0)
  left_row = ap (λ (k : ℕ). k / width_of v) left_split ∙ div-mul-add (u / (v.x1 - v.x0)) (width_of v) (u % (v.x1 - v.x0)) (omega (arith, cell_column))

  right_split : u + u / (v.x1 - v.x0) + 1 ≡ u / (v.x1 - v.x0) * width_of v + (u % (v.x1 - v.x0) + 1)
  right_split = omega (arith, cell_split)

  right_column : (u + u / (v.x1 - v.x0) + 1) % width_of v ≡ u % (v.x1 - v.x0) + 1
  right_column = ap (λ (k : ℕ). k % width_of v) right_split ∙ mod-mul-add (u / (v.x1 - v.x0)) (width_of v) (u % (v.x1 - v.x0) + 1) (omega (arith, cell_column))

  right_row : (u + u / (v.x1 - v.x0) + 1) / width_of v ≡ u / (v.x1 - v.x0)
  right_row = ap (λ (k : ℕ). k / width_of v) right_split ∙ div-mul-add (u / (v.x1 - v.x0)) (width_of v) (u % (v.x1 - v.x0) + 1) (omega (arith, cell_column))

  pub at_top : LiesAt v u u
  at_top = inr (right_other_in v u (omega (arith, rights_are v, cell)) cell)

  pub at_bottom : LiesAt v u (u + (v.x1 - v.x0))
  at_bottom = inl (right_first_in v (u + (v.x1 - v.x0)) (omega (arith, rights_are v, cell)) (omega arith) ∙ omega arith)

  pub at_left : rights_of v + (u + u / (v.x1 - v.x0)) < edges_of v → LiesAt v u (rights_of v + (u + u / (v.x1 - v.x0)))
  at_left l = inl (down_first_in v (u + u / (v.x1 - v.x0)) l (omega (arith, left_column, cell_column)) ∙ omega (arith, left_row))

  pub at_right : rights_of v + (u + u / (v.x1 - v.x0) + 1) < edges_of v → LiesAt v u (rights_of v + (u + u / (v.x1 - v.x0) + 1))
  at_right l = inr (down_other_in v (u + u / (v.x1 - v.x0) + 1) l (omega (arith, right_column)) ∙ omega (arith, right_row))

  -- it lies at no other edge
  abbrev IsBeside : ℕ → Type 0
  IsBeside m = (m ≡ u) ⊎ ((m ≡ u + (v.x1 - v.x0)) ⊎ ((m ≡ rights_of v + (u + u / (v.x1 - v.x0))) ⊎ (m ≡ rights_of v + (u + u / (v.x1 - v.x0) + 1))))

  beside_right : (m : ℕ) → m < rights_of v → LiesAt v u m → IsBeside m
  beside_right m l (inl e) =
      elim (cases_lt m (v.x1 - v.x0)) [
        | inl p ↦ absurd (omega (arith, right_first_out v m l p, e, cell))
        | inr p ↦ inr (inl (omega (arith, right_first_in v m l p, e, p)))
      ]
  beside_right m l (inr e) =
      elim (cases_lt m (cells_of v)) [
        | inl p ↦ inl (omega (arith, right_other_in v m l p, e))
        | inr p ↦ absurd (omega (arith, right_other_out v m l p, e, cell))
      ]

  -- a place among down edges, told by its cell
  same_row : (a j i : ℕ) → i < a → u ≡ j * a + i → a ≡ v.x1 - v.x0 → u / (v.x1 - v.x0) ≡ j
  same_row a j i l e s = rw (← s) (ap (λ (k : ℕ). k / a) e ∙ div-mul-add j a i l)

  beside_down : (k : ℕ) → rights_of v + k < edges_of v → LiesAt v u (rights_of v + k) → IsBeside (rights_of v + k)
  beside_down k l (inl e) =
      elim (cases_lt (k % width_of v) (v.x1 - v.x0)) [
        | inl p ↦ (
            let here = down_first_in v k l p in
            let row = same_row (v.x1 - v.x0) (k / width_of v) (k % width_of v) p (omega (arith, here, e, narrower v k l)) refl in
            inr (inr (inl (omega (arith, here, e, row, narrower v k l)))))
        | inr p ↦ absurd (omega (arith, down_first_out v k l p, e, cell))
      ]
  beside_down k l (inr e) =
      elim (cases_lt 0 (k % width_of v)) [
        | inl p ↦ (
            let here = down_other_in v k l p in
            let row = same_row (v.x1 - v.x0) (k / width_of v) (k % width_of v - 1) (omega (arith, p, down_column v k l)) (omega (arith, here, e, p, narrower v k l)) refl in
            inr (inr (inr (omega (arith, here, e, row, p, narrower v k l)))))
        | inr p ↦ absurd (omega (arith, down_other_out v k l (omega (arith, p)), e, cell))
      ]

  beside : (m : ℕ) → m < edges_of v → LiesAt v u m → IsBeside m
  beside m l at =
      elim (right_or_down (rights_of v) m) [
        | inl p ↦ beside_right m p at
        | inr p ↦ rw p.1 (beside_down p.0 (rw p.1 at l) (rw p.1 at at))
      ]

  pub cell_at_none : (low high : ℕ) → high ≤ edges_of v → (low ≤ u → high ≤ u) → (low ≤ u + (v.x1 - v.x0) → high ≤ u + (v.x1 - v.x0)) → (low ≤ rights_of v + (u + u / (v.x1 - v.x0)) → high ≤ rights_of v + (u + u / (v.x1 - v.x0))) → (low ≤ rights_of v + (u + u / (v.x1 - v.x0) + 1) → high ≤ rights_of v + (u + u / (v.x1 - v.x0) + 1)) → LiesAtNone v u low high
  cell_at_none low high top a b c d m p q at =
      elim (beside m (omega (arith, q, top)) at) [
        | inl e ↦ (let h = a (omega (arith, p, e)) in omega (arith, h, q, e))
        | inr (inl e) ↦ (let h = b (omega (arith, p, e)) in omega (arith, h, q, e))
        | inr (inr (inl e)) ↦ (let h = c (omega (arith, p, e)) in omega (arith, h, q, e))
        | inr (inr (inr e)) ↦ (let h = d (omega (arith, p, e)) in omega (arith, h, q, e))
      ]

  -- the four in order
  pub in_order : u + (v.x1 - v.x0) < rights_of v
  in_order = omega (arith, rights_are v, cell)

-- ---- the outside
module _ (v : Window) where
  pub at_first_row : (n : ℕ) → n < rights_of v → n < v.x1 - v.x0 → LiesAt v (cells_of v) n
  at_first_row n l p = inl (right_first_out v n l p)

  pub at_last_row : (n : ℕ) → n < rights_of v → cells_of v ≤ n → LiesAt v (cells_of v) n
  at_last_row n l p = inr (right_other_out v n l p)

  -- between the first row of edges and the last
  pub outside_at_none : (low high : ℕ) → v.x1 - v.x0 ≤ low → high ≤ cells_of v → LiesAtNone v (cells_of v) low high
  outside_at_none low high a b m p q at = go at
    where
      l : m < rights_of v
      l = omega (arith, rights_are v, q, b)

      go : LiesAt v (cells_of v) m → ⊥
      go (inl e) = omega (arith, right_first_in v m l (omega (arith, a, p)), e, l, rights_are v, q, b)
      go (inr e) = omega (arith, right_other_in v m l (omega (arith, q, b)), e, q, b)

  -- no place to stop at between low and high
  pub nothing_between : (u n high : ℕ) → high ≤ n → LiesAtNone v u n high
  nothing_between u n high l m p q at = omega (arith, l, p, q)

  -- a row of down edges: the first place and the last
  pub at_row_start : (k : ℕ) → rights_of v + k < edges_of v → LiesAt v (cells_of v) (rights_of v + (k - k % width_of v))
  at_row_start k l =
      let split = div-add-mod' k (width_of v) in
      let e : k - k % width_of v ≡ k / width_of v * width_of v + 0 = omega (arith, split) in
      let column = ap (λ (n : ℕ). n % width_of v) e ∙ mod-mul-add (k / width_of v) (width_of v) 0 (omega arith) in
      inr (down_other_out v (k - k % width_of v) (omega (arith, l)) column)

  pub at_row_end : (k : ℕ) → rights_of v + k < edges_of v → v.x1 - v.x0 ≤ k % width_of v → LiesAt v (cells_of v) (rights_of v + k)
  at_row_end k l p = inl (down_first_out v k l p)

  -- between them
  pub row_at_none : (k : ℕ) → rights_of v + k < edges_of v → k % width_of v < v.x1 - v.x0 → LiesAtNone v (cells_of v) (rights_of v + (k - k % width_of v) + 1) (rights_of v + k + 1)
  row_at_none k l c m p q at =
      elim (right_or_down (rights_of v) m) [
        | inl o ↦ omega (arith, o, p)
        | inr o ↦ go o.0 (omega (arith, o.1, p)) (omega (arith, o.1, q)) (subst (λ (n : ℕ). LiesAt v (cells_of v) n) o.1 at)
      ]
    where
      go : (i : ℕ) → k - k % width_of v < i → i ≤ k → LiesAt v (cells_of v) (rights_of v + i) → ⊥
      go i a b at =
          let split = div-add-mod' k (width_of v) in
          let e : i ≡ k / width_of v * width_of v + (i - (k - k % width_of v)) = omega (arith, split, a, b) in
          let small : i - (k - k % width_of v) < width_of v = omega (arith, a, b, c) in
          let column : i % width_of v ≡ i - (k - k % width_of v) = ap (λ (n : ℕ). n % width_of v) e ∙ mod-mul-add (k / width_of v) (width_of v) (i - (k - k % width_of v)) small in
          let within : rights_of v + i < edges_of v = omega (arith, l, b) in
          both i within (omega (arith, column, a, b, c)) (omega (arith, column, a)) at
        where
          both : (i : ℕ) → rights_of v + i < edges_of v → i % width_of v < v.x1 - v.x0 → 0 < i % width_of v → LiesAt v (cells_of v) (rights_of v + i) → ⊥
          both i l c d (inl e) = let cell = down_cell v i l (i % width_of v) c in omega (arith, down_first_in v i l c, e, cell, narrower v i l)
          both i l c d (inr e) = let cell = down_cell v i l (i % width_of v - 1) (omega (arith, c)) in omega (arith, down_other_in v i l d, e, d, cell, narrower v i l)
