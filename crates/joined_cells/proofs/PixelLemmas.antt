-- A flood passes a pixel: its left edge and then its upper edge.
use Rattle.std.proofs.Common.{◌≡◌, ℕ, zero, suc, ◌+◌, ◌-◌, ◌*◌, ◌<◌, ◌≤◌, sym, ◌∙◌, ap, ap₂, arith, subst, Bool, true, false, List, length}
use Rattle.std.specs.Prelude.{IsTrue}
use Rattle.raster_model.specs.declared.edge.Edge.{Edge}
use Rattle.raster_model.specs.Sums.{end_x, end_y, right_edge, down_edge}
use Rattle.sums_and_lists.proofs.Tests.{true_and_false}
use Rattle.joined_cells.proofs.EdgeLemmas.{ends_in, ends_open, ends_at, starts, down_is, right_is}
use Rattle.joined_cells.proofs.FloodLemmas.{flood_already, flood_then, flood_without, flood_with}
use Rattle.joined_cells.specs.Flood.{edge_rank, IsFlooded, IsFlood}
use Rattle.joined_cells.specs.Forest.{IsForest, root_with}
use Rattle.joined_cells.specs.Joining.{Joining, joins}

pub row_before : (y w : ℕ) → 1 ≤ y → (y - 1) * w + w ≡ y * w
row_before zero w l = absurd (omega arith)
row_before (suc y) w l = let e : suc y - 1 ≡ y = omega arith in rw e (omega arith)

-- the place above
pub above_is : (w x y : ℕ) → 1 ≤ y → (y - 1) * w + x ≡ y * w + x - w
above_is w x y l = omega (arith, row_before y w l)

-- the column of the end of a right edge, and the row of that of a down edge, is not the first
after_first : (d : Bool) (a b u : ℕ) → d ≡ false → end_x (record { x = a; y = b; down = d }) ≡ u → 1 ≤ u
after_first true a b u p q = cc
after_first false a b u p q = omega arith

below_first : (d : Bool) (a b v : ℕ) → d ≡ true → end_y (record { x = a; y = b; down = d }) ≡ v → 1 ≤ v
below_first true a b v p q = omega arith
below_first false a b v p q = cc

module _ (joining : Joining) (x y : ℕ) (across : x < joining.width) (along : y < joining.height) where
  abbrev place : ℕ
  place = y * joining.width + x

  -- the pixel's left edge joins it to its left neighbour; its upper edge joins it to its upper neighbour
  abbrev JoinsLeft : Type 0
  JoinsLeft = IsTrue (joins joining (right_edge (x - 1) y))

  abbrev JoinsUpper : Type 0
  JoinsUpper = IsTrue (joins joining (down_edge x (y - 1)))

  -- ---- the edges of the two numbers
  module _ (e : Edge) (t : IsTrue (joins joining e)) where
    is_left : edge_rank joining.width e ≡ 2 * place → (1 ≤ x) × (e ≡ right_edge (x - 1) y)
    is_left k =
        let h = ends_at joining.width e x y false (ends_in joining e t).2 across (k ∙ (omega arith)) in
        let l = after_first e.down e.x e.y x h.0 h.1 in
        let back : x ≡ x - 1 + 1 = omega (arith, l) in
        let s = starts e.down false e.x e.y (x - 1) y h.0 (h.1 ∙ back) h.2 in
        (l, right_is e h.0 ∙ ap₂ right_edge s.0 s.1)

    is_upper : edge_rank joining.width e ≡ 2 * place + 1 → (1 ≤ y) × (e ≡ down_edge x (y - 1))
    is_upper k =
        let h = ends_at joining.width e x y true (ends_in joining e t).2 across k in
        let l = below_first e.down e.x e.y y h.0 h.2 in
        let back : y ≡ y - 1 + 1 = omega (arith, l) in
        let s = starts e.down true e.x e.y x (y - 1) h.0 h.1 (h.2 ∙ back) in
        (l, down_is e h.0 ∙ ap₂ down_edge s.0 s.1)

  no_left : (1 ≤ x → JoinsLeft → ⊥) → (e : Edge) → IsTrue (joins joining e) → edge_rank joining.width e ≡ 2 * place → ⊥
  no_left none e t k = let s = is_left e t k in none s.0 (subst (λ (f : Edge). IsTrue (joins joining f)) s.1 t)

  no_upper : (1 ≤ y → JoinsUpper → ⊥) → (e : Edge) → IsTrue (joins joining e) → edge_rank joining.width e ≡ 2 * place + 1 → ⊥
  no_upper none e t k = let s = is_upper e t k in none s.0 (subst (λ (f : Edge). IsTrue (joins joining f)) s.1 t)

  upper_ends : 1 ≤ y → (place - joining.width ≡ (y - 1) * joining.width + x) × (place ≡ (y - 1 + 1) * joining.width + x) × (2 * ((y - 1 + 1) * joining.width + x) + 1 ≡ 2 * place + 1)
  upper_ends l =
      let b = row_before y joining.width l in
      let e : y - 1 + 1 ≡ y = omega (arith, l) in
      let n : (y - 1 + 1) * joining.width ≡ y * joining.width = ap (λ (k : ℕ). k * joining.width) e in
      (omega (arith, b), omega (arith, n), omega (arith, n))

  -- ---- the steps
  module _ (ps : List ℕ) where
    -- the left edge does not join
    pub left_apart : IsFlood joining (2 * place) ps → (1 ≤ x → JoinsLeft → ⊥) → IsFlood joining (2 * place + 1) ps
    left_apart flood none = flood_without joining _ ps flood (no_left none)

    pub left_masked : IsFlood joining (2 * place) ps → joining.mask (x - 1) y ≡ false → IsFlood joining (2 * place + 1) ps
    left_masked flood f = left_apart flood (λ l t. true_and_false (joining.mask (x - 1) y) (ends_open joining (right_edge (x - 1) y) t).0 f)

    -- it joins
    pub left_joins : (flood : IsFlood joining (2 * place) ps) → 1 ≤ x → JoinsLeft → (qs : List ℕ) → length qs ≡ length ps → IsForest qs (root_with flood.root (place - 1) place) → IsFlood joining (2 * place + 1) qs
    left_joins flood l t qs size forest =
        let start : place - 1 ≡ y * joining.width + (x - 1) = omega (arith, l) in
        let end : place ≡ y * joining.width + (x - 1 + 1) = omega (arith, l) in
        let number : 2 * (y * joining.width + (x - 1 + 1)) + 0 ≡ 2 * place = omega (arith, l) in
        flood_with joining _ ps flood qs (right_edge (x - 1) y) (place - 1) place start end number t size forest

    -- so for the upper edge
    pub upper_apart : IsFlood joining (2 * place + 1) ps → (1 ≤ y → JoinsUpper → ⊥) → IsFlood joining (2 * place + 1 + 1) ps
    upper_apart flood none = flood_without joining _ ps flood (no_upper none)

    pub upper_masked : IsFlood joining (2 * place + 1) ps → joining.mask x (y - 1) ≡ false → IsFlood joining (2 * place + 1 + 1) ps
    upper_masked flood f = upper_apart flood (λ l t. true_and_false (joining.mask x (y - 1)) (ends_open joining (down_edge x (y - 1)) t).0 f)

    pub upper_joins : (flood : IsFlood joining (2 * place + 1) ps) → 1 ≤ y → JoinsUpper → (qs : List ℕ) → length qs ≡ length ps → IsForest qs (root_with flood.root (place - joining.width) place) → IsFlood joining (2 * place + 1 + 1) qs
    upper_joins flood l t qs size forest =
        let u = upper_ends l in
        flood_with joining _ ps flood qs (down_edge x (y - 1)) (place - joining.width) place u.0 u.1 u.2 t size forest

    -- the left edge does not join, and the upper one does
    pub upper_joins_alone : (flood : IsFlood joining (2 * place) ps) → (1 ≤ x → JoinsLeft → ⊥) → 1 ≤ y → JoinsUpper → (qs : List ℕ) → length qs ≡ length ps → IsForest qs (root_with flood.root (place - joining.width) place) → IsFlood joining (2 * place + 1 + 1) qs
    upper_joins_alone flood none l t qs size forest =
        let u = upper_ends l in
        flood_then joining _ ps flood (no_left none) qs (down_edge x (y - 1)) (place - joining.width) place u.0 u.1 u.2 t size forest

    -- a masked pixel is joined to none
    pub pixel_masked : IsFlood joining (2 * place) ps → joining.mask x y ≡ false → IsFlood joining (2 * place + 1 + 1) ps
    pixel_masked flood f =
        upper_apart
        (left_apart flood (λ l t.
        let e : x - 1 + 1 ≡ x = omega (arith, l) in
        true_and_false (joining.mask x y) (ap (λ (k : ℕ). joining.mask k y) (sym e) ∙ (ends_open joining (right_edge (x - 1) y) t).1) f))
        (λ l t.
        let e : y - 1 + 1 ≡ y = omega (arith, l) in
        true_and_false (joining.mask x y) (ap (λ (k : ℕ). joining.mask x k) (sym e) ∙ (ends_open joining (down_edge x (y - 1)) t).1) f)

-- ---- three sides of a square are joined, and so is the fourth
module _ (joining : Joining) (x y : ℕ) (across : x < joining.width) (along : y < joining.height) (after : 1 ≤ x) (below : 1 ≤ y)
    (over : IsTrue (joins joining (right_edge (x - 1) (y - 1)))) (left : IsTrue (joins joining (down_edge (x - 1) (y - 1)))) (under : IsTrue (joins joining (right_edge (x - 1) y))) where
  square : (n : ℕ) (root : ℕ → ℕ) → IsFlooded joining n root → 2 * (y * joining.width + x) < n → root ((y - 1) * joining.width + x) ≡ root (y * joining.width + x)
  square n root flooded k =
      let w = joining.width in
      let u = y - 1 in
      let b : u * w + w ≡ y * w = row_before y w below in
      let e : x - 1 + 1 ≡ x = omega (arith, after) in
      let f : u + 1 ≡ y = omega (arith, below) in
      let c : (u + 1) * w ≡ y * w = ap (λ (k : ℕ). k * w) f in
      let first : 2 * (u * w + (x - 1 + 1)) + 0 < n = omega (arith, b, k, e) in
      let second : 2 * ((u + 1) * w + (x - 1)) + 1 < n = omega (arith, c, k, after) in
      let third : 2 * (y * w + (x - 1 + 1)) + 0 < n = omega (arith, k, e) in
      let top : root (u * w + (x - 1)) ≡ root (u * w + (x - 1 + 1)) = flooded.edges (right_edge (x - 1) u) over first in
      let side : root (u * w + (x - 1)) ≡ root ((u + 1) * w + (x - 1)) = flooded.edges (down_edge (x - 1) u) left second in
      let bottom : root (y * w + (x - 1)) ≡ root (y * w + (x - 1 + 1)) = flooded.edges (right_edge (x - 1) y) under third in
      let spot : ℕ → ℕ → ℕ = λ a i. root (a + i) in
      ap (spot (u * w)) (sym e) ∙ sym top ∙ side ∙ ap (λ (a : ℕ). spot a (x - 1)) c ∙ bottom ∙ ap (spot (y * w)) e

  pub upper_closed : (ps : List ℕ) → IsFlood joining (2 * (y * joining.width + x) + 1) ps → IsFlood joining (2 * (y * joining.width + x) + 1 + 1) ps
  upper_closed ps flood = flood_already joining _ ps flood (λ e t k.
      let s = is_upper joining x y across along e t k in
      let f : y - 1 + 1 ≡ y = omega (arith, below) in
      let at_ends : Edge → Type 0 = λ d. flood.root (d.y * joining.width + d.x) ≡ flood.root (end_y d * joining.width + end_x d) in
      subst at_ends (sym s.1) (square (2 * (y * joining.width + x) + 1) flood.root flood.flooded (omega arith) ∙ ap (λ (v : ℕ). flood.root (v * joining.width + x)) (sym f)))
