-- A flood within tiles passes a pixel.
use Rattle.std.proofs.Common.{◌≡◌, ℕ, ◌+◌, ◌-◌, ◌*◌, ◌<◌, ◌≤◌, sym, ◌∙◌, ap, arith, Bool, true, List, length}
use Rattle.std.specs.Prelude.{IsTrue, ◌==◌, not}
use Rattle.std.proofs.lemmas.Bool.Decides.{nat_tests}
use Rattle.raster_model.specs.declared.edge.Edge.{Edge}
use Rattle.raster_model.specs.Raster.{Raster}
use Rattle.raster_model.specs.Sums.{Field, end_x, end_y, right_edge, down_edge}
use Rattle.joined_cells.proofs.EdgeLemmas.{has_passed, joins_from}
use Rattle.joined_cells.proofs.PixelLemmas.{left_apart, left_joins, upper_apart, upper_closed, upper_joins, upper_joins_alone}
use Rattle.joined_cells.specs.Flood.{IsFlood}
use Rattle.joined_cells.specs.Forest.{IsForest, root_with}
use Rattle.joined_cells.specs.Joining.{joins, tiles_joined}

same_passes : (s t : ℕ) → s ≡ t → not (not (s == t)) ≡ true
same_passes s t e = grind (arith, nat_tests)

passes_same : (s t : ℕ) → IsTrue (not (not (s == t))) → s ≡ t
passes_same s t h = grind (arith, nat_tests)

module _ (r : Raster) (mask : Field Bool) where
  -- ---- the edges that join
  pub inner_open : (e : Edge) → e.x < r.width → e.y < r.height → end_x e < r.width → end_y e < r.height → r.tile e.x e.y ≡ r.tile (end_x e) (end_y e) → mask e.x e.y ≡ true → mask (end_x e) (end_y e) ≡ true → IsTrue (joins (tiles_joined r mask) e)
  inner_open e l m p q n s t = joins_from (tiles_joined r mask) e l m p q s t (same_passes (r.tile e.x e.y) (r.tile (end_x e) (end_y e)) n)

  pub ends_same : (e : Edge) → IsTrue (joins (tiles_joined r mask) e) → r.tile e.x e.y ≡ r.tile (end_x e) (end_y e)
  ends_same e t = passes_same (r.tile e.x e.y) (r.tile (end_x e) (end_y e)) (has_passed (tiles_joined r mask) e t)

  module _ (x y : ℕ) (across : x < r.width) (along : y < r.height) where
    left_open : 1 ≤ x → r.tile (x - 1) y ≡ r.tile x y → mask (x - 1) y ≡ true → mask x y ≡ true → IsTrue (joins (tiles_joined r mask) (right_edge (x - 1) y))
    left_open l n s t =
        let e : x - 1 + 1 ≡ x = omega (arith, l) in
        inner_open (right_edge (x - 1) y) (omega (arith, across)) along (omega (arith, across, e)) along (n ∙ ap (λ (k : ℕ). r.tile k y) (sym e)) s (ap (λ (k : ℕ). mask k y) e ∙ t)

    upper_open : 1 ≤ y → r.tile x (y - 1) ≡ r.tile x y → mask x (y - 1) ≡ true → mask x y ≡ true → IsTrue (joins (tiles_joined r mask) (down_edge x (y - 1)))
    upper_open l n s t =
        let e : y - 1 + 1 ≡ y = omega (arith, l) in
        inner_open (down_edge x (y - 1)) across (omega (arith, along)) across (omega (arith, along, e)) (n ∙ ap (λ (k : ℕ). r.tile x k) (sym e)) s (ap (λ (k : ℕ). mask x k) e ∙ t)

    other_left : (1 ≤ x → r.tile (x - 1) y ≡ r.tile x y → ⊥) → 1 ≤ x → IsTrue (joins (tiles_joined r mask) (right_edge (x - 1) y)) → ⊥
    other_left none l t =
        let e : x - 1 + 1 ≡ x = omega (arith, l) in
        none l (ends_same (right_edge (x - 1) y) t ∙ ap (λ (k : ℕ). r.tile k y) e)

    other_above : (1 ≤ y → r.tile x (y - 1) ≡ r.tile x y → ⊥) → 1 ≤ y → IsTrue (joins (tiles_joined r mask) (down_edge x (y - 1))) → ⊥
    other_above none l t =
        let e : y - 1 + 1 ≡ y = omega (arith, l) in
        none l (ends_same (down_edge x (y - 1)) t ∙ ap (λ (k : ℕ). r.tile x k) e)

    -- ---- the steps
    module _ (ps : List ℕ) where
      -- no left neighbour has its tile
      pub left_none : IsFlood (tiles_joined r mask) (2 * (y * r.width + x)) ps → (1 ≤ x → r.tile (x - 1) y ≡ r.tile x y → ⊥) → IsFlood (tiles_joined r mask) (2 * (y * r.width + x) + 1) ps
      left_none flood none = left_apart (tiles_joined r mask) x y across along ps flood (other_left none)

      pub left_joined : (flood : IsFlood (tiles_joined r mask) (2 * (y * r.width + x)) ps) → 1 ≤ x → r.tile (x - 1) y ≡ r.tile x y → mask (x - 1) y ≡ true → mask x y ≡ true → (qs : List ℕ) → length qs ≡ length ps → IsForest qs (root_with flood.root (y * r.width + x - 1) (y * r.width + x)) → IsFlood (tiles_joined r mask) (2 * (y * r.width + x) + 1) qs
      left_joined flood l n s t = left_joins (tiles_joined r mask) x y across along ps flood l (left_open l n s t)

      -- no upper neighbour has its tile
      pub upper_none : IsFlood (tiles_joined r mask) (2 * (y * r.width + x) + 1) ps → (1 ≤ y → r.tile x (y - 1) ≡ r.tile x y → ⊥) → IsFlood (tiles_joined r mask) (2 * (y * r.width + x) + 1 + 1) ps
      upper_none flood none = upper_apart (tiles_joined r mask) x y across along ps flood (other_above none)

      pub upper_joined : (flood : IsFlood (tiles_joined r mask) (2 * (y * r.width + x) + 1) ps) → 1 ≤ y → r.tile x (y - 1) ≡ r.tile x y → mask x (y - 1) ≡ true → mask x y ≡ true → (qs : List ℕ) → length qs ≡ length ps → IsForest qs (root_with flood.root (y * r.width + x - r.width) (y * r.width + x)) → IsFlood (tiles_joined r mask) (2 * (y * r.width + x) + 1 + 1) qs
      upper_joined flood l n s t = upper_joins (tiles_joined r mask) x y across along ps flood l (upper_open l n s t)

      -- no left neighbour has its tile, and the upper one is joined to it
      pub upper_alone : (flood : IsFlood (tiles_joined r mask) (2 * (y * r.width + x)) ps) → (1 ≤ x → r.tile (x - 1) y ≡ r.tile x y → ⊥) → 1 ≤ y → r.tile x (y - 1) ≡ r.tile x y → mask x (y - 1) ≡ true → mask x y ≡ true → (qs : List ℕ) → length qs ≡ length ps → IsForest qs (root_with flood.root (y * r.width + x - r.width) (y * r.width + x)) → IsFlood (tiles_joined r mask) (2 * (y * r.width + x) + 1 + 1) qs
      upper_alone flood none l n s t = upper_joins_alone (tiles_joined r mask) x y across along ps flood (other_left none) l (upper_open l n s t)

  -- a square of one tile
  pub upper_already : (x y : ℕ) → x < r.width → y < r.height → 1 ≤ x → 1 ≤ y → r.tile (x - 1) y ≡ r.tile x y → r.tile x (y - 1) ≡ r.tile x y → r.tile (x - 1) (y - 1) ≡ r.tile x y → mask x y ≡ true → mask (x - 1) y ≡ true → mask x (y - 1) ≡ true → mask (x - 1) (y - 1) ≡ true
      → (ps : List ℕ) → IsFlood (tiles_joined r mask) (2 * (y * r.width + x) + 1) ps → IsFlood (tiles_joined r mask) (2 * (y * r.width + x) + 1 + 1) ps
  upper_already x y across along after below own upper corner m m_own m_upper m_corner =
      upper_closed (tiles_joined r mask) x y across along after below
      (left_open x (y - 1) across (omega (arith, along)) after (corner ∙ sym upper) m_corner m_upper)
      (upper_open (x - 1) y (omega (arith, across)) along below (corner ∙ sym own) m_corner m_own)
      (left_open x y across along after own m_own m)
