-- What a sheet holds for an edge is the rule's number.
use Rattle.std.proofs.Common.{◌≡◌, ℕ, ◌+◌, ◌-◌, ◌*◌, ◌<◌, arith, Bool, true, false, refl}
use Rattle.std.specs.Prelude.{IsTrue, nat_lt, ◌&&◌, slice_index, if◌then◌else◌}
use Rattle.std.proofs.lemmas.Bool.Decides.{nat_tests}
use Rattle.std.proofs.lemmas.Nat.{mul-add-lt}
use Rattle.raster_model.specs.declared.edge.Edge.{Edge}
use Rattle.raster_model.specs.declared.sheet.Sheet.{Sheet}
use Rattle.raster_model.specs.Sums.{is_edge}
use Rattle.raster_model.specs.Weights.{edge_weight, stored_weight}

pub down_tells : (w h x y : ℕ) → IsTrue ((nat_lt x w && nat_lt y h) && (nat_lt x w && nat_lt (y + 1) h)) → (x < w) × (y < h - 1)
down_tells w h x y t = (grind (arith, nat_tests), grind (arith, nat_tests))

pub right_tells : (w h x y : ℕ) → IsTrue ((nat_lt x w && nat_lt y h) && (nat_lt (x + 1) w && nat_lt y h)) → (x < w - 1) × (y < h)
right_tells w h x y t = (grind (arith, nat_tests), grind (arith, nat_tests))

-- the place of a down edge among the down edges, and of a right edge among the right edges
pub down_place : (w h : ℕ) (e : Edge) → e.down ≡ true → IsTrue (is_edge w h e) → e.y * w + e.x < w * (h - 1)
down_place w h e d i =
    let t = down_tells w h e.x e.y (rw d at i) in
    mul-add-lt e.y w e.x (h - 1) t.1 t.0

pub right_place : (w h : ℕ) (e : Edge) → e.down ≡ false → IsTrue (is_edge w h e) → e.y * (w - 1) + e.x < (w - 1) * h
right_place w h e d i =
    let t = right_tells w h e.x e.y (rw d at i) in
    mul-add-lt e.y (w - 1) e.x h t.1 t.0

if_true : (t : Bool) (a b n : ℕ) → t ≡ true → (if t then a else b) ≡ n → a ≡ n
if_true true a b n e h = h
if_true false a b n e h = cc

if_false : (t : Bool) (a b n : ℕ) → t ≡ false → (if t then a else b) ≡ n → b ≡ n
if_false false a b n e h = h
if_false true a b n e h = cc

module _ (s : Sheet) (e : Edge) (i : IsTrue (is_edge s.phase.now.width s.phase.now.height e)) where
  pub stored_is : stored_weight s.phase.now.width s.edges.now e ≡ edge_weight s.rule s.weights.now e
  stored_is =
      let wide : s.weights.now.width ≡ s.phase.now.width = s.same_width in
      let high : s.weights.now.height ≡ s.phase.now.height = s.same_height in
      let at = rw (← wide, ← high) at i in
      rw (← wide) (s.weighed.weighed e at)

  pub down_is : e.down ≡ true → slice_index s.edges.now.down.items (e.y * s.phase.now.width + e.x) ≡ edge_weight s.rule s.weights.now e
  down_is d = if_true e.down (slice_index s.edges.now.down.items (e.y * s.phase.now.width + e.x)) (slice_index s.edges.now.right.items (e.y * (s.phase.now.width - 1) + e.x)) (edge_weight s.rule s.weights.now e) d stored_is

  pub right_is : e.down ≡ false → slice_index s.edges.now.right.items (e.y * (s.phase.now.width - 1) + e.x) ≡ edge_weight s.rule s.weights.now e
  right_is d = if_false e.down (slice_index s.edges.now.down.items (e.y * s.phase.now.width + e.x)) (slice_index s.edges.now.right.items (e.y * (s.phase.now.width - 1) + e.x)) (edge_weight s.rule s.weights.now e) d stored_is

  pub down_within : e.down ≡ true → e.y * s.phase.now.width + e.x < s.edges.now.down.len
  down_within d = omega (arith, down_place s.phase.now.width s.phase.now.height e d i, s.weighed.downs, count s.weights.now.width s.weights.now.height s.phase.now.width s.phase.now.height s.same_width s.same_height)
    where
      count : (a b w h : ℕ) → a ≡ w → b ≡ h → a * (b - 1) ≡ w * (h - 1)
      count a b w h p q = rw (p, q) refl

  pub right_within : e.down ≡ false → e.y * (s.phase.now.width - 1) + e.x < s.edges.now.right.len
  right_within d = omega (arith, right_place s.phase.now.width s.phase.now.height e d i, s.weighed.rights, count s.weights.now.width s.weights.now.height s.phase.now.width s.phase.now.height s.same_width s.same_height)
    where
      count : (a b w h : ℕ) → a ≡ w → b ≡ h → (a - 1) * b ≡ (w - 1) * h
      count a b w h p q = rw (p, q) refl
