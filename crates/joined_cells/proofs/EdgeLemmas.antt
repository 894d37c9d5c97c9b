-- What it says that an edge joins its ends, and which edge has a number.
use Rattle.std.proofs.Common.{◌≡◌, ℕ, ◌+◌, ◌*◌, ◌<◌, ap, ◌∙◌, refl, arith, Bool, true, false}
use Rattle.std.specs.Prelude.{IsTrue, ◌&&◌, nat_lt, if◌then◌else◌}
use Rattle.std.proofs.lemmas.Bool.Decides.{nat_tests}
use Rattle.raster_model.specs.declared.edge.Edge.{Edge}
use Rattle.raster_model.specs.Sums.{end_x, end_y, is_edge, right_edge, down_edge}
use Rattle.raster_model.specs.Raster.{has_open_ends}
use Rattle.raster_model.proofs.MaskLemmas.{same_place}
use Rattle.joined_cells.specs.Flood.{edge_rank}
use Rattle.joined_cells.specs.Joining.{Joining, joins}

tests_say : (x y a b w h : ℕ) (k s : Bool) → IsTrue ((((nat_lt x w && nat_lt y h) && (nat_lt a w && nat_lt b h)) && k) && s) → (x < w) × (y < h) × (a < w) × (b < h)
tests_say x y a b w h k s t = (grind (arith, nat_tests), grind (arith, nat_tests), grind (arith, nat_tests), grind (arith, nat_tests))

open_ends : (e m n s : Bool) → IsTrue ((e && (m && n)) && s) → IsTrue m × IsTrue n
open_ends true true true s t = (refl, refl)
open_ends true true false s t = cc
open_ends true false n s t = cc
open_ends false m n s t = cc

test_passed : (e k s : Bool) → IsTrue ((e && k) && s) → IsTrue s
test_passed true true s t = t
test_passed true false s t = cc
test_passed false k s t = cc

all_told : (x y a b w h : ℕ) (m n s : Bool) → x < w → y < h → a < w → b < h → m ≡ true → n ≡ true → s ≡ true → ((((nat_lt x w && nat_lt y h) && (nat_lt a w && nat_lt b h)) && (m && n)) && s) ≡ true
all_told x y a b w h m n s p q i j k l t = grind (arith, nat_tests)

module _ (joining : Joining) (e : Edge) where
  pub joins_from : e.x < joining.width → e.y < joining.height → end_x e < joining.width → end_y e < joining.height → joining.mask e.x e.y ≡ true → joining.mask (end_x e) (end_y e) ≡ true → joining.passes e ≡ true → IsTrue (joins joining e)
  joins_from l m p q s t k = all_told e.x e.y (end_x e) (end_y e) joining.width joining.height (joining.mask e.x e.y) (joining.mask (end_x e) (end_y e)) (joining.passes e) l m p q s t k

  module _ (t : IsTrue (joins joining e)) where
    pub ends_in : (e.x < joining.width) × (e.y < joining.height) × (end_x e < joining.width) × (end_y e < joining.height)
    ends_in = tests_say e.x e.y (end_x e) (end_y e) joining.width joining.height (has_open_ends joining.mask e) (joining.passes e) t

    pub ends_open : IsTrue (joining.mask e.x e.y) × IsTrue (joining.mask (end_x e) (end_y e))
    ends_open = open_ends (is_edge joining.width joining.height e) (joining.mask e.x e.y) (joining.mask (end_x e) (end_y e)) (joining.passes e) t

    pub has_passed : IsTrue (joining.passes e)
    has_passed = test_passed (is_edge joining.width joining.height e) (has_open_ends joining.mask e) (joining.passes e) t

-- ---- the edge of a number
same_half : (p q : ℕ) (d f : Bool) → 2 * p + (if d then 1 else 0) ≡ 2 * q + (if f then 1 else 0) → (p ≡ q) × (d ≡ f)
same_half p q true true e = (omega arith, refl)
same_half p q true false e = absurd (omega arith)
same_half p q false true e = absurd (omega arith)
same_half p q false false e = (omega arith, refl)

-- it ends at a pixel in its direction
pub ends_at : (w : ℕ) (e : Edge) (x y : ℕ) (d : Bool) → end_x e < w → x < w → edge_rank w e ≡ 2 * (y * w + x) + (if d then 1 else 0) → (e.down ≡ d) × (end_x e ≡ x) × (end_y e ≡ y)
ends_at w e x y d l m n =
    let h = same_half (end_y e * w + end_x e) (y * w + x) e.down d n in
    let p = same_place w x y (end_x e) (end_y e) m l h.0 in
    (h.1, p.0, p.1)

-- and starts at the pixel before it
pub starts : (d f : Bool) (x y a b : ℕ) → d ≡ f → (if d then x else x + 1) ≡ (if f then a else a + 1) → (if d then y + 1 else y) ≡ (if f then b + 1 else b) → (x ≡ a) × (y ≡ b)
starts true true x y a b e p q = (p, omega arith)
starts true false x y a b e p q = cc
starts false true x y a b e p q = cc
starts false false x y a b e p q = (omega arith, q)

same_edge : (e f : Edge) → e.x ≡ f.x → e.y ≡ f.y → e.down ≡ f.down → e ≡ f
same_edge e f p q r =
    let at_x : ℕ → Edge = λ a. record { x = a; y = e.y; down = e.down } in
    let at_y : ℕ → Edge = λ a. record { x = f.x; y = a; down = e.down } in
    let at_down : Bool → Edge = λ a. record { x = f.x; y = f.y; down = a } in
    ap at_x p ∙ ap at_y q ∙ ap at_down r

pub one_number : (w : ℕ) (e f : Edge) → end_x e < w → end_x f < w → edge_rank w e ≡ edge_rank w f → e ≡ f
one_number w e f l m n =
    let h = ends_at w e (end_x f) (end_y f) f.down l m n in
    let p = starts e.down f.down e.x e.y f.x f.y h.0 h.1 h.2 in
    same_edge e f p.0 p.1 h.0

-- an edge by its first pixel
pub down_is : (e : Edge) → e.down ≡ true → e ≡ down_edge e.x e.y
down_is e h = let with : Bool → Edge = λ d. record { x = e.x; y = e.y; down = d } in ap with h

pub right_is : (e : Edge) → e.down ≡ false → e ≡ right_edge e.x e.y
right_is e h = let with : Bool → Edge = λ d. record { x = e.x; y = e.y; down = d } in ap with h
