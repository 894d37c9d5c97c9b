-- What the edges that start at a pixel add to the cost of a tile, as code adds it up.
use Rattle.std.proofs.Common.{◌≡◌, ℕ, ◌+◌, ◌*◌, ◌^◌, ◌<◌, ◌≤◌, arith, refl, Fits, inl, inr}
use Rattle.std.specs.Int.{w128}
use Rattle.std.specs.Prelude.{ℤ, pos, Bool, IsTrue, ◌&&◌, nat_lt}
use Rattle.std.proofs.lemmas.Bool.Decides.{nat_tests}
use Rattle.std.proofs.lemmas.Int.{ints}
use Rattle.raster_model.specs.Sums.{Field, is_edge, right_edge, down_edge}
use Rattle.raster_model.specs.Raster.{edge_cost, has_open_ends}
use Rattle.raster_model.specs.Tiles.{IsWithin}
use Rattle.raster_model.specs.Heights.{KnowsEnds}
use Rattle.certificates.specs.declared.tile.Tile.{Tile}
use Rattle.certificates.specs.TileWords.{AreColumnsOpen, AreEndsOpen, AreRowsOpen, IsColumnOpen, KnowsTile, cost_at, held_mask, held_raster, surface_of_cycles}
use Rattle.raster_model.proofs.WindowCosts.{cost_from_is}
use Rattle.std.proofs.lemmas.Bool.{and_parts}
use Rattle.sums_and_lists.proofs.Orders.{below_or_last}
use Rattle.sums_and_lists.specs.Sums.{where_true}

-- the edges that start at a pixel of the window and end in it are edges of the raster
pub is_right : (w h x y : ℕ) → x + 1 < w → y < h → IsTrue (is_edge w h (right_edge x y))
is_right w h x y l m = grind (arith, nat_tests)

pub is_lower : (w h x y : ℕ) → x < w → y + 1 < h → IsTrue (is_edge w h (down_edge x y))
is_lower w h x y l m = grind (arith, nat_tests)

module _ (k : Tile) (knows : Field Bool) (known : KnowsTile k knows) where
  -- an open pixel of the window is known
  at_pixel : (x y : ℕ) → IsWithin k.window x y → IsTrue (held_mask k x y) → IsTrue (knows x y)
  at_pixel x y w o =
      known x y (omega (arith, w, k.pixels.across)) (omega (arith, w, k.pixels.along))
      ((k.pixels.pixels x y (omega (arith, w, k.pixels.across)) (omega (arith, w, k.pixels.along))).1 w) o

  -- what the costs of those edges ask for
  pub right_asks : (x y : ℕ) → IsWithin k.window x y → x < k.window.x1 → IsTrue (is_edge k.sheet.phase.now.width k.sheet.phase.now.height (right_edge x y)) × KnowsEnds (held_mask k) knows (right_edge x y)
  right_asks x y w l = (
    is_right k.sheet.phase.now.width k.sheet.phase.now.height x y (omega (arith, l, k.pixels.across)) (omega (arith, w, k.pixels.along)),
    λ o. (let b = and_parts (held_mask k x y) (held_mask k (x + 1) y) o in (at_pixel x y w b.0, at_pixel (x + 1) y (omega (arith, w), omega (arith, l), w.2, w.3) b.1)),
  )

  pub lower_asks : (x y : ℕ) → IsWithin k.window x y → y < k.window.y1 → IsTrue (is_edge k.sheet.phase.now.width k.sheet.phase.now.height (down_edge x y)) × KnowsEnds (held_mask k) knows (down_edge x y)
  lower_asks x y w l = (
    is_lower k.sheet.phase.now.width k.sheet.phase.now.height x y (omega (arith, w, k.pixels.across)) (omega (arith, l, k.pixels.along)),
    λ o. (let b = and_parts (held_mask k x y) (held_mask k x (y + 1)) o in (at_pixel x y w b.0, at_pixel x (y + 1) (w.0, w.1, omega (arith, w), omega (arith, l)) b.1)),
  )

-- where the tile's pixels in a row and in the next one are open, so are the ends of the edges that start in the row
pub both_true : (a b : Bool) → IsTrue a → IsTrue b → IsTrue (a && b)
both_true a b p q = rw (p, q) refl

module _ (k : Tile) (x y : ℕ) (clear : AreRowsOpen k y) (w : IsWithin k.window x y) where
  pub right_open : x < k.window.x1 → IsTrue (has_open_ends (held_mask k) (right_edge x y))
  right_open l =
      both_true (held_mask k x y) (held_mask k (x + 1) y) (clear x y w (omega arith) (omega arith)) (clear (x + 1) y (omega (arith, w), omega (arith, l), w.2, w.3) (omega arith) (omega arith))

  pub lower_open : y < k.window.y1 → IsTrue (has_open_ends (held_mask k) (down_edge x y))
  lower_open l =
      both_true (held_mask k x y) (held_mask k x (y + 1)) (clear x y w (omega arith) (omega arith)) (clear x (y + 1) (w.0, w.1, omega (arith, w), omega (arith, l)) (omega arith) (omega arith))

-- and so are those of a pixel's edges where the pixel's column and the next one are open
pub ends_of_columns : (k : Tile) (a n x y : ℕ) → AreColumnsOpen k y a n → a ≤ x → x < n → AreEndsOpen k x y
ends_of_columns k a n x y columns l m =
    let here = columns x l (omega (arith, m)) in
    let next = columns (x + 1) (omega (arith, l)) (omega (arith, m)) in
    (λ _. both_true (held_mask k x y) (held_mask k (x + 1) y) here.0 next.0, λ _. both_true (held_mask k x y) (held_mask k x (y + 1)) here.0 here.1)

pub columns_more : (k : Tile) (a n y : ℕ) → AreColumnsOpen k y a n → IsColumnOpen k y (n + 1) → AreColumnsOpen k y a (n + 1)
columns_more k a n y columns here c l m =
    elim (below_or_last c (n + 1) (omega (arith, m))) [ inl b ↦ columns c l (omega (arith, b)) | inr b ↦ rw b here ]

pub one_column : (k : Tile) (a y : ℕ) → IsColumnOpen k y a → AreColumnsOpen k y a a
one_column k a y here c l m = let e : c ≡ a = omega (arith, l, m) in rw e here

-- a cost that is worked out, or 0
pub cost_or_none : (a b : ℕ) → a ≡ b → b ≤ 1048560 * (2 ^ 49 + 1) → a ≤ 1048560 * (2 ^ 49 + 1)
cost_or_none a b e l = omega (arith, e, l)

pub no_cost : (a : ℕ) → a ≡ 0 → a ≤ 1048560 * (2 ^ 49 + 1)
no_cost a e = omega (arith, e)

pub costs_fit : (a b : ℕ) → a ≤ 1048560 * (2 ^ 49 + 1) → b ≤ 1048560 * (2 ^ 49 + 1) → Fits w128 (a + b) × (a + b ≤ 2 * 1048560 * (2 ^ 49 + 1))
costs_fit a b k l = (record { fits = omega (arith, k, l) }, omega (arith, k, l))

pub both_costs : (k : Tile) (cycles : Field ℤ) (x y a b : ℕ) → IsWithin k.window x y
    → pos a ≡ where_true (nat_lt x k.window.x1) (edge_cost (held_raster k) (held_mask k) (surface_of_cycles k cycles) (right_edge x y)) → pos b ≡ where_true (nat_lt y k.window.y1) (edge_cost (held_raster k) (held_mask k) (surface_of_cycles k cycles) (down_edge x y))
    → pos (a + b) ≡ cost_at k cycles x y
both_costs k cycles x y a b w p q = omega (arith, ints, cost_from_is (held_raster k) (held_mask k) (surface_of_cycles k cycles) k.number k.window k.pixels x y w, p, q)
