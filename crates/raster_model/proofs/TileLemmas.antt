-- Pixels, tiles and windows.
use Rattle.std.proofs.Common.{◌≡◌, ℕ, ◌+◌, ◌-◌, ◌*◌, ◌/◌, ◌%◌, ◌<◌, ◌≤◌, sym, ◌∙◌, ap, ap₂, refl, arith, min}
use Rattle.std.specs.Prelude.{◌↔◌}
use Rattle.std.proofs.lemmas.Nat.{mul-le, mul-add-lt, div_below, div-add-mod', mod_below, div-mul-add, mod-mul-add}
use Rattle.raster_model.specs.declared.tiling.Tiling.{Tiling}
use Rattle.raster_model.specs.declared.tiling.Window.{Window}
use Rattle.raster_model.specs.declared.scene.Scene.{Scene}
use Rattle.raster_model.specs.Scene.{raster_of}
use Rattle.raster_model.specs.Tiles.{columns_of_tiles, rows_of_tiles, tiles_of, tile_at, window_of, IsWindowOf, TilesAreNumbered, TilesAreSquares, PixelsHaveOneWindow, IsTileWindow, IsWindowIn}

-- the place of x in blocks of d
pub in_block : (x d q : ℕ) → 0 < d → x / d ≡ q → (q * d ≤ x) × (x < q * d + d)
in_block x d q p e =
    let s = div-add-mod' x d in
    let m = mod_below x d p in
    let f : x / d * d ≡ q * d = ap (λ (n : ℕ). n * d) e in
    (omega (arith, s, m, f), omega (arith, s, m, f))

pub from_block : (x d q : ℕ) → 0 < d → q * d ≤ x → x < q * d + d → x / d ≡ q
from_block x d q p l m =
    let r = x - q * d in
    let e : x ≡ q * d + r = omega arith in
    ap (λ (n : ℕ). n / d) e ∙ div-mul-add q d r (omega arith)

-- the blocks of d that a numbers reach
pub block_below : (x a d : ℕ) → 0 < d → x < a → x / d < (a + d - 1) / d
block_below x a d p l =
    let s = div-add-mod' (a + d - 1) d in
    let m = mod_below (a + d - 1) d p in
    div_below x d ((a + d - 1) / d) p (omega (arith, s, m))

pub block_start : (q a d : ℕ) → 0 < d → q < (a + d - 1) / d → q * d < a
block_start q a d p l =
    let s = div-add-mod' (a + d - 1) d in
    let m : (q + 1) * d ≤ (a + d - 1) / d * d = grind arith in
    omega (arith, s, m)

pub split_is : (a b t n : ℕ) → b < n → (a * n + b ≡ t) ↔ ((a ≡ t / n) × (b ≡ t % n))
split_is a b t n l = (
  λ e. (sym (ap (λ (m : ℕ). m / n) (sym e) ∙ div-mul-add a n b l), sym (ap (λ (m : ℕ). m % n) (sym e) ∙ mod-mul-add a n b l)),
  λ h. ap₂ (λ (u v : ℕ). u * n + v) h.0 h.1 ∙ div-add-mod' t n,
)

pub window_is : (g : Tiling) (tile : ℕ) (v : Window) → tile < tiles_of g
    → v.x0 ≡ tile % columns_of_tiles g * g.side → v.y0 ≡ tile / columns_of_tiles g * g.side
    → v.x1 ≡ min (v.x0 + g.side) g.width - 1 → v.y1 ≡ min (v.y0 + g.side) g.height - 1 → IsWindowOf g tile v
window_is g tile v l ex ey fx fy =
    let p : 0 < g.side = omega arith in
    let some : 0 < columns_of_tiles g = omega (arith, block_below 0 g.width g.side p (omega arith)) in
    let cx = block_start (tile % columns_of_tiles g) g.width g.side p (mod_below tile (columns_of_tiles g) some) in
    let cy = block_start (tile / columns_of_tiles g) g.height g.side p (div_below tile (columns_of_tiles g) (rows_of_tiles g) some l) in
    record {
      across = (omega (arith, cx, ex, fx), omega (arith, cx, ex, fx));
      along = (omega (arith, cy, ey, fy), omega (arith, cy, ey, fy));
      pixels = λ x y h k. (
        (λ e.
            let q = (split_is (y / g.side) (x / g.side) tile (columns_of_tiles g) (block_below x g.width g.side p h)).0 e in
            let bx = in_block x g.side (tile % columns_of_tiles g) p q.1 in
            let by = in_block y g.side (tile / columns_of_tiles g) p q.0 in
            (omega (arith, bx, ex, fx), omega (arith, bx, ex, fx), omega (arith, by, ey, fy), omega (arith, by, ey, fy))),
        (λ w.
            let bx = from_block x g.side (tile % columns_of_tiles g) p (omega (arith, w, ex, fx)) (omega (arith, w, ex, fx)) in
            let by = from_block y g.side (tile / columns_of_tiles g) p (omega (arith, w, ey, fy)) (omega (arith, w, ey, fy)) in
            (split_is (y / g.side) (x / g.side) tile (columns_of_tiles g) (block_below x g.width g.side p h)).1 (by, bx)),
      );
    }

pub window_of-pixels : (g : Tiling) (tile : ℕ) → tile < tiles_of g → IsWindowOf g tile (window_of g tile)
unfolding window_of
window_of-pixels g tile l = window_is g tile (window_of g tile) l refl refl refl refl

pub tiles_are_numbered : TilesAreNumbered
tiles_are_numbered g x y l m =
    let p : 0 < g.side = omega (arith, g.sides) in
    let e : (y / g.side) * columns_of_tiles g + x / g.side < columns_of_tiles g * rows_of_tiles g = mul-add-lt (y / g.side) (columns_of_tiles g) (x / g.side) (rows_of_tiles g) (block_below y g.height g.side p m) (block_below x g.width g.side p l) in
    grind arith

pub tiles_are_squares : TilesAreSquares
tiles_are_squares g x y a b l m =
    let p : 0 < g.side = omega (arith, g.sides) in
    let u = block_below x g.width g.side p l in
    let v = block_below a g.width g.side p m in (
      λ e. (
        sym (mod-mul-add (y / g.side) (columns_of_tiles g) (x / g.side) u) ∙ ap (λ (n : ℕ). n % columns_of_tiles g) e ∙ mod-mul-add (b / g.side) (columns_of_tiles g) (a / g.side) v,
        sym (div-mul-add (y / g.side) (columns_of_tiles g) (x / g.side) u) ∙ ap (λ (n : ℕ). n / columns_of_tiles g) e ∙ div-mul-add (b / g.side) (columns_of_tiles g) (a / g.side) v,
      ),
      λ h. ap₂ (λ (i j : ℕ). i * columns_of_tiles g + j) h.1 h.0,
    )

pub pixels_have_one_window : PixelsHaveOneWindow
pixels_have_one_window g x y l m = (
  ((window_of-pixels g (tile_at g x y) (tiles_are_numbered g x y l m)).pixels x y l m).0 refl,
  λ t k w. sym (((window_of-pixels g t k).pixels x y l m).1 w),
)

-- no more blocks than numbers, and no more tiles than pixels
blocks_at_most : (a d : ℕ) → 0 < d → (a + d - 1) / d ≤ a
blocks_at_most a d p =
    let m : a * 1 ≤ a * d = mul-le a 1 a d (omega arith) p in
    omega (arith, div_below (a + d - 1) d (a + 1) p (omega (arith, m)))

pub few_tiles : (g : Tiling) → tiles_of g ≤ 4194304
few_tiles g =
    let p : 0 < g.side = omega (arith, g.sides) in
    omega (arith, g.few, mul-le (rows_of_tiles g) (columns_of_tiles g) g.height g.width (blocks_at_most g.height g.side p) (blocks_at_most g.width g.side p))

pub window_in : (g : Tiling) (tile : ℕ) (v : Window) → IsWindowOf g tile v → IsWindowIn g.width g.height v
window_in g tile v is = record { across = is.across; along = is.along }

-- a tile of a scene is a tile of its raster
pub scene_window : (s : Scene) (tile : ℕ) (v : Window) → IsWindowOf s.tiling tile v → IsTileWindow (raster_of s) tile v
scene_window s tile v is = record {
  across = (is.across.0, omega (arith, is.across, s.same_width));
  along = (is.along.0, omega (arith, is.along, s.same_height));
  pixels = λ x y l m. is.pixels x y (omega (arith, l, s.same_width)) (omega (arith, m, s.same_height));
}
