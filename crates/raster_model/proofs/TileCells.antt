-- The cells of a tile, by its window, for loops of the crates above.
use Rattle.std.proofs.Common.{◌≡◌, ℕ, ◌+◌, ◌-◌, ◌*◌, ◌<◌, ◌≤◌, ap₂, refl, arith, Bool, true, false}
use Rattle.std.specs.Prelude.{ℤ, pos, ◌==◌, ◌&&◌, nat_lt}
use Rattle.std.proofs.lemmas.Bool.Decides.{nat_tests}
use Rattle.raster_model.specs.declared.tiling.Window.{Window}
use Rattle.raster_model.specs.Raster.{Raster}
use Rattle.raster_model.specs.Sums.{Field}
use Rattle.raster_model.specs.Cells.{cells_in_row, cells_before, cell_count}
use Rattle.raster_model.specs.Order.{IsCellAt, CellsFollowTheWindow}
use Rattle.raster_model.specs.Certificates.{is_cell, faces_of_tile}
use Rattle.raster_model.specs.Tiles.{IsWithin, IsTileWindow}
use Rattle.raster_model.specs.Scene.{raster_of}
use Rattle.raster_model.proofs.TileLemmas.{scene_window}
use Rattle.sums_and_lists.specs.Sums.{count_below, one_if}
use Rattle.sums_and_lists.proofs.CountLemmas.{count_below-none, count_below-zeros, count_between, count_all}
use Rattle.sums_and_lists.proofs.SumLemmas.{no_number, picked}

all_true : (w h x y t a b c d : ℕ) → x + 1 < w → y + 1 < h → a ≡ t → b ≡ t → c ≡ t → d ≡ t → (nat_lt (x + 1) w && nat_lt (y + 1) h && (a == t) && (b == t) && (c == t) && (d == t)) ≡ true
all_true w h x y t a b c d p q e f i j = grind (arith, nat_tests)

all_tell : (w h x y t a b c d : ℕ) → (nat_lt (x + 1) w && nat_lt (y + 1) h && (a == t) && (b == t) && (c == t) && (d == t)) ≡ true → (x + 1 < w) × (y + 1 < h) × (a ≡ t) × (d ≡ t)
all_tell w h x y t a b c d e = (grind (arith, nat_tests), grind (arith, nat_tests), grind (arith, nat_tests), grind (arith, nat_tests))

module _ (r : Raster) (tile : ℕ) (v : Window) (is : IsTileWindow r tile v) where
  pub cell_inside : (x y : ℕ) → IsCellAt v x y → is_cell r tile x y ≡ true
  cell_inside x y c =
      let at : (a b : ℕ) → IsWithin v a b → r.tile a b ≡ tile = λ a b w. (is.pixels a b (omega (arith, w, is.across)) (omega (arith, w, is.along))).1 w in
      all_true r.width r.height x y tile (r.tile x y) (r.tile (x + 1) y) (r.tile x (y + 1)) (r.tile (x + 1) (y + 1)) (omega (arith, c, is.across)) (omega (arith, c, is.along)) (at x y (omega (arith, c))) (at (x + 1) y (omega (arith, c))) (at x (y + 1) (omega (arith, c))) (at (x + 1) (y + 1) (omega (arith, c)))

  pub cell_outside : (x y : ℕ) → (IsCellAt v x y → ⊥) → is_cell r tile x y ≡ false
  cell_outside x y n = go (is_cell r tile x y) refl
    where
      go : (b : Bool) → is_cell r tile x y ≡ b → b ≡ false
      go true e =
          let t = all_tell r.width r.height x y tile (r.tile x y) (r.tile (x + 1) y) (r.tile x (y + 1)) (r.tile (x + 1) (y + 1)) e in
          let a = (is.pixels x y (omega (arith, t)) (omega (arith, t))).0 t.2 in
          let d = (is.pixels (x + 1) (y + 1) (omega (arith, t)) (omega (arith, t))).0 t.3 in
          absurd (n (omega (arith, a, d)))
      go false e = refl

  pub face_inside : (f : Field ℤ) (x y : ℕ) → IsCellAt v x y → faces_of_tile r tile f x y ≡ f x y
  face_inside f x y c = picked (is_cell r tile x y) (f x y) (cell_inside x y c)

  pub face_outside : (f : Field ℤ) (x y : ℕ) → (IsCellAt v x y → ⊥) → faces_of_tile r tile f x y ≡ pos 0
  face_outside f x y n = no_number (is_cell r tile x y) (f x y) (cell_outside x y n)

  -- ---- the cells are listed in row order of the window
  one_inside : (x y : ℕ) → IsCellAt v x y → one_if (is_cell r tile x y) ≡ 1
  one_inside x y c = rw (cell_inside x y c) refl

  none_outside : (x y : ℕ) → (IsCellAt v x y → ⊥) → one_if (is_cell r tile x y) ≡ 0
  none_outside x y n = rw (cell_outside x y n) refl

  row_part : (x y : ℕ) → v.y0 ≤ y → y < v.y1 → v.x0 ≤ x → x ≤ v.x1 → cells_in_row r tile x y ≡ x - v.x0
  row_part x y a b l m =
      omega (arith, count_between v.x0 v.x1 x 1 (λ i. one_if (is_cell r tile i y)) l m (λ i p. none_outside i y (λ c. omega (arith, c))) (λ i p q. one_inside i y (p, q, a, b)))

  row_all : (y : ℕ) → v.y0 ≤ y → y < v.y1 → cells_in_row r tile r.width y ≡ v.x1 - v.x0
  row_all y a b =
      omega (arith, count_all v.x0 v.x1 r.width 1 (λ i. one_if (is_cell r tile i y)) is.across.0 (omega (arith, is.across)) (λ i p. none_outside i y (λ c. omega (arith, c))) (λ i p q. one_inside i y (p, q, a, b)) (λ i p q. none_outside i y (λ c. omega (arith, c))))

  row_none : (y : ℕ) → ((v.y0 ≤ y) × (y < v.y1) → ⊥) → cells_in_row r tile r.width y ≡ 0
  row_none y n = count_below-zeros r.width (λ i. one_if (is_cell r tile i y)) (λ i p. none_outside i y (λ c. n (c.2, c.3)))

  pub cells_before-is : (x y : ℕ) → IsCellAt v x y → cells_before r tile x y ≡ (y - v.y0) * (v.x1 - v.x0) + (x - v.x0)
  cells_before-is x y c =
      let rows : count_below y (cells_in_row r tile r.width) ≡ (y - v.y0) * (v.x1 - v.x0) =
      count_between v.y0 v.y1 y (v.x1 - v.x0) (cells_in_row r tile r.width) c.2 (omega (arith, c)) (λ i p. row_none i (λ o. omega (arith, o))) (λ i p q. row_all i p q) in
      let row : cells_in_row r tile x y ≡ x - v.x0 = row_part x y c.2 c.3 c.0 (omega (arith, c)) in
      ap₂ (λ (m n : ℕ). m + n) rows row

  pub cell_count-is : cell_count r tile ≡ (v.y1 - v.y0) * (v.x1 - v.x0)
  unfolding cell_count
  cell_count-is =
      let rows : count_below r.height (cells_in_row r tile r.width) ≡ (v.y1 - v.y0) * (v.x1 - v.x0) =
      count_all v.y0 v.y1 r.height (v.x1 - v.x0) (cells_in_row r tile r.width) is.along.0 (omega (arith, is.along)) (λ i p. row_none i (λ o. omega (arith, o))) (λ i p q. row_all i p q) (λ i p q. row_none i (λ o. omega (arith, o))) in
      omega (arith, rows, count_below-none (λ i. one_if (is_cell r tile i r.height)))

pub cells_follow_the_window : CellsFollowTheWindow
cells_follow_the_window s t v is =
    let w = scene_window s t v is in
    (cell_count-is (raster_of s) t v w, λ x y c. cells_before-is (raster_of s) t v w x y c)
