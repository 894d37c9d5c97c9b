-- The faces of a tile as code reads them, and their differences and products as it works them out.
use Rattle.std.proofs.Common.{◌≡◌, ◌∙◌, ℕ, zero, suc, ◌+◌, ◌-◌, ◌*◌, ◌<◌, ◌≤◌, ◌^◌, ap, sym, refl, arith, true, false, List, length, to_z, of_z, w32, w64, Fits, FitsSigned}
use Rattle.std.specs.Prelude.{ℤ, pos, ◌+ℤ◌, ◌-ℤ◌, ◌*ℤ◌, unsigned_abs, slice_index_or}
use Rattle.std.specs.Int.{w128}
use Rattle.std.proofs.lemmas.Int.{ints, unsigned_abs-mul, to_z-of_z, fits_signed_from_abs}
use Rattle.std.proofs.lemmas.Nat.{mul-add-lt, mul-le}
use Rattle.raster_model.specs.declared.edge.Edge.{Edge}
use Rattle.raster_model.specs.Sums.{Field}
use Rattle.raster_model.specs.Raster.{residue}
use Rattle.raster_model.specs.Certificates.{before, above, left, face_difference, face_product}
use Rattle.raster_model.specs.Cells.{face_at}
use Rattle.raster_model.specs.Order.{IsCellAt}
use Rattle.certificates.specs.declared.tile.Tile.{Tile}
use Rattle.certificates.specs.TileWords.{HasFaces, faces_at, held_raster}
use Rattle.raster_model.proofs.TileCells.{cell_count-is, cells_before-is, face_inside, face_outside}

-- where a cell's face stands in a list in the window's row order
module _ (k : Tile) (faces : List ℤ) where
  pub face_place : (x y : ℕ) → IsCellAt k.window x y → HasFaces k faces → (y - k.window.y0) * (k.window.x1 - k.window.x0) + (x - k.window.x0) < length faces
  face_place x y c e =
      omega (arith, e, cell_count-is (held_raster k) k.number k.window k.pixels, mul-add-lt (y - k.window.y0) (k.window.x1 - k.window.x0) (x - k.window.x0) (k.window.y1 - k.window.y0) (omega (arith, c)) (omega (arith, c)))

  pub face_read : (x y : ℕ) → IsCellAt k.window x y → slice_index_or faces ((y - k.window.y0) * (k.window.x1 - k.window.x0) + (x - k.window.x0)) (pos 0) ≡ faces_at k faces x y
  unfolding face_at
  face_read x y c =
      ap (λ (n : ℕ). slice_index_or faces n (pos 0)) (sym (cells_before-is (held_raster k) k.number k.window k.pixels x y c))
      ∙ sym (face_inside (held_raster k) k.number k.window k.pixels (face_at (held_raster k) k.number faces) x y c)

  -- the numbers by which code finds it fit, and no cell outside the window has one
  pub face_fits : (x y : ℕ) → IsCellAt k.window x y → Fits w64 (k.window.x1 - k.window.x0) × Fits w64 (y - k.window.y0) × Fits w64 ((y - k.window.y0) * (k.window.x1 - k.window.x0)) × Fits w64 (x - k.window.x0) × Fits w64 ((y - k.window.y0) * (k.window.x1 - k.window.x0) + (x - k.window.x0)) × Fits w64 (((y - k.window.y0) * (k.window.x1 - k.window.x0) + (x - k.window.x0)) * 8)
  face_fits x y c =
      let m = mul-le (y - k.window.y0) (k.window.x1 - k.window.x0) 65535 65535 (omega (arith, c, k.pixels.along, k.sheet.phase.now.high)) (omega (arith, k.pixels.across, k.sheet.phase.now.wide)) in
      let l : x - k.window.x0 ≤ 65535 = omega (arith, c, k.pixels.across, k.sheet.phase.now.wide) in
      let w : k.window.x1 - k.window.x0 ≤ 65535 = omega (arith, k.pixels.across, k.sheet.phase.now.wide) in
      let h : y - k.window.y0 ≤ 65535 = omega (arith, c, k.pixels.along, k.sheet.phase.now.high) in
      (record { fits = omega (arith, w) }, record { fits = omega (arith, h) }, record { fits = omega (arith, m) }, record { fits = omega (arith, l) }, record { fits = omega (arith, m, l) }, record { fits = omega (arith, m, l) })

  pub no_face : (x y : ℕ) → (IsCellAt k.window x y → ⊥) → pos 0 ≡ faces_at k faces x y
  no_face x y n = sym (face_outside (held_raster k) k.number k.window k.pixels (face_at (held_raster k) k.number faces) x y n)

pub not_both : (a b : ℕ) → a < b → b ≤ a → ⊥
not_both a b l m = omega (arith, l, m)

-- what stands before a place that is not the first
pub before-pred : (f : ℕ → ℤ) (n : ℕ) (z : ℤ) → 0 < n → z ≡ f (n - 1) → z ≡ before f n
before-pred f zero z l e = absurd (omega arith)
before-pred f (suc n) z l e = e ∙ ap f (omega arith)

-- the code's difference, at 128 bits
pub difference_fits : (a b p q : ℤ) → FitsSigned w64 a → FitsSigned w64 b → p ≡ to_z w64 (of_z w64 a) → q ≡ to_z w64 (of_z w64 b) → to_z w128 (of_z w128 (to_z w128 (of_z w128 p) -ℤ to_z w128 (of_z w128 q))) ≡ a -ℤ b
difference_fits a b p q f g e h = omega (arith, ints)

pub difference_down : (f : Field ℤ) (e : Edge) (a b : ℤ) → e.down ≡ true → a ≡ f e.x e.y → b ≡ left f e.x e.y → a -ℤ b ≡ face_difference f e
difference_down f e a b d p q = rw (d, p, q) refl

pub difference_right : (f : Field ℤ) (e : Edge) (a b : ℤ) → e.down ≡ false → a ≡ above f e.x e.y → b ≡ f e.x e.y → a -ℤ b ≡ face_difference f e
difference_right f e a b d p q = rw (d, p, q) refl

-- the code's product, at 128 bits
pub product_fits : (a b : ℤ) → unsigned_abs a ≤ 2 ^ 63 → unsigned_abs b ≤ 1 → (to_z w128 (of_z w128 (to_z w128 (of_z w128 a) *ℤ to_z w128 (of_z w128 b))) ≡ a *ℤ b) × (unsigned_abs (a *ℤ b) ≤ 2 ^ 63)
product_fits a b k l =
    let p : to_z w128 (of_z w128 a) ≡ a = omega (arith, ints) in
    let q : to_z w128 (of_z w128 b) ≡ b = omega (arith, ints) in
    let m : unsigned_abs (a *ℤ b) ≤ 2 ^ 63 = rw unsigned_abs-mul (small (unsigned_abs a) (unsigned_abs b) k l) in
    (rw (p, q) (back (a *ℤ b) m), m)
  where
    back : (z : ℤ) → unsigned_abs z ≤ 2 ^ 63 → to_z w128 (of_z w128 z) ≡ z
    back z h = omega (arith, ints)

    small : (x y : ℕ) → x ≤ 2 ^ 63 → y ≤ 1 → x * y ≤ 2 ^ 63
    small x y h l = grind arith

pub products_of_faces : (f r p q : ℤ) → FitsSigned w64 f → unsigned_abs r ≤ 1 → p ≡ to_z w64 (of_z w64 f) → q ≡ to_z w32 (of_z w32 r) → (to_z w128 (of_z w128 (to_z w128 (of_z w128 p) *ℤ to_z w128 (of_z w128 q))) ≡ f *ℤ r) × (unsigned_abs (to_z w128 (of_z w128 (to_z w128 (of_z w128 p) *ℤ to_z w128 (of_z w128 q)))) ≤ 2 ^ 63) × FitsSigned w128 (to_z w128 (of_z w128 p) *ℤ to_z w128 (of_z w128 q))
products_of_faces f r p q fits small e d =
    let a : p ≡ f = e ∙ to_z-of_z w64 f fits in
    let b : q ≡ r = residue_back r q small d in
    let k : unsigned_abs f ≤ 2 ^ 63 = face_small f fits in
    let x : to_z w128 (of_z w128 f) ≡ f = face_back f k in
    let y : to_z w128 (of_z w128 r) ≡ r = residue_back_wide r small in
    let m = product_fits f r k small in
    rw (a, b) (m.0, rw m.0 m.1, rw (x, y) (fits_signed_from_abs w128 (f *ℤ r) (below (unsigned_abs (f *ℤ r)) m.1)))
  where
    face_small : (f : ℤ) → FitsSigned w64 f → unsigned_abs f ≤ 2 ^ 63
    face_small f fits = omega (arith, ints)

    face_back : (f : ℤ) → unsigned_abs f ≤ 2 ^ 63 → to_z w128 (of_z w128 f) ≡ f
    face_back f k = omega (arith, ints)

    residue_back : (r q : ℤ) → unsigned_abs r ≤ 1 → q ≡ to_z w32 (of_z w32 r) → q ≡ r
    residue_back r q k e = omega (arith, ints)

    residue_back_wide : (r : ℤ) → unsigned_abs r ≤ 1 → to_z w128 (of_z w128 r) ≡ r
    residue_back_wide r k = omega (arith, ints)

    below : (n : ℕ) → n ≤ 2 ^ 63 → n < 2 ^ 127
    below n l = omega arith

-- the code's running sum, at 128 bits
pub sum_fits : (a t : ℤ) (x y : ℕ) → unsigned_abs a ≤ 2 ^ 63 * (65535 * y + x) → unsigned_abs t ≤ 2 ^ 63 → 65535 * y + x < 2 ^ 33 → (to_z w128 (of_z w128 (a +ℤ to_z w128 (of_z w128 t))) ≡ a +ℤ t) × (unsigned_abs (a +ℤ t) ≤ 2 ^ 63 * (65535 * y + (x + 1))) × FitsSigned w128 (a +ℤ to_z w128 (of_z w128 t))
sum_fits a t x y k l m = (omega (arith, ints), omega (arith, ints), fits_signed_from_abs w128 (a +ℤ to_z w128 (of_z w128 t)) (omega (arith, ints)))

-- the products, which are 0 where the tile has no cell
module _ (k : Tile) (f : Field ℤ) where
  pub product_outside : (x y : ℕ) → x < k.sheet.phase.now.width → y < k.sheet.phase.now.height → (IsCellAt k.window x y → ⊥) → face_product (held_raster k) k.number f x y ≡ pos 0
  unfolding face_product
  product_outside x y l m n = rw (face_outside (held_raster k) k.number k.window k.pixels f x y n) (zero_times (residue (held_raster k) x y))
    where
      zero_times : (z : ℤ) → pos 0 *ℤ z ≡ pos 0
      zero_times z = omega (arith, ints)

  pub cells_before_fit : (x y : ℕ) → x < k.window.x1 → y < k.window.y1 → 65535 * y + x < 2 ^ 33
  cells_before_fit x y l m = omega (arith, l, m, k.pixels.across, k.pixels.along, k.sheet.phase.now.wide, k.sheet.phase.now.high)

  pub ends_in_raster : (x y : ℕ) → IsCellAt k.window x y → (x + 1 < k.sheet.phase.now.width) × (y + 1 < k.sheet.phase.now.height)
  ends_in_raster x y c = (omega (arith, c, k.pixels.across), omega (arith, c, k.pixels.along))

  pub cells_across_fit : (k.window.x0 ≤ k.window.x1) × (k.window.x1 ≤ k.sheet.phase.now.width)
  cells_across_fit = (omega (arith, k.pixels.across), omega (arith, k.pixels.across))

  pub cells_along_fit : (k.window.y0 ≤ k.window.y1) × (k.window.y1 ≤ k.sheet.phase.now.height)
  cells_along_fit = (omega (arith, k.pixels.along), omega (arith, k.pixels.along))

-- a face of 0 adds nothing
pub no_product : (a b : ℤ) → a ≡ pos 0 → pos 0 ≡ a *ℤ b
no_product a b e = rw e (omega (arith, ints))
