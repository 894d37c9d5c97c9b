-- Rows of a tile at whose inner edges the faces fit.
use Rattle.std.proofs.Common.{◌≡◌, ◌∙◌, ℕ, ◌+◌, ◌-◌, ◌*◌, ◌<◌, ◌≤◌, ap₂, refl, subst, arith, Bool, true, false, inl, inr, List, to_z, of_z, w64, FitsSigned}
use Rattle.std.specs.Prelude.{ℤ, ◌-ℤ◌, ◌||◌, IsTrue, not, unsigned_abs}
use Rattle.std.proofs.lemmas.Bool.{cases_lt}
use Rattle.std.proofs.lemmas.Int.{to_z-of_z}
use Rattle.raster_model.specs.declared.edge.Edge.{Edge}
use Rattle.raster_model.specs.Raster.{masked_weight}
use Rattle.raster_model.specs.Sums.{right_edge, down_edge}
use Rattle.certificates.specs.declared.tile.Tile.{Tile}
use Rattle.certificates.specs.TileWords.{FitAt, FitDown, FitIn, FitRight, IsInner, difference_at, faces_at, held_mask, held_raster}
use Rattle.certificates.proofs.EdgeLemmas.{both_edges}
use Rattle.certificates.proofs.FaceLemmas.{before-pred, difference_down, difference_right}
use Rattle.certificates.proofs.RangeLemmas.{neither}
use Rattle.certificates.proofs.TileParts.{in_window, no_further}
use Rattle.sums_and_lists.proofs.Orders.{below_or_last}

-- one more edge of a row, where so far none was found at which the faces do not fit
pub one_fits : (P : ℕ → Type 0) (a n : ℕ) (unfit more : Bool) → (unfit ≡ false → (x : ℕ) → a ≤ x → x < n → P x) → (more ≡ false → P n) → (unfit || more) ≡ false → (x : ℕ) → a ≤ x → x < n + 1 → P x
one_fits P a n unfit more before here e x l m =
    let both = neither unfit more e in
    elim (below_or_last x n m) [ inl b ↦ before both.0 x l b | inr b ↦ rw b (here both.1) ]

-- what is so at most there is so if nothing else was found
pub near_enough : (near : Bool) → not near ≡ false → IsTrue near
near_enough true e = refl
near_enough false e = absurd cc

module _ (k : Tile) (faces : List ℤ) where
  -- faces that are near each other, as code reads them, fit
  near_fit : (e : Edge) (a b : ℤ) → FitsSigned w64 a → FitsSigned w64 b → a -ℤ b ≡ difference_at k faces e → unsigned_abs (to_z w64 (of_z w64 a) -ℤ to_z w64 (of_z w64 b)) ≤ (held_raster k).steep * masked_weight (held_raster k) (held_mask k) e → FitAt k faces e
  near_fit e a b f g differ near =
      subst (λ (d : ℤ). unsigned_abs d ≤ (held_raster k).steep * masked_weight (held_raster k) (held_mask k) e) (ap₂ (λ (u v : ℤ). u -ℤ v) (to_z-of_z w64 a f) (to_z-of_z w64 b g) ∙ differ) near

  pub fits_right : (x y : ℕ) (a b : ℤ) → FitsSigned w64 a → FitsSigned w64 b → 0 < y → a ≡ faces_at k faces x (y - 1) → b ≡ faces_at k faces x y → unsigned_abs (to_z w64 (of_z w64 a) -ℤ to_z w64 (of_z w64 b)) ≤ (held_raster k).steep * masked_weight (held_raster k) (held_mask k) (right_edge x y) → FitAt k faces (right_edge x y)
  fits_right x y a b f g l p q near =
      near_fit (right_edge x y) a b f g (difference_right (faces_at k faces) (right_edge x y) a b refl (before-pred (faces_at k faces x) y a l p) q) near

  pub fits_down : (x y : ℕ) (a b : ℤ) → FitsSigned w64 a → FitsSigned w64 b → 0 < x → a ≡ faces_at k faces x y → b ≡ faces_at k faces (x - 1) y → unsigned_abs (to_z w64 (of_z w64 a) -ℤ to_z w64 (of_z w64 b)) ≤ (held_raster k).steep * masked_weight (held_raster k) (held_mask k) (down_edge x y) → FitAt k faces (down_edge x y)
  fits_down x y a b f g l p q near =
      near_fit (down_edge x y) a b f g (difference_down (faces_at k faces) (down_edge x y) a b refl p (before-pred (λ (n : ℕ). faces_at k faces n y) x b l q)) near

  -- all inner edges that start in a row
  module _ (y : ℕ) (right : FitRight k faces y k.window.x1) (down : FitDown k faces y k.window.x1) (first : FitAt k faces (down_edge k.window.x0 y)) (last : FitAt k faces (down_edge k.window.x1 y)) where
    right_fits : (x : ℕ) → IsInner k (right_edge x y) → FitAt k faces (right_edge x y)
    right_fits x i = right x (in_window k (right_edge x y) i).0 (omega (arith, (no_further k (right_edge x y) i).0))

    down_fits : (x : ℕ) → IsInner k (down_edge x y) → FitAt k faces (down_edge x y)
    down_fits x i =
        let w = in_window k (down_edge x y) i in
        elim (cases_lt k.window.x0 x) [
          | inl l ↦ (elim (cases_lt x k.window.x1) [ inl m ↦ down x (omega (arith, l)) m | inr m ↦ (let e : x ≡ k.window.x1 = omega (arith, w, m) in rw e last) ])
          | inr l ↦ (let e : x ≡ k.window.x0 = omega (arith, w, l) in rw e first)
        ]

    pub row_fits : FitIn k faces y
    row_fits e i ey = both_edges (λ (d : Edge). IsInner k d → FitAt k faces d) e.x y (right_fits e.x) (down_fits e.x) e refl ey i
