-- Lists that hold the values of a box in row order, as loops fill them.
use Rattle.std.proofs.Common.{◌≡◌, ℕ, ◌+◌, ◌-◌, ◌*◌, ◌<◌, ◌≤◌, ◌∙◌, sym, ap, subst, arith, List, [], ◌∷◌, ◌++◌, length, below_more}
use Rattle.std.specs.Prelude.{ℤ, pos, slice_index_or}
use Rattle.std.proofs.Math.Seq.{get_or-append_seam}
use Rattle.std.proofs.lemmas.List.{get_or_append_left, length-append}
use Rattle.raster_model.specs.Sums.{Field}
use Rattle.wrapped_gradient.specs.Rows.{AreInRows}
use Rattle.wrapped_gradient.proofs.Places.{field_at}

-- how many places are filled may be written otherwise
pub rows_same : (f : Field ℤ) (x0 y0 s n m : ℕ) (zs : List ℤ) → n ≡ m → AreInRows f x0 y0 s n zs → AreInRows f x0 y0 s m zs
rows_same f x0 y0 s n m zs e h = subst (λ (k : ℕ). AreInRows f x0 y0 s k zs) e h

pub rows_start : (f : Field ℤ) (x0 y0 s n : ℕ) (zs : List ℤ) → zs ≡ [] → n ≡ 0 → AreInRows f x0 y0 s n zs
rows_start f x0 y0 s n zs e z = rw (e, z) (refl_zero, λ k l. absurd (omega arith))
  where
    refl_zero : length {A = ℤ} [] ≡ 0
    refl_zero = omega arith

-- the value of column b in row a comes next
pub rows_next : (f : Field ℤ) (x0 y0 s a b : ℕ) (zs : List ℤ) (z : ℤ) → b < s → z ≡ f (x0 + b) (y0 + a) → AreInRows f x0 y0 s (a * s + b) zs → AreInRows f x0 y0 s (a * s + b + 1) (zs ++ z ∷ [])
rows_next f x0 y0 s a b zs z l e h =
    let m = h.0 in (
      omega (arith, length-append zs (z ∷ []), m),
      below_more _ _
          (λ k i. get_or_append_left zs (z ∷ []) (pos 0) k (omega (arith, m, i)) ∙ h.1 k i)
          (ap (λ (k : ℕ). slice_index_or (zs ++ z ∷ []) k (pos 0)) (sym m) ∙ get_or-append_seam zs z [] (pos 0) ∙ e ∙ sym (field_at f s x0 y0 a b l)),
    )

-- the value at a column and a row of the box
pub rows_tell : (f : Field ℤ) (x0 y0 s n x y : ℕ) (zs : List ℤ) → AreInRows f x0 y0 s n zs → x0 ≤ x → x < x0 + s → y0 ≤ y → (y - y0) * s + (x - x0) < n → slice_index_or zs ((y - y0) * s + (x - x0)) (pos 0) ≡ f x y
rows_tell f x0 y0 s n x y zs h a b c l =
    let p : x0 + (x - x0) ≡ x = omega arith in
    let q : y0 + (y - y0) ≡ y = omega arith in
    h.1 ((y - y0) * s + (x - x0)) l ∙ field_at f s x0 y0 (y - y0) (x - x0) (omega arith) ∙ ap (λ (k : ℕ). f k (y0 + (y - y0))) p ∙ ap (λ (k : ℕ). f x k) q

-- the same, by the pixel that comes next; and at the end of a row
pub rows_step : (f : Field ℤ) (x0 y0 s x y : ℕ) (zs : List ℤ) (z : ℤ) → x0 ≤ x → x < x0 + s → y0 ≤ y → z ≡ f x y → AreInRows f x0 y0 s ((y - y0) * s + (x - x0)) zs → AreInRows f x0 y0 s ((y - y0) * s + (x + 1 - x0)) (zs ++ z ∷ [])
rows_step f x0 y0 s x y zs z a b c e h =
    let p : x ≡ x0 + (x - x0) = omega arith in
    let q : y ≡ y0 + (y - y0) = omega arith in
    rows_same f x0 y0 s ((y - y0) * s + (x - x0) + 1) ((y - y0) * s + (x + 1 - x0)) (zs ++ z ∷ []) (omega arith)
    (rows_next f x0 y0 s (y - y0) (x - x0) zs z (omega arith) (e ∙ ap (λ (k : ℕ). f k y) p ∙ ap (λ (k : ℕ). f (x0 + (x - x0)) k) q) h)

pub rows_end : (f : Field ℤ) (x0 y0 s x y : ℕ) (zs : List ℤ) → x - x0 ≡ s → y0 ≤ y → AreInRows f x0 y0 s ((y - y0) * s + (x - x0)) zs → AreInRows f x0 y0 s ((y + 1 - y0) * s) zs
rows_end f x0 y0 s x y zs e c h =
    let q : y + 1 - y0 ≡ y - y0 + 1 = omega arith in
    rows_same f x0 y0 s ((y - y0) * s + (x - x0)) ((y + 1 - y0) * s) zs (rw (q, e) (omega arith)) h
