-- A row of cycles, pixel by pixel.
use Rattle.std.proofs.Common.{◌≡◌, ◌∙◌, ℕ, ◌+◌, ◌-◌, ◌*◌, ◌<◌, ◌≤◌, sym, ap, subst, refl, arith, to_z, of_z, w64, List, [], ◌∷◌, ◌++◌, length, below_more}
use mir.Syntax.{Width}
use Rattle.std.specs.Prelude.{ℤ, pos, ◌+ℤ◌, map, unsigned_abs, slice_index_or, FitsSigned}
use Rattle.std.proofs.lemmas.Int.{ints, to_z-of_z}
use Rattle.std.proofs.lemmas.Nat.{mul-le}
use Rattle.std.proofs.Math.Nat.{mul-le-mul_left}
use Rattle.std.proofs.Math.Seq.{get_or-append_seam}
use Rattle.std.proofs.lemmas.List.{get_or_append_left, length-append, map-append}
use Rattle.raster_model.specs.declared.limits.TheConstants.{MAX_REACHED_CYCLES}
use Rattle.raster_model.specs.declared.sheet.Sheet.{Sheet}
use Rattle.raster_model.specs.declared.tiling.Window.{Window}
use Rattle.raster_model.specs.Raster.{Raster}
use Rattle.raster_model.specs.Sheets.{sheet_raster}
use Rattle.raster_model.specs.Sums.{Field, right_edge}
use Rattle.raster_model.specs.Tiles.{width_of, height_of}
use Rattle.wrapped_gradient.specs.declared.corrections.Corrections.{Corrections}
use Rattle.wrapped_gradient.specs.Corrections.{greatest_of}
use Rattle.wrapped_gradient.specs.Gradients.{AreGradientsOf}
use Rattle.wrapped_gradient.specs.GradientsView.{GradientsView}
use Rattle.surface_integration.specs.Cycles.{LieWithin, StaySmall}
use Rattle.surface_integration.specs.Rows.{IsRowAdded, rise_of}

-- the number that was added last, and those before it
pub last_at : (zs : List ℤ) (z : ℤ) (n : ℕ) → n ≡ length zs → slice_index_or (zs ++ z ∷ []) n (pos 0) ≡ z
last_at zs z n e = ap (λ (i : ℕ). slice_index_or (zs ++ z ∷ []) i (pos 0)) e ∙ get_or-append_seam zs z [] (pos 0)

module _ (r : Raster) (v : Window) (k : Corrections) (y : ℕ) (first : ℤ) (old : List ℤ) where
  pub row_starts : IsRowAdded r v k y 0 first old (old ++ first ∷ [])
  row_starts = record {
    count = omega (arith, length-append old (first ∷ []));
    kept = λ i l. get_or_append_left old (first ∷ []) (pos 0) i l;
    begins = last_at old first (length old) refl;
    rises = λ i l. absurd (omega arith);
  }

  pub row_grows : (n : ℕ) (new : List ℤ) (here z : ℤ) → IsRowAdded r v k y n first old new → here ≡ slice_index_or new (length old + n) (pos 0) → z ≡ here +ℤ rise_of r v k (right_edge (v.x0 + n) y) → IsRowAdded r v k y (n + 1) first old (new ++ z ∷ [])
  row_grows n new here z h e f =
      let m = h.count in
      record {
        count = omega (arith, length-append new (z ∷ []), m);
        kept = λ i l. get_or_append_left new (z ∷ []) (pos 0) i (omega (arith, m, l)) ∙ h.kept i l;
        begins = get_or_append_left new (z ∷ []) (pos 0) (length old) (omega (arith, m)) ∙ h.begins;
        rises = below_more _ _
            (λ i l. get_or_append_left new (z ∷ []) (pos 0) (length old + (i + 1)) (omega (arith, m, l)) ∙ h.rises i l ∙ ap (λ (u : ℤ). u +ℤ rise_of r v k (right_edge (v.x0 + i) y)) (sym (get_or_append_left new (z ∷ []) (pos 0) (length old + i) (omega (arith, m, l)))))
            (last_at new z (length old + (n + 1)) (omega (arith, m)) ∙ f ∙ ap (λ (u : ℤ). u +ℤ rise_of r v k (right_edge (v.x0 + n) y)) (e ∙ sym (get_or_append_left new (z ∷ []) (pos 0) (length old + n) (omega (arith, m)))));
      }

  pub row_last : (n : ℕ) (new : List ℤ) (z : ℤ) → IsRowAdded r v k y n first old new → z ≡ slice_index_or (new ++ z ∷ []) (length old + (n + 1)) (pos 0)
  row_last n new z h = let m = h.count in sym (last_at new z (length old + (n + 1)) (omega (arith, m)))

-- one more step, of at most m
pub bound_next : (z d : ℤ) (n m : ℕ) → unsigned_abs z ≤ n * m → unsigned_abs d ≤ m → unsigned_abs (z +ℤ d) ≤ (n + 1) * m
bound_next z d n m p q =
    let s : unsigned_abs (z +ℤ d) ≤ unsigned_abs z + unsigned_abs d = omega (arith, ints) in
    omega (arith, s, p, q)

-- so many steps stay within a limit
pub steps_fit : (z : ℤ) (n w h m limit : ℕ) → unsigned_abs z ≤ n * m → n ≤ w + h → (w + h) * m ≤ limit → unsigned_abs z ≤ limit
steps_fit z n w h m limit p l q = omega (arith, p, q, mul-le-mul_left m l)

-- numbers up to a limit fit so many bits
abbrev pub AreFitting : Width → ℕ → Type 0
AreFitting bits limit = (z : ℤ) → unsigned_abs z ≤ limit → FitsSigned bits z

pub fit_64 : AreFitting w64 MAX_REACHED_CYCLES
fit_64 z l = omega (arith, ints, l)

-- as code adds them up, at so many bits
module _ (bits : Width) (limit : ℕ) (fit : AreFitting bits limit) (z d : ℤ) (n w h m : ℕ) (near : unsigned_abs z ≤ n * m) (step : unsigned_abs d ≤ m) (room : n + 1 ≤ w + h) (small : (w + h) * m ≤ limit) where
  step_plain : to_z bits (of_z bits d) ≡ d
  step_plain = to_z-of_z bits d (fit d (steps_fit d 1 w h m limit (omega (arith, step)) (omega (arith, room)) small))

  total_fits : FitsSigned bits (z +ℤ d)
  total_fits = fit (z +ℤ d) (steps_fit (z +ℤ d) (n + 1) w h m limit (bound_next z d n m near step) room small)

  pub sum_fits : FitsSigned bits (z +ℤ to_z bits (of_z bits d))
  sum_fits = rw step_plain total_fits

  pub sum_plain : to_z bits (of_z bits (z +ℤ to_z bits (of_z bits d))) ≡ z +ℤ d
  sum_plain = rw step_plain (to_z-of_z bits (z +ℤ d) total_fits)

  pub sum_near : unsigned_abs (to_z bits (of_z bits (z +ℤ to_z bits (of_z bits d)))) ≤ (n + 1) * m
  sum_near = rw sum_plain (bound_next z d n m near step)

-- the cycles of a window of a sheet stay within 48 bits, for corrections of 31
pub wide_room : (s : Sheet) (g : GradientsView) (k : Corrections) → AreGradientsOf (sheet_raster s) g → greatest_of k < 2147483647 → (width_of g.window + height_of g.window) * (greatest_of k + 1) ≤ MAX_REACHED_CYCLES
wide_room s g k h small =
    let a = h.inside.across in
    let b = h.inside.along in
    let wide = s.phase.now.wide in
    let high = s.phase.now.high in
    mul-le (width_of g.window + height_of g.window) (greatest_of k + 1) 131072 2147483648 (omega (arith, a, b, wide, high)) (omega (arith, small))

pub wide_within : (s : Sheet) (g : GradientsView) (k : Corrections) (cycles : Field ℤ) → AreGradientsOf (sheet_raster s) g → greatest_of k < 2147483647 → StaySmall g.window cycles (greatest_of k) → LieWithin g.window cycles MAX_REACHED_CYCLES
wide_within s g k cycles h small stay x y i =
    let v = g.window in
    steps_fit (cycles x y) (x - v.x0 + (y - v.y0)) (width_of v) (height_of v) (greatest_of k + 1) MAX_REACHED_CYCLES (stay x y i) (omega (arith, i)) (wide_room s g k h small)

-- the same rows, as a loop writes them
module _ (r : Raster) (v : Window) (k : Corrections) (y : ℕ) where
  pub row_begins : (n : ℕ) (first : ℤ) (old new : List ℤ) → n ≡ 0 → new ≡ old ++ first ∷ [] → IsRowAdded r v k y n first old new
  row_begins n first old new e f =
      subst (λ (m : ℕ). IsRowAdded r v k y m first old new) (sym e)
      (subst (λ (zs : List ℤ). IsRowAdded r v k y 0 first old zs) (sym f) (row_starts r v k y first old))

  pub begun_last : (n : ℕ) (first : ℤ) (old new : List ℤ) → n ≡ 0 → new ≡ old ++ first ∷ [] → first ≡ slice_index_or new (length old + n) (pos 0)
  begun_last n first old new e f = sym (ap (λ (zs : List ℤ). slice_index_or zs (length old + n) (pos 0)) f ∙ last_at old first (length old + n) (omega (arith, e)))

  module _ (first : ℤ) (old : List ℤ) (x : ℕ) (new more : List ℤ) (here z d : ℤ) (from : v.x0 ≤ x) (h : IsRowAdded r v k y (x - v.x0) first old new) (pushed : more ≡ new ++ z ∷ []) where
    pub row_more : here ≡ slice_index_or new (length old + (x - v.x0)) (pos 0) → z ≡ here +ℤ d → d ≡ rise_of r v k (right_edge x y) → IsRowAdded r v k y (x + 1 - v.x0) first old more
    row_more e f g =
        let p : x ≡ v.x0 + (x - v.x0) = omega arith in
        let q : x - v.x0 + 1 ≡ x + 1 - v.x0 = omega arith in
        subst (λ (m : ℕ). IsRowAdded r v k y m first old more) q
        (subst (λ (zs : List ℤ). IsRowAdded r v k y (x - v.x0 + 1) first old zs) (sym pushed)
        (row_grows r v k y first old (x - v.x0) new here z h e (f ∙ ap (λ (u : ℤ). here +ℤ u) (g ∙ ap (λ (m : ℕ). rise_of r v k (right_edge m y)) p))))

    pub more_last : z ≡ slice_index_or more (length old + (x + 1 - v.x0)) (pos 0)
    more_last =
        let q : x - v.x0 + 1 ≡ x + 1 - v.x0 = omega arith in
        row_last r v k y first old (x - v.x0) new z h
        ∙ ap (λ (zs : List ℤ). slice_index_or zs (length old + (x - v.x0 + 1)) (pos 0)) (sym pushed)
        ∙ ap (λ (m : ℕ). slice_index_or more (length old + m) (pos 0)) q

  pub row_whole : (n n' : ℕ) (first first' : ℤ) (old new : List ℤ) → n ≡ n' → first ≡ first' → IsRowAdded r v k y n first old new → IsRowAdded r v k y n' first' old new
  row_whole n n' first first' old new e f h =
      subst (λ (m : ℕ). IsRowAdded r v k y m first' old new) e (subst (λ (u : ℤ). IsRowAdded r v k y n u old new) f h)

-- a number that was pushed, as it is read
pub pushed_value : {N : Type 0} (value : N → ℤ) (old new : List N) (n : N) (z : ℤ) → new ≡ old ++ n ∷ [] → value n ≡ z → map value new ≡ map value old ++ z ∷ []
pushed_value value old new n z e f = ap (map value) e ∙ map-append value old (n ∷ []) ∙ ap (λ (u : ℤ). map value old ++ u ∷ []) f
