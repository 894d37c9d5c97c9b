-- Lists that hold the first rows of a window's cycles.
use Rattle.std.proofs.Common.{◌≡◌, ◌∙◌, ℕ, ◌+◌, ◌-◌, ◌*◌, ◌<◌, ◌≤◌, ◌⊎◌, inl, inr, sym, ap, subst, arith, List, length}
use Rattle.std.specs.Prelude.{ℤ, pos, ◌+ℤ◌, slice_index_or}
use Rattle.raster_model.specs.declared.tiling.Window.{Window}
use Rattle.raster_model.specs.Raster.{Raster}
use Rattle.raster_model.specs.Sums.{right_edge, down_edge}
use Rattle.wrapped_gradient.specs.declared.corrections.Corrections.{Corrections}
use Rattle.raster_model.specs.Tiles.{width_of}
use Rattle.wrapped_gradient.proofs.Places.{place_under}
use Rattle.surface_integration.specs.Cycles.{cycles_at}
use Rattle.surface_integration.specs.Rows.{IsRowAdded, rise_of}

-- so many rows are there: they begin with 0, rise along their right edges, and along the down edges of the first column
pub record IsFilled (r : Raster) (v : Window) (k : Corrections) (rows : ℕ) (zs : List ℤ) : Type 0 where
  pub count : length zs ≡ rows * width_of v
  pub begins : cycles_at v zs v.x0 v.y0 ≡ pos 0
  pub rights : (x y : ℕ) → v.x0 ≤ x → x < v.x1 → v.y0 ≤ y → y < v.y0 + rows → cycles_at v zs (x + 1) y ≡ cycles_at v zs x y +ℤ rise_of r v k (right_edge x y)
  pub downs : (y : ℕ) → v.y0 ≤ y → y + 1 < v.y0 + rows → cycles_at v zs v.x0 (y + 1) ≡ cycles_at v zs v.x0 y +ℤ rise_of r v k (down_edge v.x0 y)

-- row y is added below the rows before it
module _ (r : Raster) (v : Window) (k : Corrections) (y : ℕ) (first : ℤ) (old new : List ℤ) (below : v.y0 ≤ y) (across : v.x0 ≤ v.x1) (full : length old ≡ (y - v.y0) * width_of v) (added : IsRowAdded r v k y (v.x1 - v.x0) first old new) where
  new_count : length new ≡ (y + 1 - v.y0) * width_of v
  new_count =
      let q : y + 1 - v.y0 ≡ y - v.y0 + 1 = omega arith in
      let m = added.count in
      rw q (omega (arith, m, full))

  new_at : (x : ℕ) → cycles_at v new x y ≡ slice_index_or new (length old + (x - v.x0)) (pos 0)
  new_at x = ap (λ (n : ℕ). slice_index_or new (n + (x - v.x0)) (pos 0)) (sym full)

  pub new_first : cycles_at v new v.x0 y ≡ first
  new_first =
      let z : length old + (v.x0 - v.x0) ≡ length old = omega arith in
      new_at v.x0 ∙ ap (λ (n : ℕ). slice_index_or new n (pos 0)) z ∙ added.begins

  new_rises : (x : ℕ) → v.x0 ≤ x → x < v.x1 → cycles_at v new (x + 1) y ≡ cycles_at v new x y +ℤ rise_of r v k (right_edge x y)
  new_rises x a b =
      let p : length old + (x + 1 - v.x0) ≡ length old + (x - v.x0 + 1) = omega arith in
      let q : v.x0 + (x - v.x0) ≡ x = omega arith in
      new_at (x + 1) ∙ ap (λ (n : ℕ). slice_index_or new n (pos 0)) p ∙ added.rises (x - v.x0) (omega arith)
      ∙ ap (λ (n : ℕ). slice_index_or new (length old + (x - v.x0)) (pos 0) +ℤ rise_of r v k (right_edge n y)) q
      ∙ ap (λ (u : ℤ). u +ℤ rise_of r v k (right_edge x y)) (sym (new_at x))

  old_at : (x b : ℕ) → v.x0 ≤ x → x ≤ v.x1 → v.y0 ≤ b → b < y → cycles_at v new x b ≡ cycles_at v old x b
  old_at x b p q c l = added.kept ((b - v.y0) * width_of v + (x - v.x0)) (place_under (width_of v) (y - v.y0) (b - v.y0) (x - v.x0) (length old) (full ∙ mul_comm (y - v.y0) (width_of v)) (omega arith) (omega arith))
    where
      mul_comm : (m n : ℕ) → m * n ≡ n * m
      mul_comm m n = omega arith

  at_or_before : (b : ℕ) → b < y + 1 → (b < y) ⊎ (b ≡ y)
  at_or_before b l = grind arith

  rights_more : ((x b : ℕ) → v.x0 ≤ x → x < v.x1 → v.y0 ≤ b → b < y → cycles_at v old (x + 1) b ≡ cycles_at v old x b +ℤ rise_of r v k (right_edge x b)) → (x b : ℕ) → v.x0 ≤ x → x < v.x1 → v.y0 ≤ b → b < y + 1 → cycles_at v new (x + 1) b ≡ cycles_at v new x b +ℤ rise_of r v k (right_edge x b)
  rights_more h x b p q c l = elim (at_or_before b l) [
    | inl m ↦ old_at (x + 1) b (omega arith) (omega arith) c m ∙ h x b p q c m ∙ ap (λ (u : ℤ). u +ℤ rise_of r v k (right_edge x b)) (sym (old_at x b p (omega arith) c m))
    | inr m ↦ rw m (new_rises x p q)
  ]

  -- the first row
  pub filled_first : y ≡ v.y0 → first ≡ pos 0 → IsFilled r v k (y - v.y0 + 1) new
  filled_first e z = record {
    count = let q : y + 1 - v.y0 ≡ y - v.y0 + 1 = omega arith in rw q at new_count;
    begins = ap (λ (n : ℕ). cycles_at v new v.x0 n) (sym e) ∙ new_first ∙ z;
    rights = λ x b p q c l. rights_more (λ x b p q c l. absurd (omega (arith, e))) x b p q c (omega (arith, e));
    downs = λ b c l. absurd (omega (arith, e));
  }

  -- a further row, which begins with what lies above its first pixel and the rise from there
  pub filled_next : (b : ℕ) → y ≡ b + 1 → v.y0 ≤ b → first ≡ cycles_at v old v.x0 b +ℤ rise_of r v k (down_edge v.x0 b) → IsFilled r v k (b - v.y0 + 1) old → IsFilled r v k (y - v.y0 + 1) new
  filled_next b e c f h =
      let counted : length new ≡ (y - v.y0 + 1) * width_of v = let q : y + 1 - v.y0 ≡ y - v.y0 + 1 = omega arith in rw q at new_count in
      record {
        count = counted;
        begins = old_at v.x0 v.y0 (omega arith) across (omega arith) (omega (arith, e)) ∙ h.begins;
        rights = λ x a p q d l. rights_more (λ x a p q d l. h.rights x a p q d (omega (arith, e))) x a p q d (omega (arith, e));
        downs = λ a d l. elim (at_or_before_this a (omega (arith, e))) [
          | inl m ↦ old_at v.x0 (a + 1) (omega arith) across (omega arith) (omega (arith, m)) ∙ h.downs a d (omega (arith, e, m)) ∙ ap (λ (u : ℤ). u +ℤ rise_of r v k (down_edge v.x0 a)) (sym (old_at v.x0 a (omega arith) across d (omega (arith, m))))
          | inr m ↦ let g : a ≡ b = omega (arith, m, e) in
              ap (λ (n : ℕ). cycles_at v new v.x0 n) m ∙ new_first ∙ f ∙ ap (λ (u : ℤ). u +ℤ rise_of r v k (down_edge v.x0 b)) (sym (old_at v.x0 b (omega arith) across c (omega (arith, e)))) ∙ ap (λ (n : ℕ). cycles_at v new v.x0 n +ℤ rise_of r v k (down_edge v.x0 n)) (sym g)
        ];
      }
    where
      at_or_before_this : (a : ℕ) → a + 1 < y + 1 → (a + 1 < y) ⊎ (a + 1 ≡ y)
      at_or_before_this a l = grind arith

pub filled_whole : (r : Raster) (v : Window) (k : Corrections) (n m : ℕ) (zs : List ℤ) → n ≡ m → IsFilled r v k n zs → IsFilled r v k m zs
filled_whole r v k n m zs e h = subst (λ (i : ℕ). IsFilled r v k i zs) e h

pub none_before : (l n w : ℕ) → l ≡ 0 → n ≡ 0 → l ≡ n * w
none_before l n w e f = rw (e, f) (omega arith)
