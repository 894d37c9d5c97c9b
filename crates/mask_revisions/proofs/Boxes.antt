-- Boxes of a mask that grow by a row.
use Rattle.std.proofs.Common.{◌≡◌, ◌≢◌, ℕ, ◌+◌, ◌<◌, ◌≤◌, ◌⊎◌, inl, inr, ◌∙◌, ap, sym, refl, arith, Bool, true, false, MatchBool}
use Rattle.std.specs.Prelude.{◌&&◌, ◌||◌, nat_le, nat_lt, if◌then◌else◌}
use Rattle.std.proofs.lemmas.Bool.{cases_eq, cases_lt}
use Rattle.std.proofs.lemmas.Bool.Decides.{nat_tests}
use Rattle.raster_model.specs.declared.script.Rect.{Rect}
use Rattle.raster_model.specs.MaskView.{MaskView}
use Rattle.raster_model.specs.Masks.{open_at, IsSpanSet, IsSpanOf, HasOtherInSpan}
use Rattle.mask_revisions.specs.Edits.{has_pixel}
use Rattle.mask_revisions.specs.Steps.{in_box, HasOther, IsAll, IsBoxSet}

-- ---- tests of a box
no_rows : (x0 x1 y0 x y : ℕ) → in_box x0 x1 y0 y0 x y ≡ false
no_rows x0 x1 y0 x y = grind (arith, nat_tests)

row_below : (x0 x1 y0 y x : ℕ) → in_box x0 x1 y0 y x y ≡ false
row_below x0 x1 y0 y x = grind (arith, nat_tests)

in_row : (x0 x1 y x : ℕ) → x0 ≤ x → x ≤ x1 → in_box x0 (x1 + 1) y (y + 1) x y ≡ true
in_row x0 x1 y x l m = grind (arith, nat_tests)

off_row : (x0 x1 y a b : ℕ) → (b ≢ y) ⊎ ((a < x0) ⊎ (x1 < a)) → in_box x0 (x1 + 1) y (y + 1) a b ≡ false
off_row x0 x1 y a b (inl n) = grind (arith, nat_tests)
off_row x0 x1 y a b (inr (inl l)) = grind (arith, nat_tests)
off_row x0 x1 y a b (inr (inr l)) = grind (arith, nat_tests)

in_rows : (x0 x1 y0 y a b : ℕ) (u o : Bool) → y0 ≤ y → (if in_box x0 x1 y (y + 1) a b then u else (if in_box x0 x1 y0 y a b then u else o)) ≡ (if in_box x0 x1 y0 (y + 1) a b then u else o)
in_rows x0 x1 y0 y a b u o l = grind (arith, nat_tests)

-- ---- boxes that were set
pub set_none : (m : MaskView) (x0 x1 y0 : ℕ) (u : Bool) → IsBoxSet m m x0 x1 y0 y0 u
set_none m x0 x1 y0 u = record {
  width = refl;
  height = refl;
  pixels = λ a b l h. rw (no_rows x0 x1 y0 a b) refl;
}

set_rows : (m m' m'' : MaskView) (x0 x1 y0 y : ℕ) (u : Bool) → y0 ≤ y → IsBoxSet m m' x0 x1 y0 y u → IsBoxSet m' m'' x0 x1 y (y + 1) u → IsBoxSet m m'' x0 x1 y0 (y + 1) u
set_rows m m' m'' x0 x1 y0 y u l is row = record {
  width = row.width ∙ is.width;
  height = row.height ∙ is.height;
  pixels = λ a b p q.
      row.pixels a b (rw is.width p) (rw is.height q)
      ∙ ap (λ (k : Bool). if in_box x0 x1 y (y + 1) a b then u else k) (is.pixels a b p q)
      ∙ in_rows x0 x1 y0 y a b u (open_at m a b) l;
}

-- a span is a box of one row
span_is_box : (m m' : MaskView) (x0 x1 y : ℕ) (u : Bool) → IsSpanSet m m' y x0 x1 u → IsBoxSet m m' x0 (x1 + 1) y (y + 1) u
span_is_box m m' x0 x1 y u is = record {
  width = is.width;
  height = is.height;
  pixels = λ a b p q. elim (cases_eq b y) [
    | inr n ↦ rw (off_row x0 x1 y a b (inl n)) (is.elsewhere a b p q (inl n))
    | inl e ↦ elim (cases_lt a x0) [
      | inl l ↦ rw (off_row x0 x1 y a b (inr (inl l))) (is.elsewhere a b p q (inr (inl l)))
      | inr l ↦ elim (cases_lt x1 a) [
        | inl k ↦ rw (off_row x0 x1 y a b (inr (inr k))) (is.elsewhere a b p q (inr (inr k)))
        | inr k ↦ rw (e, in_row x0 x1 y a l k) (is.here a l k)
      ]
    ]
  ];
}

module _ (m m' : MaskView) (x0 x1 y0 y : ℕ) (u : Bool) (l : y0 ≤ y) (is : IsBoxSet m m' x0 (x1 + 1) y0 y u) where
  pub set_span : (m'' : MaskView) → IsSpanSet m' m'' y x0 x1 u → IsBoxSet m m'' x0 (x1 + 1) y0 (y + 1) u
  set_span m'' span = set_rows m m' m'' x0 (x1 + 1) y0 y u l is (span_is_box m' m'' x0 x1 y u span)

  -- the row below is as it was, so a pixel of it that changes now has changed since the beginning
  module _ (across : x1 < m.width) (along : y < m.height) where
    same_below : (x : ℕ) → x ≤ x1 → open_at m' x y ≡ open_at m x y
    same_below x p = is.pixels x y (omega (arith, across)) along ∙ ap (λ (k : Bool). if k then u else open_at m x y) (row_below x0 (x1 + 1) y0 y x)

    pub span_tells : (changed other : Bool) → MatchBool changed (HasOther (open_at m) x0 (x1 + 1) y0 y u) (IsAll (open_at m) x0 (x1 + 1) y0 y u)
        → MatchBool other (HasOtherInSpan m' y x0 x1 u) (IsSpanOf m' y x0 x1 u)
        → MatchBool (changed || other) (HasOther (open_at m) x0 (x1 + 1) y0 (y + 1) u) (IsAll (open_at m) x0 (x1 + 1) y0 (y + 1) u)
    span_tells true other h k = (h.0, h.1, h.2, h.3, h.4, omega (arith, h.5), h.6)
    span_tells false true h k = (k.0, y, k.1, omega (arith, k.2), l, omega arith, λ e. k.3 (same_below k.0 k.2 ∙ e))
    span_tells false false h k = λ a b s t v w. elim (cases_eq b y) [
      | inl e ↦ (let t' : a ≤ x1 = omega (arith, t) in rw e (sym (same_below a t') ∙ k a s t'))
      | inr n ↦ h a b s t v (omega (arith, w, n))
    ]

-- a box up to before the next column and row is one with both corners
pub same_box : (r : Rect) (x y : ℕ) → in_box r.x0 (r.x1 + 1) r.y0 (r.y1 + 1) x y ≡ has_pixel r x y
same_box r x y = corners r.x0 r.x1 r.y0 r.y1 x y
  where
    corners : (x0 x1 y0 y1 x y : ℕ) → ((nat_le x0 x && nat_lt x (x1 + 1)) && (nat_le y0 y && nat_lt y (y1 + 1))) ≡ ((nat_le x0 x && nat_le x x1) && (nat_le y0 y && nat_le y y1))
    corners x0 x1 y0 y1 x y = grind (arith, nat_tests)
