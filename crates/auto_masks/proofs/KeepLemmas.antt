-- One more pixel of a mask is open where its patch is large.
use Rattle.std.proofs.Common.{◌≡◌, ◌≢◌, ℕ, ◌+◌, ◌*◌, ◌<◌, ◌⊎◌, inl, inr, sym, ◌∙◌, ap₂, arith, true, false}
use Rattle.std.proofs.lemmas.Bool.{cases_eq}
use Rattle.std.proofs.lemmas.Nat.{mul-add-lt}
use Rattle.raster_model.specs.MaskView.{MaskView}
use Rattle.raster_model.specs.Masks.{IsMaskOf, IsSetAt, all_open, open_at}
use Rattle.raster_model.proofs.MaskLemmas.{same_place}
use Rattle.sums_and_lists.proofs.Orders.{below_or_last}
use Rattle.auto_masks.specs.Keeping.{AreScreenedSoFar, is_large}
use Rattle.auto_masks.specs.PatchesView.{PatchesView}

differ : (w x y a b : ℕ) → (b * w + a ≡ y * w + x → ⊥) → (a ≢ x) ⊎ (b ≢ y)
differ w x y a b h = elim (cases_eq a x) [
  | inr n ↦ inl n
  | inl e ↦ elim (cases_eq b y) [
    | inr n ↦ inr n
    | inl f ↦ absurd (h (ap₂ (λ (u v : ℕ). v * w + u) e f))
  ]
]

-- at first all are open
pub kept_begin : (v : PatchesView) (least : ℕ) (m : MaskView) → IsMaskOf m v.width v.height all_open → AreScreenedSoFar v least 0 m
kept_begin v least m is = record {
  width = is.width;
  height = is.height;
  done = λ x y l h k. absurd (omega arith);
  rest = λ x y l h k. is.clear_at x y l h;
}

module _ (v : PatchesView) (least x y : ℕ) (m : MaskView) (across : x < v.width) (along : y < v.height) (is : AreScreenedSoFar v least (y * v.width + x) m) where
  pub kept_open : is_large v least x y ≡ true → AreScreenedSoFar v least (y * v.width + x + 1) m
  kept_open large = record {
    width = is.width;
    height = is.height;
    done = λ a b l h k. elim (below_or_last (b * v.width + a) (y * v.width + x) k) [
      | inl p ↦ is.done a b l h p
      | inr e ↦ (
          let p = same_place v.width x y a b across l e in
          let o = is.rest a b l h (omega (arith, e)) in
          o ∙ sym large ∙ ap₂ (λ (u w : ℕ). is_large v least u w) (sym p.0) (sym p.1))
    ];
    rest = λ a b l h k. is.rest a b l h (omega (arith, k));
  }

  pub kept_masked : is_large v least x y ≡ false → (new : MaskView) → IsSetAt m new x y false → AreScreenedSoFar v least (y * v.width + x + 1) new
  kept_masked small new set = record {
    width = set.width ∙ is.width;
    height = set.height ∙ is.height;
    done = λ a b l h k. elim (below_or_last (b * v.width + a) (y * v.width + x) k) [
      | inl p ↦ set.elsewhere a b (omega (arith, l, is.width)) (omega (arith, h, is.height)) (differ v.width x y a b (λ e. omega (arith, p, e))) ∙ is.done a b l h p
      | inr e ↦ (
          let p = same_place v.width x y a b across l e in
          ap₂ (λ (u w : ℕ). open_at new u w) p.0 p.1 ∙ set.here ∙ sym small ∙ ap₂ (λ (u w : ℕ). is_large v least u w) (sym p.0) (sym p.1))
    ];
    rest = λ a b l h k. set.elsewhere a b (omega (arith, l, is.width)) (omega (arith, h, is.height)) (differ v.width x y a b (λ e. omega (arith, k, e))) ∙ is.rest a b l h (omega (arith, k));
  }

-- after the last pixel
pub kept_whole : (v : PatchesView) (least : ℕ) (m : MaskView) → AreScreenedSoFar v least (v.height * v.width) m → IsMaskOf m v.width v.height (is_large v least)
kept_whole v least m is = record {
  width = is.width;
  height = is.height;
  clear_at = λ x y l h.
      (let inside : y * v.width + x < v.width * v.height = mul-add-lt y v.width x v.height h l in
      is.done x y l h (omega (arith, inside)));
}
