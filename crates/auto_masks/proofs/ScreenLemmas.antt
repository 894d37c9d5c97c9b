-- Keys of passing pixels, and the mask that keeps large patches of them.
use mir.Val.{bool_byte}
use Rattle.std.proofs.Common.{◌≡◌, ℕ, ◌+◌, ◌*◌, ◌/◌, ◌%◌, ◌<◌, inl, inr, ◌∙◌, ap, refl, arith, subst, Bool, true, false, List, length}
use Rattle.std.specs.Prelude.{ℤ, pos, ◌==◌, ◌&&◌, nat_le, not, Some, None, if◌then◌else◌, slice_set}
use Rattle.std.proofs.lemmas.List.{get_or-set_same, get_or-set_other}
use Rattle.std.proofs.lemmas.Nat.{mod-mul-add, div-mul-add, mul-add-lt}
use Rattle.raster_model.specs.declared.plane.Plane.{Plane}
use Rattle.raster_model.specs.MaskView.{MaskView}
use Rattle.raster_model.specs.Masks.{IsMaskOf}
use Rattle.raster_model.specs.Sums.{Field}
use Rattle.sums_and_lists.proofs.Orders.{below_or_last}
use Rattle.auto_masks.specs.declared.terms.ScreenTerms.{ScreenTerms}
use Rattle.auto_masks.specs.Keeping.{is_large}
use Rattle.auto_masks.specs.Keys.{AreKeyed}
use Rattle.joined_cells.specs.Flood.{no_label}
use Rattle.auto_masks.specs.Patches.{ArePatchesOf, key_at, key_number, patch_label, patch_size}
use Rattle.auto_masks.specs.PatchesView.{PatchesView}
use Rattle.auto_masks.specs.Screened.{IsScreened, passes, passing_keys}
use Rattle.auto_masks.proofs.SameKeys.{patches_too}

-- the key of a pixel, from whether it passes
byte_key : (b : Bool) → pos (bool_byte b) ≡ (if b then pos 1 else pos 0)
byte_key true = refl
byte_key false = refl

pub key_is : (b p : Bool) (key : ℤ) → key ≡ pos (bool_byte b) → b ≡ p → key ≡ (if p then pos 1 else pos 0)
key_is b p key e s = e ∙ byte_key b ∙ ap (λ (q : Bool). if q then pos 1 else pos 0) s

-- the same patches, of the same size and keys by other names
pub patches_of : (a w b h : ℕ) (these keys : List ℤ) (v : PatchesView) → a ≡ w → b ≡ h → these ≡ keys → ArePatchesOf a b (key_at a these) v → ArePatchesOf w h (key_at w keys) v
patches_of a w b h these keys v e f k is =
    subst (λ (n : ℕ). ArePatchesOf n h (key_at n keys) v) e (subst (λ (n : ℕ). ArePatchesOf a n (key_at a keys) v) f (subst (λ (ks : List ℤ). ArePatchesOf a b (key_at a ks) v) k is))

module _ (t : ScreenTerms) (weights : Plane) (clear : Field Bool) where
  pub keyed_none : (keys : List ℤ) → AreKeyed t weights clear 0 keys
  keyed_none keys = record { keyed = λ i l. absurd (omega arith) }

  pub keyed_more : (keys : List ℤ) (x y : ℕ) → AreKeyed t weights clear (y * weights.width + x) keys → x < weights.width → y * weights.width + x < length keys → (key : ℤ) → key ≡ passing_keys t weights clear x y → AreKeyed t weights clear (y * weights.width + x + 1) (slice_set keys (y * weights.width + x) key)
  keyed_more keys x y is across inside key e = record {
    keyed = λ i l. elim (below_or_last i (y * weights.width + x) l) [
      | inl m ↦ get_or-set_other keys (y * weights.width + x) i key (pos 0) (omega (arith, m)) ∙ is.keyed i m
      | inr f ↦ rw f (get_or-set_same keys (y * weights.width + x) key (pos 0) inside ∙ e ∙ value)
    ];
  }
    where
      value : passing_keys t weights clear x y ≡ passing_keys t weights clear ((y * weights.width + x) % weights.width) ((y * weights.width + x) / weights.width)
      value = rw (mod-mul-add y weights.width x across, div-mul-add y weights.width x across) refl

  pub keyed_next : (keys : List ℤ) (x y : ℕ) → AreKeyed t weights clear (y * weights.width + x) keys → x < weights.width → y * weights.width + x < length keys → (key : ℤ) → key ≡ passing_keys t weights clear x y → AreKeyed t weights clear (y * weights.width + (x + 1)) (slice_set keys (y * weights.width + x) key)
  keyed_next keys x y is across inside key e =
      let end : y * weights.width + x + 1 ≡ y * weights.width + (x + 1) = omega arith in
      subst (λ (n : ℕ). AreKeyed t weights clear n (slice_set keys (y * weights.width + x) key)) end (keyed_more keys x y is across inside key e)

  -- the key of each pixel
  pub keys_are : (keys : List ℤ) → AreKeyed t weights clear (weights.height * weights.width) keys → (x y : ℕ) → x < weights.width → y < weights.height → key_at weights.width keys x y ≡ passing_keys t weights clear x y
  keys_are keys is x y l h =
      let inside : y * weights.width + x < weights.width * weights.height = mul-add-lt y weights.width x weights.height h l in
      is.keyed (y * weights.width + x) (omega (arith, inside)) ∙ value
    where
      value : passing_keys t weights clear ((y * weights.width + x) % weights.width) ((y * weights.width + x) / weights.width) ≡ passing_keys t weights clear x y
      value = rw (mod-mul-add y weights.width x l, div-mul-add y weights.width x l) refl

  pub screened_is : (keys : List ℤ) (v : PatchesView) (m : MaskView) → AreKeyed t weights clear (weights.height * weights.width) keys → ArePatchesOf weights.width weights.height (key_at weights.width keys) v → IsMaskOf m weights.width weights.height (is_large v t.patch) → IsScreened t weights clear m
  screened_is keys v m keyed is kept =
      let same = patches_too weights.width weights.height (key_at weights.width keys) (passing_keys t weights clear) (keys_are keys keyed) v is in
      record {
        patches = v;
        of_passing = same;
        kept = record {
          width = kept.width;
          height = kept.height;
          clear_at = λ x y l h. kept.clear_at x y l h ∙ ap (λ (b : Bool). b && nat_le t.patch (patch_size v (patch_label v x y))) (labelled (patch_label v x y == no_label) (passes t weights clear x y) (patch_label v x y) (same.told x y l h));
        };
      }
    where
      labelled : (a b : Bool) (n : ℕ) → (if a then None else Some n) ≡ (if not (key_number (if b then pos 1 else pos 0) == 0) then Some n else None) → not a ≡ b
      labelled true true n e = cc
      labelled true false n e = refl
      labelled false true n e = refl
      labelled false false n e = cc
