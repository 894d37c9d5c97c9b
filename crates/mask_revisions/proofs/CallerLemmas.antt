-- For callers: since the revision of its stamp a tile has not changed.
use Rattle.std.proofs.Common.{◌≡◌, ℕ, zero, suc, ◌+◌, ◌-◌, ◌<◌, ◌≤◌, ◌⊎◌, inl, inr, ◌∙◌, ap, refl, arith, Bool, true, false, List, length}
use Rattle.raster_model.specs.declared.script.Edit.{Edit}
use Rattle.raster_model.specs.declared.tiling.Tiling.{Tiling}
use Rattle.raster_model.specs.Sums.{Field}
use Rattle.raster_model.specs.Tiles.{tile_at}
use Rattle.mask_revisions.specs.Edits.{mask_after, mask_at, last_up_to, changes_at, stamp_of}
use Rattle.mask_revisions.specs.Stamps.{StampsLookBack}
use Rattle.mask_revisions.proofs.Differences.{differ_tells, same_from}
use Rattle.mask_revisions.proofs.Histories.{mask_at-last}
use Rattle.std.proofs.lemmas.Bool.{cases_Bool}

-- ---- the greatest number that passes a test

last_or : (i n : ℕ) → i ≤ suc n → (i ≤ n) ⊎ (i ≡ suc n)
last_or i n l = grind arith

last_within : (n : ℕ) (p : ℕ → Bool) → last_up_to n p ≤ n
unfolding last_up_to
last_within zero p = omega arith
last_within (suc n) p = elim (cases_Bool (p (suc n))) [ inl h ↦ rw h (omega arith) | inr h ↦ rw h (omega (arith, last_within n p)) ]

last_passes : (n : ℕ) (p : ℕ → Bool) → 1 ≤ last_up_to n p → p (last_up_to n p) ≡ true
unfolding last_up_to
last_passes zero p l = absurd (omega arith)
last_passes (suc n) p l = elim (cases_Bool (p (suc n))) [
  | inl h ↦ rw h h
  | inr h ↦ (let m = rw h at l in rw h (last_passes n p m))
]

none_later : (n : ℕ) (p : ℕ → Bool) (s : ℕ) → last_up_to n p < s → s ≤ n → p s ≡ false
unfolding last_up_to
none_later zero p s l m = absurd (omega arith)
none_later (suc n) p s l m = elim (cases_Bool (p (suc n))) [
  | inl h ↦ (let k = rw h at l in absurd (omega (arith, k, m)))
  | inr h ↦ elim (last_or s n m) [
    | inl k ↦ (let j = rw h at l in none_later n p s j k)
    | inr e ↦ rw e h
  ]
]

-- ---- stamps
pub stamps_look_back : StampsLookBack
stamps_look_back g first edits t = record {
  within = last_within (length edits) (changes_at g first edits t);
  changed = λ l. (
      let r = stamp_of g first edits t in
      differ_tells g (mask_at first edits (r - 1)) (mask_at first edits r) t (last_passes (length edits) (changes_at g first edits t) l));
  since = λ s l m x y a b e. same_from g (mask_at first edits (s - 1)) (mask_at first edits s) t (none_later (length edits) (changes_at g first edits t) s l m) x y a b e;
}

module _ (g : Tiling) (first : Field Bool) (edits : List Edit) (x y : ℕ) (a : x < g.width) (b : y < g.height) where
  no_change : (r d : ℕ) → stamp_of g first edits (tile_at g x y) ≤ r → r + d ≤ length edits → mask_at first edits r x y ≡ mask_at first edits (r + d) x y
  no_change r zero l m = let e : r + 0 ≡ r = omega arith in rw e refl
  no_change r (suc d) l m =
      let e : r + suc d - 1 ≡ r + d = omega arith in
      let step = (stamps_look_back g first edits (tile_at g x y)).since (r + suc d) (omega arith) m x y a b refl in
      no_change r d l (omega arith) ∙ (rw e at step)

  -- a pixel is at its tile's stamp, and at each later revision, as it is now
  pub same_since_stamp : (r : ℕ) → stamp_of g first edits (tile_at g x y) ≤ r → r ≤ length edits → mask_at first edits r x y ≡ mask_after first edits x y
  same_since_stamp r l m =
      let e : r + (length edits - r) ≡ length edits = omega arith in
      let last = rw e at (no_change r (length edits - r) l (omega arith)) in
      last ∙ ap (λ (f : Field Bool). f x y) (mask_at-last first edits (length edits) refl)
