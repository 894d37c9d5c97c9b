-- Masks and stamps once a list of edits is longer by one.
use Rattle.std.proofs.Common.{◌≡◌, ◌≢◌, ℕ, zero, suc, ◌+◌, ◌-◌, ◌<◌, ◌≤◌, inl, inr, sym, ◌∙◌, ap, ap₂, refl, arith, Bool, true, false, List, [], ◌∷◌, ◌++◌, length, replicate}
use Rattle.std.specs.Prelude.{if◌then◌else◌, slice_index, slice_set}
use Rattle.std.proofs.lemmas.Bool.{cases_eq}
use Rattle.std.proofs.lemmas.List.{length_push, take_all, take-append-le, get_or-set_same, get_or-set_other, get_or-replicate}
use Rattle.raster_model.specs.declared.script.Edit.{Edit}
use Rattle.raster_model.specs.declared.tiling.Tiling.{Tiling}
use Rattle.raster_model.specs.MaskView.{MaskView}
use Rattle.raster_model.specs.Masks.{open_at, IsMaskOf}
use Rattle.raster_model.specs.Scripts.{rect_of}
use Rattle.raster_model.specs.Sums.{Field}
use Rattle.raster_model.specs.Tiles.{tiles_of}
use Rattle.mask_revisions.specs.Edits.{has_pixel, opens, edited, mask_after, mask_at, differ_in, last_up_to, changes_at, stamp_of}
use Rattle.mask_revisions.specs.Revisions.{AreRevisionsOf, AddsEdit, AreChanged}
use Rattle.mask_revisions.specs.RevisionsView.{RevisionsView}
use Rattle.mask_revisions.specs.Steps.{AreStamped}
use Rattle.mask_revisions.proofs.Differences.{differ_same}
use Rattle.sums_and_lists.proofs.Orders.{below_or_last}
use Rattle.sums_and_lists.proofs.Tests.{true_and_false}

-- ---- one more edit
pub mask_after-push : (first : Field Bool) (es : List Edit) (e : Edit) → mask_after first (es ++ (e ∷ [])) ≡ edited e (mask_after first es)
unfolding mask_after
mask_after-push first [] e = refl
mask_after-push first (d ∷ es) e = mask_after-push (edited d first) es e

mask_at-old : (first : Field Bool) (es : List Edit) (e : Edit) (r : ℕ) → r ≤ length es → mask_at first (es ++ (e ∷ [])) r ≡ mask_at first es r
mask_at-old first es e r l = ap (mask_after first) (take-append-le r es (e ∷ []) l)

pub mask_at-last : (first : Field Bool) (es : List Edit) (r : ℕ) → r ≡ length es → mask_at first es r ≡ mask_after first es
mask_at-last first es r l = ap (mask_after first) (take_all r es (omega (arith, l)))

edited-same : (e : Edit) (m n : Field Bool) (x y : ℕ) → m x y ≡ n x y → edited e m x y ≡ edited e n x y
edited-same e m n x y h = ap (λ (k : Bool). if has_pixel (rect_of e) x y then opens e else k) h

last_up_to-same : (n : ℕ) (p q : ℕ → Bool) → ((r : ℕ) → 1 ≤ r → r ≤ n → p r ≡ q r) → last_up_to n p ≡ last_up_to n q
unfolding last_up_to
last_up_to-same zero p q h = refl
last_up_to-same (suc n) p q h = ap₂ (λ (t : Bool) (k : ℕ). if t then suc n else k) (h (suc n) (omega arith) (omega arith)) (last_up_to-same n p q (λ r l m. h r l (omega arith)))

last_up_to-more : (n : ℕ) (p : ℕ → Bool) → last_up_to (n + 1) p ≡ (if p (n + 1) then n + 1 else last_up_to n p)
unfolding last_up_to
last_up_to-more n p = let e : n + 1 ≡ suc n = omega arith in rw e refl

pub stamp_of-push : (g : Tiling) (first : Field Bool) (es : List Edit) (e : Edit) (t : ℕ) → stamp_of g first (es ++ (e ∷ [])) t ≡ (if differ_in g (mask_after first es) (edited e (mask_after first es)) t then length es + 1 else stamp_of g first es t)
stamp_of-push g first es e t =
    ap (λ (n : ℕ). last_up_to n p) (length_push es e)
    ∙ last_up_to-more (length es) p
    ∙ ap₂ (λ (b : Bool) (k : ℕ). if b then length es + 1 else k) newest (last_up_to-same (length es) p (changes_at g first es t) older)
  where
    p : ℕ → Bool
    p = changes_at g first (es ++ (e ∷ [])) t

    newest : changes_at g first (es ++ (e ∷ [])) t (length es + 1) ≡ differ_in g (mask_after first es) (edited e (mask_after first es)) t
    newest =
        let before : length es + 1 - 1 ≡ length es = omega arith in
        rw (before, mask_at-old first es e (length es) (omega arith), mask_at-last first es (length es) refl, mask_at-last first (es ++ (e ∷ [])) (length es + 1) (sym (length_push es e)), mask_after-push first es e) refl

    older : (r : ℕ) → 1 ≤ r → r ≤ length es → changes_at g first (es ++ (e ∷ [])) t r ≡ changes_at g first es t r
    older r l m = rw (mask_at-old first es e r m, mask_at-old first es e (r - 1) (omega arith)) refl

-- ---- revisions
pub begins : (first : MaskView) (g : Tiling) (stamps : List ℕ) (n : ℕ) → first.width ≡ g.width → first.height ≡ g.height → tiles_of g ≤ n → stamps ≡ replicate n 0 → AreRevisionsOf (open_at first) [] (record { mask = first; tiling = g; stamps = stamps; count = 0 })
unfolding mask_after last_up_to
begins first g stamps n w h few e = record {
  mask = record {
    width = w;
    height = h;
    clear_at = λ x y l m. refl;
  };
  count = refl;
  stamps = λ t l. rw e (get_or-replicate n t 0 0 (omega arith));
}

pub next_are : (first : Field Bool) (es : List Edit) (e : Edit) (old new : RevisionsView) → AreRevisionsOf first es old → AddsEdit old new e → AreRevisionsOf first (es ++ (e ∷ [])) new
next_are first es e old new is push = record {
  mask = record {
    width = push.mask.width ∙ width;
    height = push.mask.height ∙ height;
    clear_at = λ x y l m. (
        let a = rw push.tiling at l in
        let b = rw push.tiling at m in
        rw (mask_after-push first es e) (now x y a b));
  };
  count = push.count ∙ ap (λ (n : ℕ). n + 1) is.count ∙ sym (length_push es e);
  stamps = λ t l. (
      let a = rw push.tiling at l in
      let same = differ_same old.tiling (open_at old.mask) (open_at new.mask) (mask_after first es) (edited e (mask_after first es)) t (λ x y. is.mask.clear_at x y) now in
      rw push.tiling (push.stamps t a ∙ rw (same, is.count, is.stamps t a) (sym (stamp_of-push old.tiling first es e t))));
}
  where
    width : old.tiling.width ≡ new.tiling.width
    width = sym (ap (λ (g : Tiling). g.width) push.tiling)

    height : old.tiling.height ≡ new.tiling.height
    height = sym (ap (λ (g : Tiling). g.height) push.tiling)

    now : (x y : ℕ) → x < old.tiling.width → y < old.tiling.height → open_at new.mask x y ≡ edited e (mask_after first es) x y
    now x y l m = push.mask.clear_at x y l m ∙ edited-same e (open_at old.mask) (mask_after first es) x y (is.mask.clear_at x y l m)

-- ---- stamps of a list of tiles

pub stamped_none : (old tiles : List ℕ) (s : ℕ) → AreStamped old old tiles 0 s
stamped_none old tiles s = record { stamped = λ i l. absurd (omega arith); others = λ t n. refl }

pub stamped_on : (old new tiles : List ℕ) (n s : ℕ) → AreStamped old new tiles n s → slice_index tiles n < length new → AreStamped old (slice_set new (slice_index tiles n) s) tiles (n + 1) s
stamped_on old new tiles n s is inside = record {
  stamped = λ i l. elim (cases_eq (slice_index tiles i) (slice_index tiles n)) [
    | inl e ↦ rw e (get_or-set_same new (slice_index tiles n) s 0 inside)
    | inr d ↦ elim (below_or_last i n l) [
      | inl m ↦ get_or-set_other new (slice_index tiles n) (slice_index tiles i) s 0 d ∙ is.stamped i m
      | inr e ↦ absurd (d (ap (slice_index tiles) e))
    ]
  ];
  others = λ t away. (
      let d : t ≢ slice_index tiles n = λ e. away n (omega arith) (sym e) in
      get_or-set_other new (slice_index tiles n) t s 0 d ∙ is.others t (λ i l. away i (omega arith)));
}

-- ---- the tiles that changed have the new stamp
pub changed_same : (g : Tiling) (old new new' : Field Bool) (tiles : List ℕ) → ((x y : ℕ) → x < g.width → y < g.height → new x y ≡ new' x y) → AreChanged g old new tiles → AreChanged g old new' tiles
changed_same g old new new' tiles same is = record {
  rising = is.rising;
  exist = is.exist;
  changed = λ i l. rw (sym (differ_same g old new old new' (slice_index tiles i) (λ x y l m. refl) same)) (is.changed i l);
  all = λ t l h. is.all t l (differ_same g old new old new' t (λ x y l m. refl) same ∙ h);
}

pub stamps_are : (g : Tiling) (old new : Field Bool) (before after tiles : List ℕ) (s : ℕ) → AreChanged g old new tiles → AreStamped before after tiles (length tiles) s → (t : ℕ) → t < tiles_of g → slice_index after t ≡ (if differ_in g old new t then s else slice_index before t)
stamps_are g old new before after tiles s changed stamped t l = go (differ_in g old new t) refl
  where
    go : (b : Bool) → differ_in g old new t ≡ b → slice_index after t ≡ (if b then s else slice_index before t)
    go true h = (let u = changed.all t l h in rw u.2 at (stamped.stamped u.0 u.1))
    go false h = stamped.others t (λ i m e. true_and_false (differ_in g old new t) (rw e at (changed.changed i m)) h)

pub now_changed : (mask mask' : MaskView) (g : Tiling) (tiles : List ℕ) (e : Edit) → mask.width ≡ g.width → mask.height ≡ g.height → IsMaskOf mask' mask.width mask.height (edited e (open_at mask)) → AreChanged g (open_at mask) (edited e (open_at mask)) tiles → AreChanged g (open_at mask) (open_at mask') tiles
now_changed mask mask' g tiles e w h is changed = changed_same g (open_at mask) (edited e (open_at mask)) (open_at mask') tiles (λ x y l m. sym (is.clear_at x y (rw w l) (rw h m))) changed

pub pushed_is : (mask mask' : MaskView) (g : Tiling) (stamps stamps' tiles : List ℕ) (count : ℕ) (e : Edit) → mask.width ≡ g.width → mask.height ≡ g.height → IsMaskOf mask' mask.width mask.height (edited e (open_at mask)) → AreChanged g (open_at mask) (edited e (open_at mask)) tiles → AreStamped stamps stamps' tiles (length tiles) (count + 1) → AddsEdit (record { mask = mask; tiling = g; stamps = stamps; count = count }) (record { mask = mask'; tiling = g; stamps = stamps'; count = count + 1 }) e
pushed_is mask mask' g stamps stamps' tiles count e w h is changed stamped = record {
  tiling = refl;
  mask = record {
    width = is.width ∙ w;
    height = is.height ∙ h;
    clear_at = λ x y l m. is.clear_at x y (rw w l) (rw h m);
  };
  count = refl;
  stamps = stamps_are g (open_at mask) (open_at mask') stamps stamps' tiles (count + 1) (now_changed mask mask' g tiles e w h is changed) stamped;
}
