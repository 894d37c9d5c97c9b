-- Histories with one more entry.
use Rattle.std.proofs.Common.{◌≡◌, ℕ, zero, suc, ◌+◌, ◌-◌, ◌<◌, ◌≤◌, inl, inr, sym, ◌∙◌, ap, ap₂, refl, subst, arith, Bool, true, false, List, [], ◌∷◌, ◌++◌, length, take}
use Rattle.std.specs.Prelude.{Option, Some, None, slice_get, cond, ◌||◌, ◌&&◌, ◌==◌}
use Rattle.std.specs.List.{cons_option, list_any}
use Rattle.std.proofs.lemmas.Bool.{eqb-true}
use Rattle.std.proofs.lemmas.List.{append-nil, length_push, take_all, take-append-le}
use Rattle.std.proofs.lemmas.List.Elements.{filter_map-append}
use Rattle.std.proofs.lemmas.List.Folds.{list_any-append}
use Rattle.std.proofs.lemmas.List.Sums.{sum_by_push}
use Rattle.raster_model.specs.declared.script.Command.{Command}
use Rattle.raster_model.specs.declared.script.Command.TheVariants.{Change, Settle, Show}
use Rattle.raster_model.specs.declared.script.Edit.{Edit}
use Rattle.raster_model.specs.declared.session.Session.{Session}
use Rattle.raster_model.specs.Masks.{open_at}
use Rattle.mask_revisions.specs.Edits.{edited, mask_after, stamp_of}
use Rattle.mask_revisions.proofs.CallerLemmas.{stamps_look_back}
use Rattle.mask_revisions.proofs.Histories.{mask_after-push, mask_at-last}
use Rattle.tile_board.specs.declared.entry.Entry.{Entry}
use Rattle.tile_board.specs.declared.entry.Entry.TheVariants.{Revised, Kept, Published, Settled, Shown}
use Rattle.tile_board.specs.Histories.{IsLegal, IsStep, done_by, edit_of, edits_of, is_kept, keeps, mask_in, names, newest_of, next_command, now_of, present_mask, published_in, published_of, script_of, stamp_in}
use Rattle.tile_board.proofs.ListLemmas.{get_below, get_push, get_take, take_one, take_none, last_push}
use Rattle.sums_and_lists.proofs.Tests.{or_false}

-- ---- legal histories
pub legal_none : (s : Session) → IsLegal s []
legal_none s n e g = cc

pub legal_push : (s : Session) (H : List Entry) (e : Entry) → IsLegal s H → IsStep s H e → IsLegal s (H ++ (e ∷ []))
legal_push s H e legal step n z g = elim (get_push H e n z g) [
  | inl p ↦ subst (λ (K : List Entry). IsStep s K z) (sym p.1) (legal n z p.0)
  | inr q ↦ subst (λ (K : List Entry). IsStep s K z) (sym q.1) (subst (λ (w : Entry). IsStep s H w) q.0 step)
]

pub legal_take : (s : Session) (H : List Entry) (n : ℕ) → IsLegal s H → IsLegal s (take n H)
legal_take s H n legal m z g = (let i = get_take H n m z g in subst (λ (K : List Entry). IsStep s K z) (sym i.1) (legal m z i.0))

-- what holds of the empty history, and of each longer one where it holds before, holds of all
module _ (s : Session) (P : List Entry → Type 0) (first : P []) (next : (H : List Entry) (e : Entry) → IsLegal s H → IsStep s H e → P H → P (H ++ (e ∷ []))) where
  one : (H : List Entry) (n : ℕ) (o : Option Entry) → slice_get H n ≡ o → IsLegal s H → P (take n H) → P (take (suc n) H)
  one H n None g legal p = subst P (sym (take_none H n g)) p
  one H n (Some e) g legal p = subst P (sym (take_one H n e g)) (next (take n H) e (legal_take s H n legal) (legal n e g) p)

  at_all : (H : List Entry) (n : ℕ) → IsLegal s H → P (take n H)
  at_all H zero legal = first
  at_all H (suc n) legal = one H n (slice_get H n) refl legal (at_all H n legal)

  pub by_entries : (H : List Entry) → IsLegal s H → P H
  by_entries H legal = subst P (take_all (length H) H (omega arith)) (at_all H (length H) legal)

-- ---- what follows from one more entry
pub edits_same : (H : List Entry) (e : Entry) → edit_of e ≡ None → edits_of (H ++ (e ∷ [])) ≡ edits_of H
edits_same H e n = filter_map-append edit_of H (e ∷ []) ∙ ap (λ (o : Option Edit). edits_of H ++ cons_option o []) n ∙ append-nil (edits_of H)

pub edits_more : (H : List Entry) (a : ℕ) (c : Edit) → edits_of (H ++ (Revised a c ∷ [])) ≡ edits_of H ++ (c ∷ [])
edits_more H a c = filter_map-append edit_of H (Revised a c ∷ [])

pub published_same : (H : List Entry) (e : Entry) → published_of e ≡ None → published_in (H ++ (e ∷ [])) ≡ published_in H
published_same H e n = filter_map-append published_of H (e ∷ []) ∙ ap (λ (o : Option ℕ). published_in H ++ cons_option o []) n ∙ append-nil (published_in H)

pub published_more : (H : List Entry) (a r : ℕ) → published_in (H ++ (Published a r ∷ [])) ≡ published_in H ++ (r ∷ [])
published_more H a r = filter_map-append published_of H (Published a r ∷ [])

pub newest_same : (H : List Entry) (e : Entry) → published_of e ≡ None → newest_of (H ++ (e ∷ [])) ≡ newest_of H
newest_same H e n = ap (λ (rs : List ℕ). slice_get rs (length rs - 1)) (published_same H e n)

pub newest_more : (H : List Entry) (a r : ℕ) → newest_of (H ++ (Published a r ∷ [])) ≡ Some r
newest_more H a r = ap (λ (rs : List ℕ). slice_get rs (length rs - 1)) (published_more H a r) ∙ last_push (published_in H) r

pub done_push : (H : List Entry) (e : Entry) (a : ℕ) → done_by a (H ++ (e ∷ [])) ≡ done_by a H + cond (names a e) 1 0
done_push H e a = sum_by_push (λ (x : Entry). cond (names a x) 1 0) H e

grows : (H : List Entry) (e : Entry) (o : Option Edit) → edit_of e ≡ o → now_of H ≤ now_of (H ++ (e ∷ []))
grows H e None n = omega (arith, ap (λ (l : List Edit). length l) (edits_same H e n))
grows H e (Some c) n =
    let m = ap (λ (l : List Edit). length l) (filter_map-append edit_of H (e ∷ []) ∙ ap (λ (o : Option Edit). edits_of H ++ cons_option o []) n) in
    omega (arith, m ∙ length_push (edits_of H) c)

pub now_grows : (H : List Entry) (e : Entry) → now_of H ≤ now_of (H ++ (e ∷ []))
now_grows H e = grows H e (edit_of e) refl

pub now_more : (H : List Entry) (a : ℕ) (c : Edit) → now_of (H ++ (Revised a c ∷ [])) ≡ now_of H + 1
now_more H a c = ap (λ (l : List Edit). length l) (edits_more H a c) ∙ length_push (edits_of H) c

-- ---- masks, stamps, kept tiles
pub stamp_same : (s : Session) (H : List Entry) (e : Entry) (t : ℕ) → edit_of e ≡ None → stamp_in s H t ≡ stamp_in s (H ++ (e ∷ [])) t
stamp_same s H e t n = ap (λ (l : List Edit). stamp_of s.scene.tiling (open_at s.first_mask) l t) (sym (edits_same H e n))

pub present_same : (s : Session) (H : List Entry) (e : Entry) → edit_of e ≡ None → present_mask s H ≡ present_mask s (H ++ (e ∷ []))
present_same s H e n = ap (λ (l : List Edit). mask_after (open_at s.first_mask) (take (length l) l)) (sym (edits_same H e n))

pub present_is : (s : Session) (H : List Entry) → present_mask s H ≡ mask_after (open_at s.first_mask) (edits_of H)
present_is s H = mask_at-last (open_at s.first_mask) (edits_of H) (now_of H) refl

pub present_more : (s : Session) (H : List Entry) (a : ℕ) (c : Edit) → present_mask s (H ++ (Revised a c ∷ [])) ≡ edited c (mask_after (open_at s.first_mask) (edits_of H))
present_more s H a c = present_is s (H ++ (Revised a c ∷ [])) ∙ ap (mask_after (open_at s.first_mask)) (edits_more H a c) ∙ mask_after-push (open_at s.first_mask) (edits_of H) c

-- masks at revisions that were there stay
pub mask_stays : (s : Session) (H : List Entry) (e : Entry) (r : ℕ) → r ≤ now_of H → mask_in s (H ++ (e ∷ [])) r ≡ mask_in s H r
mask_stays s H e r l = ap (mask_after (open_at s.first_mask)) (ap (take r) (filter_map-append edit_of H (e ∷ [])) ∙ take-append-le r (edits_of H) (cons_option (edit_of e) []) l)

pub keeps_push : (t r : ℕ) (H : List Entry) (e : Entry) → list_any (keeps t r) (H ++ (e ∷ [])) ≡ (list_any (keeps t r) H || keeps t r e)
keeps_push t r H e = list_any-append (keeps t r) H (e ∷ []) ∙ ap (λ (b : Bool). list_any (keeps t r) H || b) (or_false (keeps t r e))

pub kept_push : (s : Session) (H : List Entry) (e : Entry) (t : ℕ) → edit_of e ≡ None → is_kept s (H ++ (e ∷ [])) t ≡ (is_kept s H t || keeps t (stamp_in s H t) e)
kept_push s H e t n = ap (λ (r : ℕ). list_any (keeps t r) (H ++ (e ∷ []))) (sym (stamp_same s H e t n)) ∙ keeps_push t (stamp_in s H t) H e

pub kept_same : (s : Session) (H : List Entry) (e : Entry) (t : ℕ) → edit_of e ≡ None → keeps t (stamp_in s H t) e ≡ false → is_kept s H t ≡ is_kept s (H ++ (e ∷ [])) t
kept_same s H e t n k = sym (kept_push s H e t n ∙ ap (λ (b : Bool). is_kept s H t || b) k ∙ or_false (is_kept s H t))

-- no entry of a legal history keeps a tile at a later stamp than its revision
pub stamp_within : (s : Session) (H : List Entry) (t : ℕ) → stamp_in s H t ≤ now_of H
stamp_within s H t = (stamps_look_back s.scene.tiling (open_at s.first_mask) (edits_of H) t).within

not_at : (b : Bool) (q r : ℕ) → q < r → (b && (q == r)) ≡ false
not_at b q r l = grind (arith)

early : (s : Session) (H : List Entry) (e : Entry) (t r : ℕ) → IsStep s H e → now_of H < r → keeps t r e ≡ false
early s H (Revised a c) t r step l = refl
early s H (Kept u q) t r step l = (let w = stamp_within s H u in not_at (u == t) q r (omega (arith, w, step.1, l)))
early s H (Published a q) t r step l = refl
early s H (Settled a q) t r step l = refl
early s H (Shown a q) t r step l = refl

pub none_later : (s : Session) (H : List Entry) → IsLegal s H → (t r : ℕ) → now_of H < r → list_any (keeps t r) H ≡ false
none_later s = by_entries s (λ (H : List Entry). (t r : ℕ) → now_of H < r → list_any (keeps t r) H ≡ false) (λ t r l. refl) (λ H e legal step before t r l.
    let m = now_grows H e in
    let k : now_of H < r = omega (arith, m, l) in
    keeps_push t r H e ∙ ap₂ ◌||◌ (before t r k) (early s H e t r step k))

-- ---- commands done
one_more : (s : Session) (H : List Entry) (a b : ℕ) (c : Command) (t : Bool) → (b == a) ≡ t → next_command s H b ≡ Some c → done_by a H ≤ length (script_of s a) → done_by a H + cond t 1 0 ≤ length (script_of s a)
one_more s H a b c false q n l = omega (arith, l)
one_more s H a b c true q n l = (let e = eqb-true b a q in let g = get_below (script_of s a) (done_by a H) c (rw e at n) in omega (arith, g))

within : (s : Session) (H : List Entry) (e : Entry) (a : ℕ) → IsStep s H e → done_by a H ≤ length (script_of s a) → done_by a H + cond (names a e) 1 0 ≤ length (script_of s a)
within s H (Revised b c) a step l = one_more s H a b (Change c) (b == a) refl step l
within s H (Kept t r) a step l = omega (arith, l)
within s H (Published b r) a step l = one_more s H a b Settle (b == a) refl step.0 l
within s H (Settled b r) a step l = one_more s H a b Settle (b == a) refl step.0 l
within s H (Shown b r) a step l = one_more s H a b Show (b == a) refl step.0 l

pub done_within : (s : Session) (H : List Entry) → IsLegal s H → (a : ℕ) → done_by a H ≤ length (script_of s a)
done_within s = by_entries s (λ (H : List Entry). (a : ℕ) → done_by a H ≤ length (script_of s a)) (λ a. omega arith) (λ H e legal step before a.
    subst (λ (n : ℕ). n ≤ length (script_of s a)) (sym (done_push H e a)) (within s H e a step (before a)))

-- ---- published revisions
newest_at : (s : Session) (H : List Entry) (e : Entry) → IsStep s H e → ((r : ℕ) → newest_of H ≡ Some r → r ≤ now_of H) → (r : ℕ) → newest_of (H ++ (e ∷ [])) ≡ Some r → r ≤ now_of (H ++ (e ∷ []))
newest_at s H (Revised a c) step before r n = (let m = now_grows H (Revised a c) in omega (arith, before r (sym (newest_same H (Revised a c) refl) ∙ n), m))
newest_at s H (Kept t q) step before r n = (let m = now_grows H (Kept t q) in omega (arith, before r (sym (newest_same H (Kept t q) refl) ∙ n), m))
newest_at s H (Published a q) step before r n =
    let m = now_grows H (Published a q) in
    let e : q ≡ r = some_same q r (sym (newest_more H a q) ∙ n) in
    omega (arith, e, step.1, m)
  where
    some_same : (x y : ℕ) → Some x ≡ Some y → x ≡ y
    some_same x y h = cc
newest_at s H (Settled a q) step before r n = (let m = now_grows H (Settled a q) in omega (arith, before r (sym (newest_same H (Settled a q) refl) ∙ n), m))
newest_at s H (Shown a q) step before r n = (let m = now_grows H (Shown a q) in omega (arith, before r (sym (newest_same H (Shown a q) refl) ∙ n), m))

pub newest_within : (s : Session) (H : List Entry) → IsLegal s H → (r : ℕ) → newest_of H ≡ Some r → r ≤ now_of H
newest_within s = by_entries s (λ (H : List Entry). (r : ℕ) → newest_of H ≡ Some r → r ≤ now_of H) (λ r n. absurd (cc)) (λ H e legal step before. newest_at s H e step before)
