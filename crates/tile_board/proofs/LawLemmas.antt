-- The laws.
use Rattle.std.proofs.Common.{◌≡◌, ◌≢◌, ℕ, zero, suc, ◌+◌, ◌-◌, ◌<◌, ◌≤◌, ◌⊎◌, inl, inr, sym, ◌∙◌, ap, refl, subst, arith, List, [], ◌∷◌, ◌++◌, take}
use Rattle.std.specs.Prelude.{Option, Some, None, slice_get, ⊤}
use Rattle.raster_model.specs.declared.session.Session.{Session}
use Rattle.raster_model.specs.Tiles.{tile_at}
use Rattle.tile_board.specs.declared.answers.Advance.{Advance}
use Rattle.tile_board.specs.declared.answers.Advance.TheVariants as advances
use Rattle.tile_board.specs.declared.entry.Entry.{Entry}
use Rattle.tile_board.specs.declared.entry.Entry.TheVariants.{Revised, Kept, Published, Settled, Shown}
use Rattle.tile_board.specs.BoardView.{BoardView}
use Rattle.tile_board.specs.Calls.{AddsEntry, IsAdvance}
use Rattle.tile_board.specs.Histories.{IsLegal, IsStep, mask_in, newest_of, now_of, present_mask}
use Rattle.tile_board.specs.Runs.{BoardCall, IsCall, LeadTo, IsNoLater, NamesRevision, ShownAreNewest, PublishedRise, EveryHistoryIsLegal, LegalHistoriesMoveOn, HeldAreGoodAtStamp}
use Rattle.tile_board.specs.Runs.BoardCall.{Keeps, KeepsSolved, Publishes, PublishesMade, Advances, Other}
use Rattle.tile_board.proofs.HistoryLemmas.{legal_none, legal_push, legal_take, newest_more, newest_same, newest_within}
use Rattle.tile_board.proofs.KeptLemmas.{good_across}
use Rattle.tile_board.proofs.EarlierLemmas.{same_at_stamp}
use Rattle.tile_board.proofs.ListLemmas.{take_none, take_one}

-- ---- every call
module _ (s : Session) where
  abbrev IsLegalBoard : BoardView → Type 0
  IsLegalBoard v = (v.session ≡ s) × IsLegal s v.entries

  added : (old new : BoardView) (e : Entry) → AddsEntry old new e → IsLegalBoard old → IsLegalBoard new
  added old new e adds is = (
    adds.session ∙ is.0,
    subst (IsLegal s) (sym adds.entries) (legal_push s old.entries e is.1 (subst (λ (t : Session). IsStep t old.entries e) is.0 adds.step)),
  )

  advanced : (old new : BoardView) (a : ℕ) (answer : Advance) → IsAdvance old new a answer → IsLegalBoard old → IsLegalBoard new
  advanced old new a (advances.Revised r) c is = added old new (Revised a c.1) c.2.adds is
  advanced old new a (advances.Settled r) c is = added old new (Settled a r) c.adds is
  advanced old new a (advances.Shown r) c is = added old new (Shown a r) c.adds is
  advanced old new a (advances.NotYet r) c is = subst IsLegalBoard (sym c.3) is
  advanced old new a advances.Ended c is = subst IsLegalBoard (sym c.1) is

  called : (call : BoardCall) (old new : BoardView) → IsCall call old new → IsLegalBoard old → IsLegalBoard new
  called (Keeps k) old new c is = added old new (Kept k.tile k.stamp) c.adds is
  called (KeepsSolved k) old new c is = added old new (Kept k.tile k.stamp) c.adds is
  called (Publishes a seams) old new c is = added old new (Published a seams.revision) c.adds is
  called (PublishesMade a surface) old new c is = added old new (Published a surface.seams.revision) c.adds is
  called (Advances a answer) old new c is = advanced old new a answer c is
  called Other old new c is = subst IsLegalBoard (sym c) is

  led : (calls : List BoardCall) (first last : BoardView) → LeadTo calls first last → IsLegalBoard first → IsLegalBoard last
  led [] first last c is = subst IsLegalBoard (sym c) is
  led (call ∷ calls) first last c is = led calls c.0 last c.2 (called call first c.0 c.1 is)

pub every_history_is_legal : EveryHistoryIsLegal
every_history_is_legal s first last calls new run = led s calls first last run (new.session, subst (IsLegal s) (sym new.entries) (legal_none s))

-- ---- revisions only rise
none_later : (r : Option ℕ) → IsNoLater r r
none_later None = tt
none_later (Some r) = omega arith

later_trans : (q r s : Option ℕ) → IsNoLater q r → IsNoLater r s → IsNoLater q s
later_trans None r s a b = tt
later_trans (Some q) None s a b = absurd a
later_trans (Some q) (Some r) None a b = absurd b
later_trans (Some q) (Some r) (Some s) a b = omega (arith, a, b)

under : (r : Option ℕ) (n : ℕ) → ((q : ℕ) → r ≡ Some q → q ≤ n) → IsNoLater r (Some n)
under None n h = tt
under (Some q) n h = h q refl

same_is : (q r : Option ℕ) → r ≡ q → IsNoLater q r
same_is q r e = subst (λ (x : Option ℕ). IsNoLater q x) (sym e) (none_later q)

step_on : (s : Session) (H : List Entry) (e : Entry) → IsLegal s H → IsStep s H e → IsNoLater (newest_of H) (newest_of (H ++ (e ∷ [])))
step_on s H (Revised a c) legal step = same_is (newest_of H) (newest_of (H ++ (Revised a c ∷ []))) (newest_same H (Revised a c) refl)
step_on s H (Kept t r) legal step = same_is (newest_of H) (newest_of (H ++ (Kept t r ∷ []))) (newest_same H (Kept t r) refl)
step_on s H (Published a r) legal step = subst (λ (x : Option ℕ). IsNoLater (newest_of H) x) (sym (newest_more H a r)) (under (newest_of H) r (λ q g. omega (arith, newest_within s H legal q g, step.1)))
step_on s H (Settled a r) legal step = same_is (newest_of H) (newest_of (H ++ (Settled a r ∷ []))) (newest_same H (Settled a r) refl)
step_on s H (Shown a r) legal step = same_is (newest_of H) (newest_of (H ++ (Shown a r ∷ []))) (newest_same H (Shown a r) refl)

module _ (s : Session) (H : List Entry) (legal : IsLegal s H) where
  one_on : (n : ℕ) (o : Option Entry) → slice_get H n ≡ o → IsNoLater (newest_of (take n H)) (newest_of (take (suc n) H))
  one_on n None g = subst (λ (K : List Entry). IsNoLater (newest_of (take n H)) (newest_of K)) (sym (take_none H n g)) (none_later (newest_of (take n H)))
  one_on n (Some e) g = subst (λ (K : List Entry). IsNoLater (newest_of (take n H)) (newest_of K)) (sym (take_one H n e g)) (step_on s (take n H) e (legal_take s H n legal) (legal n e g))

  rises : (i d : ℕ) → IsNoLater (newest_of (take i H)) (newest_of (take (d + i) H))
  rises i zero = (let e : 0 + i ≡ i = omega arith in rw e (none_later (newest_of (take i H))))
  rises i (suc d) =
      let e : suc d + i ≡ suc (d + i) = omega arith in
      rw e (later_trans (newest_of (take i H)) (newest_of (take (d + i) H)) (newest_of (take (suc (d + i)) H)) (rises i d) (one_on (d + i) (slice_get H (d + i)) refl))

  no_earlier : (i j : ℕ) → i ≤ j → IsNoLater (newest_of (take i H)) (newest_of (take j H))
  no_earlier i j l = (let e : j - i + i ≡ j = omega (arith, l) in rw e at (rises i (j - i)))

  -- a publication is the newest right after it
  behind : (i a r : ℕ) → slice_get H i ≡ Some (Published a r) → newest_of (take (suc i) H) ≡ Some r
  behind i a r g = ap newest_of (take_one H i (Published a r) g) ∙ newest_more (take i H) a r

  entry_at : (i j : ℕ) → i ≤ j → (e : Entry) → slice_get H i ≡ Some e → slice_get H j ≡ Some e → ⊤
  entry_at i j l e p q = tt

  named : (i : ℕ) (e : Entry) (r : Option ℕ) → slice_get H i ≡ Some e → NamesRevision e r → IsNoLater r (newest_of (take (suc i) H))
  named i (Revised a c) r g n = absurd n
  named i (Kept t q) r g n = absurd n
  named i (Published a q) r g n = same_is r (newest_of (take (suc i) H)) (behind i a q g ∙ sym n)
  named i (Settled a q) r g n = later_trans r (newest_of (take i H)) (newest_of (take (suc i) H)) (same_is r (newest_of (take i H)) ((legal i (Settled a q) g).2 ∙ sym n)) (no_earlier i (suc i) (omega arith))
  named i (Shown a q) r g n = later_trans r (newest_of (take i H)) (newest_of (take (suc i) H)) (same_is r (newest_of (take i H)) (sym (n ∙ (legal i (Shown a q) g).1))) (no_earlier i (suc i) (omega arith))

  before_or : (i j : ℕ) → i ≤ j → (suc i ≤ j) ⊎ (i ≡ j)
  before_or i j l = grind arith

  same_entry : (e d : Entry) (o : Option Entry) → o ≡ Some e → o ≡ Some d → e ≡ d
  same_entry e d o p q = cc

  pub shown_are_newest : ShownAreNewest H
  shown_are_newest j b t g =
      let is = (legal j (Shown b t) g).1 in (
        is,
        λ i e r l h n. elim (before_or i j l) [
          | inl m ↦ later_trans r (newest_of (take (suc i) H)) t (named i e r h n) (subst (λ (x : Option ℕ). IsNoLater (newest_of (take (suc i) H)) x) (sym is) (no_earlier (suc i) j m))
          | inr q ↦ (
              let d = same_entry e (Shown b t) (slice_get H j) (subst (λ (x : ℕ). slice_get H x ≡ Some e) q h) g in
              let m : NamesRevision (Shown b t) r = subst (λ (x : Entry). NamesRevision x r) d n in
              same_is r t (sym m))
        ],
      )

  pub published_rise : PublishedRise H
  published_rise i j a b r t l g h =
      let step = legal j (Published b t) h in
      let at = subst (λ (x : Option ℕ). IsNoLater x (newest_of (take j H))) (behind i a r g) (no_earlier (suc i) j l) in
      between (newest_of (take j H)) refl at step.1 step.2
    where
      between : (o : Option ℕ) → newest_of (take j H) ≡ o → IsNoLater (Some r) o → t ≡ now_of (take j H) → newest_of (take j H) ≢ Some t → r < t
      between None e w p d = absurd w
      between (Some q) e w p d =
          let m = newest_within s (take j H) (legal_take s H j legal) q e in
          let n : q ≢ t = λ x. d (e ∙ ap Some x) in
          strictly r q t w (omega (arith, m, p)) n
        where
          strictly : (x y z : ℕ) → x ≤ y → y ≤ z → y ≢ z → x < z
          strictly x y z u v w = grind arith

pub legal_histories_move_on : LegalHistoriesMoveOn
legal_histories_move_on s H legal = (shown_are_newest s H legal, published_rise s H legal)

-- ---- results at their stamps
pub held_are_good_at_stamp : HeldAreGoodAtStamp
held_are_good_at_stamp s H t k l held = (good_across s (present_mask s H) (mask_in s H k.stamp) k (rw held.tile l) (λ x y a b e. sym (same x y a b (e ∙ held.tile))) held.good, same)
  where
    same : (x y : ℕ) → x < s.scene.tiling.width → y < s.scene.tiling.height → tile_at s.scene.tiling x y ≡ t → mask_in s H k.stamp x y ≡ present_mask s H x y
    same x y a b e = same_at_stamp s H t k.stamp x y held.stamp a b e
