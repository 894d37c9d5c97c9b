-- What a longer history names as published is no earlier.
use Rattle.std.proofs.Common.{◌≡◌, ℕ, ◌≤◌, List, [], ◌∷◌, ◌++◌, Option, Some, None, Result, Ok, Err, slice_get, take, length, refl, ap, sym, ◌∙◌, subst, arith, append_assoc}
use Rattle.std.specs.Result.{IfOk, OnOk}
use Rattle.std.proofs.lemmas.List.{append-nil}
use mathlib.Core.List.{IsPrefix}
use Rattle.raster_model.specs.declared.script.Edit.{Edit}
use Rattle.raster_model.specs.declared.session.Session.{Session}
use Rattle.certificates.specs.declared.results.SeamResult.{SeamResult}
use Rattle.tile_board.specs.declared.answers.Advance.{Advance}
use Rattle.tile_board.specs.declared.answers.Advance.TheVariants as advances
use Rattle.tile_board.specs.declared.answers.AdvanceFault.{AdvanceFault}
use Rattle.tile_board.specs.declared.answers.PublishFault.{PublishFault}
use Rattle.tile_board.specs.declared.entry.Entry.{Entry}
use Rattle.tile_board.specs.declared.entry.Entry.TheVariants.{Kept, Published, Revised, Settled, Shown}
use Rattle.tile_board.specs.BoardView.{BoardView}
use Rattle.surface_snapshots.specs.Parts.{Parts}
use Rattle.tile_board.specs.Calls.{IsAdvance, IsMadePublication, IsPublication}
use Rattle.tile_board.specs.Histories.{IsLegal, IsStep, newest_of, now_of}
use Rattle.tile_board.specs.Runs.{IsNoLater}
use Rattle.tile_board.proofs.HistoryLemmas.{edits_same, legal_take, newest_more, newest_same, newest_within}
use Rattle.board_desk.specs.Answers.{IsCurrent, IsUpToDate}
use Rattle.board_desk.specs.Passes.{Called, IsLaterPass, PassView}

-- ---- revisions, or none
later_self : (r : Option ℕ) → IsNoLater r r
later_self None = tt
later_self (Some r) = omega arith

later_trans : (q r s : Option ℕ) → IsNoLater q r → IsNoLater r s → IsNoLater q s
later_trans None r s a b = tt
later_trans (Some q) None s a b = absurd a
later_trans (Some q) (Some r) None a b = absurd b
later_trans (Some q) (Some r) (Some s) a b = omega (arith, a, b)

later_is : (q r : Option ℕ) → r ≡ q → IsNoLater q r
later_is q r e = subst (λ (x : Option ℕ). IsNoLater q x) (sym e) (later_self q)

within : (r : Option ℕ) (n : ℕ) → ((q : ℕ) → r ≡ Some q → q ≤ n) → IsNoLater r (Some n)
within None n h = tt
within (Some q) n h = h q refl

-- ---- one entry more
one_more : (s : Session) (H : List Entry) (e : Entry) → IsLegal s H → IsStep s H e → IsNoLater (newest_of H) (newest_of (H ++ e ∷ []))
one_more s H (Revised a c) legal next = later_is (newest_of H) (newest_of (H ++ Revised a c ∷ [])) (newest_same H (Revised a c) refl)
one_more s H (Kept t r) legal next = later_is (newest_of H) (newest_of (H ++ Kept t r ∷ [])) (newest_same H (Kept t r) refl)
one_more s H (Published a r) legal next =
    subst (λ (x : Option ℕ). IsNoLater (newest_of H) x) (sym (newest_more H a r)) (within (newest_of H) r (λ q g. omega (arith, newest_within s H legal q g, next.1)))
one_more s H (Settled a r) legal next = later_is (newest_of H) (newest_of (H ++ Settled a r ∷ [])) (newest_same H (Settled a r) refl)
one_more s H (Shown a r) legal next = later_is (newest_of H) (newest_of (H ++ Shown a r ∷ [])) (newest_same H (Shown a r) refl)

module _ {A : Type 0} where
  get_at : (xs ys : List A) (y : A) → slice_get (xs ++ y ∷ ys) (length xs) ≡ Some y
  get_at [] ys y = refl
  get_at (x ∷ xs) ys y = get_at xs ys y

  take_at : (xs ys : List A) → take (length xs) (xs ++ ys) ≡ xs
  take_at [] ys = refl
  take_at (x ∷ xs) ys = ap (λ (l : List A). x ∷ l) (take_at xs ys)

-- ---- any number more
pub legal_before : (s : Session) (H rest : List Entry) → IsLegal s (H ++ rest) → IsLegal s H
legal_before s H rest legal = subst (IsLegal s) (take_at H rest) (legal_take s (H ++ rest) (length H) legal)

pub legal_prefix : (s : Session) (G H : List Entry) → IsPrefix G H → IsLegal s H → IsLegal s G
legal_prefix s G H p legal = legal_before s G p.0 (subst (IsLegal s) (sym p.1) legal)

newest_on : (s : Session) (rest H : List Entry) → IsLegal s (H ++ rest) → IsNoLater (newest_of H) (newest_of (H ++ rest))
newest_on s [] H legal = later_is (newest_of H) (newest_of (H ++ [])) (ap newest_of (append-nil H))
newest_on s (e ∷ rest) H legal =
    let same : (H ++ e ∷ []) ++ rest ≡ H ++ e ∷ rest = append_assoc H (e ∷ []) rest in
    let next : IsStep s H e = subst (λ (K : List Entry). IsStep s K e) (take_at H (e ∷ rest)) (legal (length H) e (get_at H rest e)) in
    let on : IsNoLater (newest_of (H ++ e ∷ [])) (newest_of (H ++ e ∷ rest)) =
    subst (λ (K : List Entry). IsNoLater (newest_of (H ++ e ∷ [])) (newest_of K)) same (newest_on s rest (H ++ e ∷ []) (subst (IsLegal s) (sym same) legal)) in
    later_trans (newest_of H) (newest_of (H ++ e ∷ [])) (newest_of (H ++ e ∷ rest)) (one_more s H e (legal_before s H (e ∷ rest) legal) next) on

pub newest_later : (s : Session) (G H : List Entry) → IsPrefix G H → IsLegal s H → IsNoLater (newest_of G) (newest_of H)
newest_later s G H p legal = subst (λ (K : List Entry). IsNoLater (newest_of G) (newest_of K)) p.1 (newest_on s p.0 G (subst (IsLegal s) (sym p.1) legal))

-- ---- what an answer names
now_same : (b c : BoardView) (e : Entry) → c.entries ≡ b.entries ++ e ∷ [] → now_of (b.entries ++ e ∷ []) ≡ now_of b.entries → now_of b.entries ≡ now_of c.entries
now_same b c e is same = sym (ap now_of is ∙ same)

pub up_to_date : (p q : PassView) (a : ℕ) (b c : BoardView) (answer : Result Advance AdvanceFault) → IsPrefix p.seen b.entries → IsLegal b.session b.entries → q.seen ≡ c.entries → IfOk answer (IsAdvance b c a) → IsUpToDate p q answer
up_to_date p q a b c (Ok (advances.Revised r)) begins legal seen is = tt
up_to_date p q a b c (Ok (advances.Settled r)) begins legal seen is = (
  subst (λ (x : Option ℕ). IsNoLater (newest_of p.seen) x) is.adds.step.2 (newest_later b.session p.seen b.entries begins legal),
  is.adds.step.1 ∙ (now_same b c (Settled a r) is.adds.entries (ap (λ (l : List Edit). length l) (edits_same b.entries (Settled a r) refl)) ∙ ap now_of (sym seen)),
)
up_to_date p q a b c (Ok (advances.Shown r)) begins legal seen is = subst (λ (x : Option ℕ). IsNoLater (newest_of p.seen) x) (sym is.adds.step.1) (newest_later b.session p.seen b.entries begins legal)
up_to_date p q a b c (Ok (advances.NotYet r)) begins legal seen is = tt
up_to_date p q a b c (Ok advances.Ended) begins legal seen is = tt
up_to_date p q a b c (Err fault) begins legal seen is = tt

pub published_now : {U : Type 0} (p q : PassView) (a : ℕ) (seams : SeamResult) (b c : BoardView) (answer : Result U PublishFault) → IsPrefix p.seen b.entries → IsLegal b.session b.entries → q.seen ≡ c.entries
    → OnOk answer (IsPublication b c a seams) → OnOk answer (IsCurrent p q seams.revision)
published_now p q a seams b c (Ok x) begins legal seen is = (
  later_trans (newest_of p.seen) (newest_of b.entries) (Some seams.revision) (newest_later b.session p.seen b.entries begins legal)
      (within (newest_of b.entries) seams.revision (λ k g. omega (arith, newest_within b.session b.entries legal k g, is.adds.step.1))),
  is.adds.step.1 ∙ (now_same b c (Published a seams.revision) is.adds.entries (ap (λ (l : List Edit). length l) (edits_same b.entries (Published a seams.revision) refl)) ∙ ap now_of (sym seen)),
)
published_now p q a seams b c (Err fault) begins legal seen is = tt

-- a revision that is current for a later pass, by a call, is so for an earlier one
pub current_before : (s : Session) (e p q : PassView) (r : ℕ) (answers : BoardView → BoardView → Type 0) → IsLaterPass e p → Called s p q answers → IsCurrent p q r → IsCurrent e q r
current_before s e p q r answers later c now = (
  later_trans (newest_of e.seen) (newest_of p.seen) (Some r)
      (newest_later c.before.session e.seen p.seen later.seen (legal_prefix c.before.session p.seen c.before.entries c.begins c.found.legal)) now.0,
  now.1,
)

pub made_now : {U : Type 0} (p q : PassView) (a : ℕ) (made : Parts) (b c : BoardView) (answer : Result U PublishFault) → IsPrefix p.seen b.entries → IsLegal b.session b.entries → q.seen ≡ c.entries
    → OnOk answer (IsMadePublication b c a made) → OnOk answer (IsCurrent p q made.seams.revision)
made_now p q a made b c (Ok x) begins legal seen is = (
  later_trans (newest_of p.seen) (newest_of b.entries) (Some made.seams.revision) (newest_later b.session p.seen b.entries begins legal)
      (within (newest_of b.entries) made.seams.revision (λ k g. omega (arith, newest_within b.session b.entries legal k g, is.adds.step.1))),
  is.adds.step.1 ∙ (now_same b c (Published a made.seams.revision) is.adds.entries (ap (λ (l : List Edit). length l) (edits_same b.entries (Published a made.seams.revision) refl)) ∙ ap now_of (sym seen)),
)
made_now p q a made b c (Err fault) begins legal seen is = tt
