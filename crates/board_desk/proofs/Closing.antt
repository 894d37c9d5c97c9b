-- The passes that a desk begins with, and those that it takes in as it closes.
use Rattle.std.proofs.Common.{false, ◌≡◌, ◌≢◌, ℕ, ◌+◌, ◌<◌, zero, suc, List, [], ◌∷◌, ◌++◌, length, get_or, Option, Some, None, refl, ap, sym, ◌∙◌, subst, arith, append_assoc}
use Rattle.std.specs.Prelude.{replicate}
use Rattle.std.proofs.lemmas.List.{length-replicate}
use Rattle.std.proofs.lemmas.List.Elements.{All-append, All-nil, All-pop, All-same}
use Rattle.std.specs.List.{All}
use Rattle.atomic_table.specs.Table.{opening}
use Rattle.atomic_table.specs.Seated.{TableId}
use Rattle.raster_model.specs.declared.session.Session.{Session}
use Rattle.tile_board.specs.declared.entry.Entry.{Entry}
use Rattle.tile_board.specs.BoardView.{BoardView}
use Rattle.board_desk.specs.declared.law.View.{View}
use Rattle.board_desk.specs.Passes.{DeskView, HaveAnalysts, IsPassOf, PassView, Stands, first_pass, first_passes}
use Rattle.board_desk.specs.Rules.{Held, IsRuled, Item, Place, opener}
use Rattle.board_desk.proofs.Steps.{opens_at}

-- ---- the table of a new desk
words_there : (words : List ℕ) → words ≡ replicate 67 0 → (2 < length words) × (get_or words 2 0 ≡ 0)
words_there words e = subst (λ (ws : List ℕ). (2 < length ws) × (get_or ws 2 0 ≡ 0)) (sym e) (omega (arith, length-replicate {A = ℕ} 67 0), refl)

pub opens_with : (session : Session) (b : BoardView) (words : List ℕ) (items : List Item) → words ≡ replicate 67 0 → items ≡ Some b ∷ [] → b.entries ≡ [] → b.session ≡ session → IsRuled session (opening words items (opener session))
opens_with session b words items e here empty is = (let w = words_there words e in opens_at session b words items w.0 w.1 here empty is)

-- ---- the first passes
one_of : (P : PassView → Type 0) (p : PassView) → P p → All P (p ∷ [])
one_of P p h zero d less = h
one_of P p h (suc k) d less = absurd (omega (arith, less))

pub first_more : (d : DeskView) (n : ℕ) → first_passes d (n + 1) ≡ first_passes d n ++ first_pass d (n + 1) ∷ []
first_more d n = (let e : n + 1 ≡ suc n = omega arith in ap (first_passes d) e)

pub first_own : (d : DeskView) (n : ℕ) → All (IsPassOf d) (first_passes d n)
first_own d zero = All-nil (IsPassOf d)
first_own d (suc n) = All-append (IsPassOf d) (first_passes d n) (first_pass d (n + 1) ∷ []) (first_own d n) (one_of (IsPassOf d) (first_pass d (n + 1)) record { table = refl; session = refl })

pub first_analysts : (d : DeskView) (n : ℕ) → HaveAnalysts (first_passes d n)
first_analysts d zero = All-nil (λ (p : PassView). p.analyst ≢ None)
first_analysts d (suc n) = All-append (λ (p : PassView). p.analyst ≢ None) (first_passes d n) (first_pass d (n + 1) ∷ []) (first_analysts d n) (one_of (λ (p : PassView). p.analyst ≢ None) (first_pass d (n + 1)) (λ e. cc e))

pub first_is : (d : DeskView) (t : TableId) (s : Option Session) (a : ℕ) (p : PassView) → t ≡ d.table → s ≡ Some d.session → p ≡ record { table = t; session = s; analyst = Some a; seen = []; mine = []; ended = false } → p ≡ first_pass d a
first_is d t s a p e h is = is ∙ (λ j. record { table = e j; session = h j; analyst = Some a; seen = []; mine = []; ended = false })

-- ---- closing
module _ {A : Type 0} where
  pub popped : (P : A → Type 0) (xs ys : List A) (x : A) → xs ≡ ys ++ x ∷ [] → All P xs → All P ys × P x
  popped P xs ys x e all = All-pop P xs ys (Some x) e all

  no_items : (xs : List A) → length xs ≡ 0 → xs ≡ []
  no_items [] e = refl
  no_items (x ∷ xs) e = absurd (omega arith)

  pub moved_on : (old new done all : List A) (x : A) → old ≡ new ++ x ∷ [] → old ++ done ≡ all → new ++ (x ∷ done) ≡ all
  moved_on old new done all x e h = sym (append_assoc new (x ∷ []) done) ∙ (ap (λ (w : List A). w ++ done) (sym e) ∙ h)

pub held_seen : (v : View) (b : BoardView) (n : Place) → Held v b n → n.0.own.seen ≡ b.entries
held_seen v b n h = ap (λ (p : Place). p.0.own.seen) h.now

pub stands_at : (seen log : List Entry) (p : PassView) → seen ≡ log → Stands seen p → Stands log p
stands_at seen log p e s = subst (λ (l : List Entry). Stands l p) e s

pub all_stand : (log : List Entry) (all left done : List PassView) → left ++ done ≡ all → length left ≡ 0 → All (Stands log) done → All (Stands log) all
all_stand log all left done h none stand = All-same (Stands log) all done (sym h ∙ ap (λ (w : List PassView). w ++ done) (no_items left none)) stand
