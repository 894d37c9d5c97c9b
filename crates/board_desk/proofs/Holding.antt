-- From what the steps tell to what the lock's functions ensure.
use Rattle.std.proofs.Common.{◌≡◌, ℕ, ◌==◌, Bool, true, false, List, [], ◌∷◌, Some, None, ap, sym, ◌∙◌, subst}
use Rattle.std.specs.Bool.{MatchBool}
use mathlib.Core.Option.{none}
use Rattle.atomic_table.specs.Table.{step, rest, Allows}
use Rattle.raster_model.specs.declared.session.Session.{Session}
use Rattle.tile_board.specs.BoardView.{BoardView}
use Rattle.board_desk.specs.declared.law.View.{View}
use Rattle.board_desk.specs.Rules.{Item, IsRuled, Place, given, gave, took, TakesOut, Grown, Held}
use Rattle.board_desk.proofs.Steps.{gives_board}

-- the board lies in the slot again, and the store gives it back
pub gives_after : (session : Session) (slots id : ℕ) (m n : Place) (b : BoardView) → m.1 ≡ (0, None) ∷ [] → n ≡ (m.0, (0, Some b) ∷ rest m.1) → m.0.holds ≡ true → Grown m.0 b
    → Allows (IsRuled session) slots id n 2 (λ _. 0) (λ _. gave (step slots 2 0 0 none) n 0)
gives_after session slots id m n b out now on grown =
    let view : n.0 ≡ m.0 = ap (λ (p : Place). p.0) now in
    let slot : n.1 ≡ (0, Some b) ∷ [] = ap (λ (p : Place). p.1) now ∙ ap (λ (c : List (ℕ × Item)). (0, Some b) ∷ rest c) out in
    gives_board session slots id n b slot (ap (λ (v : View). v.holds) view ∙ on) (subst (λ (v : View). Grown v b) (sym view) grown)

pub given_back : (slots : ℕ) (m n p : Place) (b : BoardView) → m.1 ≡ (0, None) ∷ [] → n ≡ (m.0, (0, Some b) ∷ rest m.1) → gave (step slots 2 0 0 none) n 0 p → p ≡ (given m.0 b.entries, [])
given_back slots m n p b out now told =
    let slot : n.1 ≡ (0, Some b) ∷ [] = ap (λ (q : Place). q.1) now ∙ ap (λ (c : List (ℕ × Item)). (0, Some b) ∷ rest c) out in
    told b slot ∙ ap (λ (q : Place). let r : Place = (given q.0 b.entries, []) in r) now

pub took_out : (slots : ℕ) (m n : Place) (r : ℕ) → r ≡ 0 → took (step slots 2 0 1 none) m r n → TakesOut m n
took_out slots m n r is told = subst (λ (k : ℕ). MatchBool (k == 0) (TakesOut m n) (n ≡ m)) is told

pub stays_out : (slots : ℕ) (m n : Place) (r : ℕ) → (r == 0) ≡ false → took (step slots 2 0 1 none) m r n → n ≡ m
stays_out slots m n r is told = subst (λ (b : Bool). MatchBool b (TakesOut m n) (n ≡ m)) is told

pub has_slot : (m n : Place) → m.1 ≡ [] → TakesOut m n → (x : Item) × (n.1 ≡ (0, x) ∷ rest n.1)
has_slot m n empty t =
    let slot : n.1 ≡ (0, Some t.board) ∷ m.1 = ap (λ (p : Place). p.1) t.now in
    let last : rest n.1 ≡ m.1 = ap rest slot in (Some t.board, slot ∙ ap (λ (c : List (ℕ × Item)). (0, Some t.board) ∷ c) (sym last))

abbrev first_item : List (ℕ × Item) → Item
first_item [] = None
first_item (p ∷ ps) = p.1

pub is_board : (m n : Place) (x : Item) (t : TakesOut m n) → n.1 ≡ (0, x) ∷ rest n.1 → x ≡ Some t.board
is_board m n x t e = let slot : n.1 ≡ (0, Some t.board) ∷ m.1 = ap (λ (p : Place). p.1) t.now in ap first_item (sym e ∙ slot)

pub holds_board : (m n p : Place) (x : Item) (b : BoardView) → m.1 ≡ [] → (t : TakesOut m n) → n.1 ≡ (0, x) ∷ rest n.1 → p ≡ (n.0, (0, None) ∷ rest n.1) → x ≡ Some b → Held m.0 b p
holds_board m n p x b empty t e now is =
    let same : t.board ≡ b = cc (is_board m n x t e, is) in
    let slot : n.1 ≡ (0, Some t.board) ∷ m.1 = ap (λ (q : Place). q.1) t.now in
    let last : rest n.1 ≡ [] = ap rest slot ∙ empty in
    subst (λ (z : BoardView). Held m.0 z p) same record {
      now = now ∙ (λ i. (ap (λ (q : Place). q.0) t.now i, (0, None) ∷ last i));
      begins = t.begins;
      exact = t.exact;
      session_is = t.session_is;
    }
