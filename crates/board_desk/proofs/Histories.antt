-- Beginnings of a history, and the entries of an analyst in them.
use Rattle.std.proofs.Common.{◌≡◌, ℕ, ◌≤◌, List, [], ◌∷◌, ◌++◌, length, Option, Some, None, refl, ap, sym, ◌∙◌, arith, append_assoc, length-append}
use Rattle.std.proofs.lemmas.List.{append-nil}
use Rattle.std.proofs.lemmas.List.Elements.{filter-append}
use mathlib.Core.List.{IsPrefix}
use Rattle.tile_board.specs.declared.entry.Entry.{Entry}
use Rattle.tile_board.specs.Histories.{names}
use Rattle.board_desk.specs.Mine.{mine_of}

module _ {A : Type 0} where
  pub prefix_nil : (xs : List A) → IsPrefix [] xs
  prefix_nil xs = (xs, refl)

  pub prefix_self : (xs : List A) → IsPrefix xs xs
  prefix_self xs = ([], append-nil xs)

  pub prefix_more : (xs ys more : List A) → IsPrefix xs ys → IsPrefix xs (ys ++ more)
  prefix_more xs ys more p = (p.0 ++ more, sym (append_assoc xs p.0 more) ∙ ap (λ (w : List A). w ++ more) p.1)

  pub prefix_trans : (xs ys zs : List A) → IsPrefix xs ys → IsPrefix ys zs → IsPrefix xs zs
  prefix_trans xs ys zs p q = (p.0 ++ q.0, sym (append_assoc xs p.0 q.0) ∙ (ap (λ (w : List A). w ++ q.0) p.1 ∙ q.1))

  -- of two beginnings of one list the shorter begins the longer
  pub prefix_shorter : (xs ys zs : List A) → IsPrefix xs zs → IsPrefix ys zs → length xs ≤ length ys → IsPrefix xs ys
  prefix_shorter [] ys zs p q le = (ys, refl)
  prefix_shorter (x ∷ xs) [] zs p q le = absurd (omega arith)
  prefix_shorter (x ∷ xs) (y ∷ ys) [] p q le = absurd (cc (p.1))
  prefix_shorter (x ∷ xs) (y ∷ ys) (z ∷ zs) p q le =
      let heads : x ≡ y = cc (p.1, q.1) in
      let rest = prefix_shorter xs ys zs (p.0, cc (p.1)) (q.0, cc (q.1)) (omega arith) in
      (rest.0, cc (heads, rest.1))

  pub prefix_length : (xs ys : List A) → IsPrefix xs ys → length xs ≤ length ys
  prefix_length xs ys p = omega (arith, sym (ap length p.1) ∙ length-append xs p.0)

  pub nil_left : (xs ys : List A) → xs ++ ys ≡ [] → xs ≡ []
  nil_left [] ys e = refl
  nil_left (x ∷ xs) ys e = absurd (cc e)

  pub rest_is_nil : (xs ys : List A) → xs ++ ys ≡ xs → ys ≡ []
  rest_is_nil [] ys e = e
  rest_is_nil (x ∷ xs) ys e = rest_is_nil xs ys (cc e)

pub mine_of-append : (o : Option ℕ) (xs ys : List Entry) → mine_of o (xs ++ ys) ≡ mine_of o xs ++ mine_of o ys
mine_of-append None xs ys = refl
mine_of-append (Some a) xs ys = filter-append (names a) xs ys

-- entries that are not the analyst's change nothing
pub same_mine : (o : Option ℕ) (log added : List Entry) → ((a : ℕ) → o ≡ Some a → mine_of (Some a) added ≡ []) → mine_of o (log ++ added) ≡ mine_of o log
same_mine None log added h = refl
same_mine (Some a) log added h = mine_of-append (Some a) log added ∙ (ap (λ (w : List Entry). mine_of (Some a) log ++ w) (h a refl) ∙ append-nil (mine_of (Some a) log))

-- what has no entry of the analyst has none at its beginning
pub none_before : (o : Option ℕ) (xs log : List Entry) → IsPrefix xs log → mine_of o log ≡ [] → mine_of o xs ≡ []
none_before o xs log p e = nil_left (mine_of o xs) (mine_of o p.0) (sym (mine_of-append o xs p.0) ∙ (ap (mine_of o) p.1 ∙ e))

-- where xs has all the entries of the analyst that log has, so has each list between
pub mine_between : (o : Option ℕ) (xs ys log : List Entry) → IsPrefix xs ys → IsPrefix ys log → mine_of o xs ≡ mine_of o log → mine_of o ys ≡ mine_of o xs
mine_between o xs ys log p q e =
    let y : mine_of o ys ≡ mine_of o xs ++ mine_of o p.0 = sym (ap (mine_of o) p.1) ∙ mine_of-append o xs p.0 in
    let l : mine_of o log ≡ mine_of o ys ++ mine_of o q.0 = sym (ap (mine_of o) q.1) ∙ mine_of-append o ys q.0 in
    let all : mine_of o xs ++ (mine_of o p.0 ++ mine_of o q.0) ≡ mine_of o xs = sym (append_assoc (mine_of o xs) (mine_of o p.0) (mine_of o q.0)) ∙ (ap (λ (w : List Entry). w ++ mine_of o q.0) (sym y) ∙ (sym l ∙ sym e)) in
    let none : mine_of o p.0 ≡ [] = nil_left (mine_of o p.0) (mine_of o q.0) (rest_is_nil (mine_of o xs) (mine_of o p.0 ++ mine_of o q.0) all) in
    y ∙ (ap (λ (w : List Entry). mine_of o xs ++ w) none ∙ append-nil (mine_of o xs))
