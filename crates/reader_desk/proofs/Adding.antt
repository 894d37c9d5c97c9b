-- The steps on the first word keep the rule of the list.
use Rattle.std.proofs.Common.{◌≡◌, ℕ, zero, suc, ◌+◌, ◌<◌, ◌≤◌, ◌==◌, Bool, true, false, List, [], ◌∷◌, ◌++◌, length, refl, ap, ap₂, sym, subst, arith, inl, length-append, None, ◌∙◌}
use Rattle.std.specs.Prelude.{MatchBool, slice_set}
use Rattle.std.proofs.lemmas.List.{append-nil}
use Rattle.std.proofs.lemmas.Bool.Decides.{nat_tests}
use mathlib.Core.List.{IsPrefix}
use prog.Atomic.{either}
use Rattle.logbook.specs.Pages.{Cell, Nib, adds, cell, gives, keeps, may_make, may_write, nib, no_nib, step, Moves, Goes}
use Rattle.reader_desk.specs.Rules.{AddsNext, AddsWord, IsAll, IsCounted, Item, next_nib, words, words_for}
use Rattle.reader_desk.proofs.Beginnings.{prefix_whole}

abbrev shown : List Item → List Item
shown log = []

abbrev moved : List Item → List Item → ℕ → Type 0
moved xs ys n = Unit {0}

-- ---- words
many : (n a : ℕ) → length (words_for n a) ≡ n + a
many zero zero = refl
many zero (suc a) = omega (arith, many zero a)
many (suc n) a = omega (arith, many n a)

one_ahead : (n a : ℕ) → words_for n a ++ (0, false) ∷ [] ≡ words_for n (suc a)
one_ahead zero zero = refl
one_ahead zero (suc a) = ap (λ (cs : List Cell). (0, false) ∷ cs) (one_ahead zero a)
one_ahead (suc n) a = ap (λ (cs : List Cell). (0, true) ∷ cs) (one_ahead n a)

one_home : (n a : ℕ) → slice_set (words_for n (suc a)) n (0, true) ≡ words_for (suc n) a
one_home zero a = refl
one_home (suc n) a = ap (λ (cs : List Cell). (0, true) ∷ cs) (one_home n a)

at_home : (n a k : ℕ) → k < n → (cell (words_for n a) k).1 ≡ true
at_home zero a k l = absurd (omega (arith, l))
at_home (suc n) a zero l = refl
at_home (suc n) a (suc k) l = at_home n a k (omega (arith, l))

-- a word that is there and not at home is behind all that are
is_ahead : (n a k : ℕ) → k < length (words_for n a) → (cell (words_for n a) k).1 ≡ false → (n ≤ k) × (k < n + a)
is_ahead n a k l away = (not_less (λ m. true_or_false (cell (words_for n a) k).1 (at_home n a k m) away), omega (arith, many n a, l))
  where
    true_or_false : (b : Bool) → b ≡ true → b ≡ false → ⊥
    true_or_false b e f = cc

    not_less : {n k : ℕ} → (k < n → ⊥) → n ≤ k
    not_less h = grind arith

-- ---- a word is added
room_goes : (log v : List Item) (e : Item) (m ahead : ℕ) (b : Bool) → (length log + ahead + 2 == m) ≡ b
    → Goes IsCounted shown moved 0 (v, (no_nib, None)) (λ n. either (n == m) (m + 1) n) (AddsWord (step 0 m (m + 1) e) (v, (no_nib, None))) (words (length log) ahead) log
room_goes log v e m ahead true is =
    let here : length log + ahead + 2 ≡ m = grind (arith, nat_tests) in
    let all : log ++ [] ≡ log = append-nil log in
    let first : either (length log + ahead + 2 == m) (m + 1) (length log + ahead + 2) ≡ length log + suc ahead + 2 = rw is (omega (arith, here)) in (
      adds,
      [],
      None,
      tt,
      (suc ahead, rw all (ap₂ (λ (n : ℕ) (cs : List Cell). (n, true) ∷ (0, true) ∷ cs) first (one_ahead (length log) ahead))),
      inl (refl, refl),
      rw is (ap (λ (n : ℕ). nib may_make n 0) (omega (arith, many (length log) ahead, here))),
    )
room_goes log v e m ahead false is =
    let all : log ++ [] ≡ log = append-nil log in
    let first : either (length log + ahead + 2 == m) (m + 1) (length log + ahead + 2) ≡ length log + ahead + 2 = rw is refl in (
      keeps,
      [],
      None,
      tt,
      (ahead, rw all (ap (λ (n : ℕ). (n, true) ∷ (0, true) ∷ words_for (length log) ahead) first)),
      inl (refl, refl),
      rw is tt,
    )

pub room_moves : (v : List Item) (e : Item) (m : ℕ)
    → Moves IsCounted shown moved 0 (v, (no_nib, None)) (λ n. either (n == m) (m + 1) n) (AddsWord (step 0 m (m + 1) e) (v, (no_nib, None)))
room_moves v e m cs log kept pre away =
    let P : List Cell → Type 0 = λ c. (0 < length c) × ((cell c 0).1 ≡ true) × Goes IsCounted shown moved 0 (v, (no_nib, None)) (λ n. either (n == m) (m + 1) n) (AddsWord (step 0 m (m + 1) e) (v, (no_nib, None))) c log in
    subst P (sym kept.1) (omega arith, refl, room_goes log v e m kept.0 (length log + kept.0 + 2 == m) refl)

-- the pen has the word of the number that was expected
pub room_made : (found m : ℕ) (left : Nib) → found ≡ m → MatchBool (found == m) (left ≡ nib may_make m 0) (Unit {0}) → left ≡ nib may_make m 0
room_made found m left same made =
    let is : (found == m) ≡ true = grind (arith, nat_tests) in
    rw is at made

-- ---- who has the pen of the next surface knows the whole list
stays : (n : ℕ) → either (n == 0) 0 n ≡ n
stays zero = refl
stays (suc n) = (let more : (suc n == 0) ≡ false = grind (arith, nat_tests) in rw more refl)

whole : (log v : List Item) (ahead k : ℕ) → k ≡ length v → IsPrefix v log → (suc (suc k) < length (words (length log) ahead)) × ((cell (words (length log) ahead) (suc (suc k))).1 ≡ false) → (v ≡ log) × (k < length log + ahead)
whole log v ahead k e pre away =
    let is = is_ahead (length log) ahead k (omega (arith, away.0)) away.1 in
    (prefix_whole v log pre (omega (arith, is.0, e)), is.1)

-- ---- a surface is added
add_goes : (log v : List Item) (e : Item) (ahead : ℕ) → v ≡ log → length v < length log + ahead
    → Goes IsCounted shown moved 0 (v, (nib may_write (suc (suc (length v))) 0, None)) (λ n. either (n == 0) 0 n) (AddsNext (step 0 0 0 e) (v, (nib may_write (suc (suc (length v))) 0, None))) (words (length log) ahead) log
add_goes log v e zero same less = absurd (omega (arith, less, ap (λ (l : List Item). length l) same))
add_goes log v e (suc ahead) same less =
    let n : either (length log + suc ahead + 2 == 0) 0 (length log + suc ahead + 2) ≡ length (log ++ e ∷ []) + ahead + 2 = stays (length log + suc ahead + 2) ∙ omega (arith, length-append log (e ∷ [])) in
    let more : suc (length log) ≡ length (log ++ e ∷ []) = omega (arith, length-append log (e ∷ [])) in
    rw same (
      gives,
      e ∷ [],
      None,
      refl,
      (ahead, ap₂ (λ (m : ℕ) (cs : List Cell). (m, true) ∷ (0, true) ∷ cs) n (one_home (length log) ahead ∙ ap (λ (m : ℕ). words_for m ahead) more)),
      inl (refl, refl),
      refl,
    )

pub add_moves : (v : List Item) (e : Item)
    → Moves IsCounted shown moved 0 (v, (next_nib (length v), None)) (λ n. either (n == 0) 0 n) (AddsNext (step 0 0 0 e) (v, (next_nib (length v), None)))
add_moves v e cs log kept pre away =
    let key : length v + 2 ≡ suc (suc (length v)) = omega arith in
    let there = subst (λ (k : ℕ). (k < length cs) × ((cell cs k).1 ≡ false)) key (away refl) in
    let is = whole log v kept.0 (length v) refl pre (subst (λ (c : List Cell). (suc (suc (length v)) < length c) × ((cell c (suc (suc (length v)))).1 ≡ false)) kept.1 there) in
    let P : List Cell → Type 0 = λ c. (0 < length c) × ((cell c 0).1 ≡ true) × Goes IsCounted shown moved 0 (v, (next_nib (length v), None)) (λ n. either (n == 0) 0 n) (AddsNext (step 0 0 0 e) (v, (next_nib (length v), None))) c log in
    subst P (sym kept.1) (omega arith, refl, rw key (add_goes log v e kept.0 is.0 is.1))

-- ---- a look
pub look_moves : (v : List Item) (e : Item) (n : ℕ) → n ≤ length v
    → Moves IsCounted shown moved 0 (v, (next_nib n, None)) (λ n. either (n == 0) 0 n) (IsAll (step 0 0 0 e) (v, (next_nib n, None)))
look_moves v e n most cs log kept pre away =
    let key : n + 2 ≡ suc (suc n) = omega arith in
    let there = subst (λ (k : ℕ). (k < length cs) × ((cell cs k).1 ≡ false)) key (away refl) in
    let own = subst (λ (c : List Cell). (suc (suc n) < length c) × ((cell c (suc (suc n))).1 ≡ false)) kept.1 there in
    let is = is_ahead (length log) kept.0 n (omega (arith, own.0)) own.1 in
    let all : log ++ [] ≡ log = append-nil log in
    let P : List Cell → Type 0 = λ c. (0 < length c) × ((cell c 0).1 ≡ true) × Goes IsCounted shown moved 0 (v, (next_nib n, None)) (λ n. either (n == 0) 0 n) (IsAll (step 0 0 0 e) (v, (next_nib n, None))) c log in
    subst P (sym kept.1) (
      omega arith,
      refl,
      (
        keeps,
        [],
        None,
        tt,
        (kept.0, rw all (ap (λ (m : ℕ). (m, true) ∷ (0, true) ∷ words_for (length log) kept.0) (stays (length log + kept.0 + 2)))),
        inl (refl, refl),
        (rw all (omega (arith, is.0)), refl),
      ),
    )
