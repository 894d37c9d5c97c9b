-- Runs: which label stands at a place, and lists with one more run.
use Rattle.std.proofs.Common.{◌≡◌, ◌∙◌, ℕ, ◌+◌, ◌-◌, ◌<◌, ◌≤◌, zero, suc, ap, sym, refl, arith, inl, inr, Bool, true, false, List, [], ◌∷◌, ◌++◌, length, get_or, Option, Some, None}
use Rattle.std.specs.Prelude.{nat_lt, slice_get, slice_index, if◌then◌else◌}
use Rattle.std.proofs.lemmas.Bool.{cases_lt}
use Rattle.std.proofs.lemmas.Bool.Decides.{nat_tests}
use Rattle.std.proofs.lemmas.List.Sorted.{IsNonDecreasingBy-push, IsNonDecreasingBy-short}
use Rattle.surface_snapshots.specs.declared.runs.Run.{Run}
use Rattle.surface_snapshots.specs.Runs.{ArePacked, Extends, label_in, label_of, run_number}

-- ---- the run at place i is the first that ends after place p, and ends after place q too
pub first_number : (runs : List Run) (d : Run) (p q i : ℕ) → ((j : ℕ) → j < i → (get_or runs j d).end ≤ p) → p ≤ q → i < length runs → q < (get_or runs i d).end → run_number runs q ≡ Some (get_or runs i d).number
first_number [] d p q i passed from inside below = absurd (omega (arith, inside))
first_number (r ∷ rs) d p q zero passed from inside below =
    let f : nat_lt q r.end ≡ true = grind (arith, nat_tests) in
    rw f refl
first_number (r ∷ rs) d p q (suc i) passed from inside below =
    let ends : r.end ≤ p = passed 0 (omega arith) in
    let f : nat_lt q r.end ≡ false = grind (arith, nat_tests) in
    rw f (first_number rs d p q i (λ j l. passed (suc j) (omega (arith, l))) from (omega (arith, inside)) below)

-- ---- no run ends after place p, and so none after place q
pub no_number : (runs : List Run) (d : Run) (p q : ℕ) → ((j : ℕ) → j < length runs → (get_or runs j d).end ≤ p) → p ≤ q → run_number runs q ≡ None
no_number [] d p q passed from = refl
no_number (r ∷ rs) d p q passed from =
    let ends : r.end ≤ p = passed 0 (omega arith) in
    let f : nat_lt q r.end ≡ false = grind (arith, nat_tests) in
    rw f (no_number rs d p q (λ j l. passed (suc j) (omega (arith, l))) from)

-- ---- one more run
found_first : (runs more : List Run) (p n : ℕ) → run_number runs p ≡ Some n → run_number (runs ++ more) p ≡ Some n
found_first [] more p n e = cc
found_first (r ∷ rs) more p n e = go (nat_lt p r.end) (found_first rs more p n) e
  where
    go : (b : Bool) → (run_number rs p ≡ Some n → run_number (rs ++ more) p ≡ Some n) → (if b then Some r.number else run_number rs p) ≡ Some n → (if b then Some r.number else run_number (rs ++ more) p) ≡ Some n
    go true before h = h
    go false before h = before h

-- no run ends after a place
none_passed : (runs : List Run) (d : Run) (p : ℕ) → run_number runs p ≡ None → (i : ℕ) → i < length runs → (get_or runs i d).end ≤ p
none_passed [] d p e i inside = absurd (omega (arith, inside))
none_passed (r ∷ rs) d p e i inside = go (nat_lt p r.end) (none_passed rs d p) refl e
  where
    at : (j : ℕ) → ((k : ℕ) → k < length rs → (get_or rs k d).end ≤ p) → r.end ≤ p → j < length (r ∷ rs) → (get_or (r ∷ rs) j d).end ≤ p
    at zero before ends l = ends
    at (suc j) before ends l = before j (omega (arith, l))

    go : (b : Bool) → (run_number rs p ≡ None → (k : ℕ) → k < length rs → (get_or rs k d).end ≤ p) → nat_lt p r.end ≡ b → (if b then Some r.number else run_number rs p) ≡ None → (get_or (r ∷ rs) i d).end ≤ p
    go true before t h = cc
    go false before t h = at i (before h) (let ends : r.end ≤ p = grind (arith, nat_tests) in ends) inside

none_later : (runs : List Run) (p q : ℕ) → run_number runs p ≡ None → p ≤ q → run_number runs q ≡ None
none_later [] p q e from = refl
none_later (r ∷ rs) p q e from = no_number (r ∷ rs) r p q (none_passed (r ∷ rs) r p e) from

found_last : (runs : List Run) (r : Run) (p : ℕ) → run_number runs p ≡ None → p < r.end → run_number (runs ++ r ∷ []) p ≡ Some r.number
found_last [] r p e below = let f : nat_lt p r.end ≡ true = grind (arith, nat_tests) in rw f refl
found_last (x ∷ xs) r p e below = go (nat_lt p x.end) (λ h. found_last xs r p h below) e
  where
    go : (b : Bool) → (run_number xs p ≡ None → run_number (xs ++ r ∷ []) p ≡ Some r.number) → (if b then Some x.number else run_number xs p) ≡ None → (if b then Some x.number else run_number (xs ++ r ∷ []) p) ≡ Some r.number
    go true before h = cc
    go false before h = before h

none_more : (runs : List Run) (r : Run) (p : ℕ) → run_number runs p ≡ None → r.end ≤ p → run_number (runs ++ r ∷ []) p ≡ None
none_more [] r p e above = let f : nat_lt p r.end ≡ false = grind (arith, nat_tests) in rw f refl
none_more (x ∷ xs) r p e above = go (nat_lt p x.end) (λ h. none_more xs r p h above) e
  where
    go : (b : Bool) → (run_number xs p ≡ None → run_number (xs ++ r ∷ []) p ≡ None) → (if b then Some x.number else run_number xs p) ≡ None → (if b then Some x.number else run_number (xs ++ r ∷ []) p) ≡ None
    go true before h = cc
    go false before h = before h

-- ---- a longer list of labels
pub longer_has : (labels rest : List ℕ) (k l : ℕ) → slice_get labels k ≡ Some l → slice_get (labels ++ rest) k ≡ Some l
longer_has [] rest k l e = cc
longer_has (x ∷ xs) rest zero l e = e
longer_has (x ∷ xs) rest (suc k) l e = longer_has xs rest k l e

-- the runs of a tile with labels that follow, and with runs that follow
pub label_stays : (labels rest : List ℕ) (first : ℕ) (runs more : List Run) (p l : ℕ) → label_in labels first runs p ≡ Some l → label_in (labels ++ rest) first (runs ++ more) p ≡ Some l
label_stays labels rest first runs more p l e = go (run_number runs p) refl e
  where
    go : (o : Option ℕ) → run_number runs p ≡ o → label_of labels first o ≡ Some l → label_in (labels ++ rest) first (runs ++ more) p ≡ Some l
    go None h f = cc
    go (Some n) h f = rw (found_first runs more p n h) (longer_has labels rest (first + n) l f)

pub packed_none : (labels : List ℕ) (first : ℕ) (list : List ℕ) (runs : List Run) → runs ≡ [] → ArePacked labels first runs list 0
packed_none labels first list runs e = rw e record {
  told = λ p below. absurd (omega (arith, below));
  none = refl;
  rising = IsNonDecreasingBy-short (λ (r : Run). r.end) [] (omega arith);
}

pub packed_more : (labels longer : List ℕ) (first : ℕ) (runs : List Run) (list : List ℕ) (n : ℕ) (r : Run) → ArePacked labels first runs list n → Extends longer labels → n < r.end → slice_get longer (first + r.number) ≡ Some (slice_index list n) → ((p : ℕ) → n ≤ p → p < r.end → slice_index list p ≡ slice_index list n) → ArePacked longer first (runs ++ r ∷ []) list r.end
packed_more labels longer first runs list n r is begins more found same = record {
  told = λ p below.
      elim (cases_lt p n) [
        | inl before ↦ rw (begins.1) (label_stays labels begins.0 first runs (r ∷ []) p (slice_index list p) (is.told p before))
        | inr after ↦ rw (found_last runs r p (none_later runs n p is.none after) below) (found ∙ ap (λ (l : ℕ). Some l) (sym (same p after below)))
      ];
  none = none_more runs r r.end (none_later runs n r.end is.none (omega (arith, more))) (omega arith);
  rising = IsNonDecreasingBy-push (λ (x : Run). x.end) runs r is.rising (λ d some. omega (arith, none_passed runs d n is.none (length runs - 1) (omega (arith, some)), more));
}
