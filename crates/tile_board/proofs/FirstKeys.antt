-- The tiles of the first keys.
use Rattle.std.proofs.Common.{◌≡◌, ◌≢◌, ℕ, zero, suc, ◌-◌, ◌≤◌, sym, ◌∙◌, ap, arith, Bool, false, List, [], ◌∷◌, ◌++◌, drop, length, map, take}
use Rattle.std.specs.Prelude.{All, AllPairs, IsTrue, min, slice_index}
use Rattle.std.specs.BTreeSet.{IsOrdered, contains}
use Rattle.std.specs.List.{AllByRecursion}
use Rattle.std.specs.List.Sorted.{IsStrictlySortedBy}
use Rattle.std.specs.Ordering.{is_eq}
use Rattle.std.specs.declared.cmp.Ordering.TheVariants.{Less}
use Rattle.std.proofs.lemmas.Bool.Decides.{nat_tests}
use Rattle.std.proofs.lemmas.List.{length-drop, length-map, length-take, take_all}
use Rattle.std.proofs.lemmas.List.Elements.{All-from_recursion, All-map, All-take, recursion_from_All}
use Rattle.std.proofs.lemmas.List.Kept.{AllPairs-cons}
use Rattle.tile_board.specs.Lacking.{AreDifferent, AreLacking, Keys, is_key, key_order}
use Rattle.tile_board.proofs.KeyLemmas.{key_at, key_fits}

none_apart : AllPairs {X = ℕ} (λ t u. t ≢ u) []
none_apart i j d l m = absurd (omega (arith, m))

not_both : (a b c t : ℕ) → a ≡ c → b ≡ t → is_key a b c t ≡ false → ⊥
not_both a b c t e f is = grind (arith, nat_tests)

module _ (lacks : ℕ → Bool) (claims : List ℕ) where
  abbrev Fits : ℕ × ℕ → Type 0
  Fits k = IsTrue (lacks k.1) × (k.0 ≡ slice_index claims k.1)

  -- a tile has one key
  other_key : (k y : ℕ × ℕ) → Fits k → Fits y → key_order k y ≡ Less → k.1 ≢ y.1
  other_key k y f g less e = not_both k.0 k.1 y.0 y.1 (f.1 ∙ ap (slice_index claims) e ∙ sym g.1) e (sym (key_at k.0 k.1 y.0 y.1) ∙ ap is_eq less)

  others : (k : ℕ × ℕ) (n : ℕ) (ks : List (ℕ × ℕ)) → Fits k → AllByRecursion Fits ks → AllByRecursion (λ y. key_order k y ≡ Less) ks → AllByRecursion (λ u. k.1 ≢ u) (map (λ y. y.1) (take n ks))
  others k zero [] f fs less = tt
  others k (suc n) [] f fs less = tt
  others k zero (y ∷ ks) f fs less = tt
  others k (suc n) (y ∷ ks) f fs less = (other_key k y f fs.0 less.0, others k n ks f fs.1 less.1)

  firsts_apart : (n : ℕ) (ks : List (ℕ × ℕ)) → AllByRecursion Fits ks → IsStrictlySortedBy key_order ks → AllPairs (λ t u. t ≢ u) (map (λ y. y.1) (take n ks))
  unfolding IsStrictlySortedBy
  firsts_apart zero [] fs sorted = none_apart
  firsts_apart (suc n) [] fs sorted = none_apart
  firsts_apart zero (k ∷ ks) fs sorted = none_apart
  firsts_apart (suc n) (k ∷ ks) fs sorted =
      let rest = map (λ (y : ℕ × ℕ). y.1) (take n ks) in
      AllPairs-cons (λ t u. t ≢ u) k.1 rest (All-from_recursion (λ u. k.1 ≢ u) rest (others k n ks fs.0 fs.1 sorted.0)) (firsts_apart n ks fs.1 sorted.1)

pub firsts_differ : (lacks : ℕ → Bool) (claims : List ℕ) (keys : Keys) (n : ℕ) → AreLacking lacks claims keys → IsOrdered key_order keys → All (λ k. IsTrue (contains key_order keys k)) keys.keys → AreDifferent lacks (map (λ k. k.1) (take n keys.keys))
firsts_differ lacks claims keys n are ordered found =
    let fits : All (Fits lacks claims) keys.keys = λ i d l. key_fits lacks claims keys _ are (found i d l) in
    record {
      lacking = All-map (λ t. IsTrue (lacks t)) (λ (k : ℕ × ℕ). k.1) (take n keys.keys) (All-take (λ k. IsTrue (lacks k.1)) n keys.keys (λ i d l. (fits i d l).0));
      apart = firsts_apart lacks claims n keys.keys (recursion_from_All (Fits lacks claims) keys.keys fits) ordered;
    }

-- the first keys, one after another
pub next_key : {A : Type 0} (xs : List A) (n : ℕ) (x : A) (rest : List A) → drop n xs ≡ x ∷ rest → (rest ≡ drop (suc n) xs) × (take (suc n) xs ≡ take n xs ++ x ∷ [])
next_key [] zero x rest e = absurd (cc)
next_key [] (suc n) x rest e = absurd (cc)
next_key (y ∷ xs) zero x rest e = (cc, cc)
next_key (y ∷ xs) (suc n) x rest e = (let later = next_key xs n x rest e in (later.0, ap (λ (l : List _). y ∷ l) later.1))

pub no_more_keys : {A : Type 0} (xs : List A) (n m : ℕ) → drop n xs ≡ [] → n ≤ m → take n xs ≡ take m xs
no_more_keys xs n m e l =
    let none : length xs - n ≡ 0 = sym (length-drop n xs) ∙ ap (λ (ys : List _). length ys) e in
    take_all n xs (omega (arith, none)) ∙ sym (take_all m xs (omega (arith, none, l)))

-- the tiles of the first keys, of so many or of all
abbrev pub first_tiles : Keys → ℕ → List ℕ
first_tiles keys n = map (λ key. key.1) (take n keys.keys)

pub so_many_firsts : (keys : Keys) (n : ℕ) (tiles : List ℕ) → tiles ≡ first_tiles keys n → length tiles ≡ min n (length keys.keys)
so_many_firsts keys n tiles e = ap (λ (ts : List ℕ). length ts) e ∙ length-map (take n keys.keys) (λ key. key.1) ∙ length-take n keys.keys
