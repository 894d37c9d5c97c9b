-- Beginnings of one list, and its last item.
use Rattle.std.proofs.Common.{◌≡◌, ℕ, ◌+◌, ◌-◌, ◌<◌, ◌≤◌, List, [], ◌∷◌, ◌++◌, length, Option, Some, slice_get, ◌∙◌, refl, ap, sym, subst, arith, length-append}
use mathlib.Core.List.{IsPrefix}
use Rattle.std.proofs.lemmas.List.Elements.{filter_map-append}
use Rattle.surface_snapshots.specs.Parts.{Parts}
use Rattle.reader_desk.specs.Fronts.{last_of, surfaces_in}

module _ {A : Type 0} where
  pub prefix_self : (xs : List A) → IsPrefix xs xs
  prefix_self [] = ([], refl)
  prefix_self (x ∷ xs) = ((prefix_self xs).0, ap (λ ys. x ∷ ys) (prefix_self xs).1)

  -- of two beginnings of one list the shorter begins the longer
  pub prefix_shorter : (xs ys zs : List A) → IsPrefix xs zs → IsPrefix ys zs → length xs ≤ length ys → IsPrefix xs ys
  prefix_shorter [] ys zs p q le = (ys, refl)
  prefix_shorter (x ∷ xs) [] zs p q le = absurd (omega arith)
  prefix_shorter (x ∷ xs) (y ∷ ys) [] p q le = absurd (cc (p.1))
  prefix_shorter (x ∷ xs) (y ∷ ys) (z ∷ zs) p q le =
      let heads : x ≡ y = cc (p.1, q.1) in
      let rest = prefix_shorter xs ys zs (p.0, cc (p.1)) (q.0, cc (q.1)) (omega arith) in
      (rest.0, cc (heads, rest.1))

  -- a beginning as long as the whole is the whole
  pub prefix_whole : (xs ys : List A) → IsPrefix xs ys → length ys ≤ length xs → xs ≡ ys
  prefix_whole [] [] p le = refl
  prefix_whole [] (y ∷ ys) p le = absurd (omega arith)
  prefix_whole (x ∷ xs) [] p le = absurd (cc (p.1))
  prefix_whole (x ∷ xs) (y ∷ ys) p le = let rest = prefix_whole xs ys (p.0, cc (p.1)) (omega arith) in cc (p.1, rest)

  pub prefix_length : (xs ys : List A) → IsPrefix xs ys → length xs ≤ length ys
  prefix_length [] ys p = omega arith
  prefix_length (x ∷ xs) [] p = absurd (cc (p.1))
  prefix_length (x ∷ xs) (y ∷ ys) p = omega (arith, prefix_length xs ys (p.0, cc (p.1)))

  -- a list that begins with two, of which one is as long as it, so that the other begins that one
  pub prefix_of_whole : (own other both : List A) → IsPrefix own both → IsPrefix other both → length both ≤ length own → IsPrefix other own
  prefix_of_whole own other both p q most = subst (λ (l : List A). IsPrefix other l) (sym (prefix_whole own both p most)) q

  -- the last of a list with one more
  get_last : (xs : List A) (x : A) → slice_get (xs ++ x ∷ []) (length xs) ≡ Some x
  get_last [] x = refl
  get_last (y ∷ ys) x = get_last ys x

  pub last_more : (xs : List A) (x : A) → last_of (xs ++ x ∷ []) ≡ Some x
  last_more xs x =
      let n : length (xs ++ x ∷ []) - 1 ≡ length xs = omega (arith, length-append xs (x ∷ [])) in
      rw n (get_last xs x)

  pub length_more : (xs : List A) (x : A) → length (xs ++ x ∷ []) ≡ length xs + 1
  length_more xs x = length-append xs (x ∷ [])

  -- of two beginnings of one list, which are as long as counts say, the longer one begins with the other
  pub longer_begins : (m n : ℕ) (xs ys both : List A) → m ≡ length xs → n ≡ length ys → IsPrefix xs both → IsPrefix ys both → n < m → IsPrefix ys xs
  longer_begins m n xs ys both k l p q less = prefix_shorter ys xs both q p (omega (arith, k, l, less))

  pub shorter_begins : (m n : ℕ) (xs ys both : List A) → m ≡ length xs → n ≡ length ys → IsPrefix xs both → IsPrefix ys both → m ≤ n → IsPrefix xs ys
  shorter_begins m n xs ys both k l p q less = prefix_shorter xs ys both p q (omega (arith, k, l, less))

-- ---- the surfaces of a list of entries
pub surfaces_more : (log : List (Option Parts)) (p : Parts) → surfaces_in (log ++ Some p ∷ []) ≡ surfaces_in log ++ p ∷ []
surfaces_more log p = filter_map-append (λ (item : Option Parts). item) log (Some p ∷ [])

pub surfaces_begin : (xs ys : List (Option Parts)) → IsPrefix xs ys → IsPrefix (surfaces_in xs) (surfaces_in ys)
surfaces_begin xs ys p = (surfaces_in p.0, sym (filter_map-append (λ (item : Option Parts). item) xs p.0) ∙ ap surfaces_in p.1)
