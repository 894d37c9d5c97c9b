-- What a reader saw of what was published.
use Rattle.std.proofs.Common.{◌≡◌, ◌==◌, ◌+◌, ◌∙◌, ◌<◌, ℕ, Bool, true, false, cond, List, [], ◌∷◌, ◌++◌, Option, Some, None, refl, ap, arith, length, get_or, take, flat_map}
use Rattle.std.specs.List.{Contains, filter, last_or, list_any}
use Rattle.std.proofs.lemmas.List.Elements.{All-contains_itself, All-filter, filter_more}
use Rattle.std.proofs.lemmas.List.Kept.{IsStrictlyIncreasing-filter}
use Rattle.std.proofs.lemmas.List.Folds.{list_any_at}
use Rattle.std.proofs.lemmas.List.{append-nil}
use Rattle.std.proofs.lemmas.Grind.{flat_map-append}
use Rattle.text_lines.specs.Adding.{Adds, View}
use Rattle.text_lines.specs.Text.{field_text}
use Rattle.text_lines.proofs.AddLemmas.{adds_then}
use Rattle.text_lines.proofs.ChainLemmas.{adds_is}
use Rattle.answer_lines.specs.WatchLines.{SeenEndWithTheLast, last_in, seen_of}

-- what passes a test that the last element passes ends with it
last_filter : (p : ℕ → Bool) (x : ℕ) (xs : List ℕ) (o : Option ℕ) → ((r : ℕ) → last_or (Some x) xs ≡ Some r → p r ≡ true) → last_or o (filter p (x ∷ xs)) ≡ last_or (Some x) xs
last_filter p x [] o h = ap (λ (b : Bool). last_or o (cond b (x ∷ []) [])) (h x refl)
last_filter p x (y ∷ ys) o h = go (p x) (last_filter p y ys (Some x) h) (last_filter p y ys o h)
  where
    go : (b : Bool) → last_or (Some x) (filter p (y ∷ ys)) ≡ last_or (Some y) ys → last_or o (filter p (y ∷ ys)) ≡ last_or (Some y) ys → last_or o (cond b (x ∷ filter p (y ∷ ys)) (filter p (y ∷ ys))) ≡ last_or (Some y) ys
    go true kept skipped = kept
    go false kept skipped = skipped

kept_any : (kept : List ℕ) (r : ℕ) → Contains kept r → list_any (λ (k : ℕ). k == r) kept ≡ true
kept_any kept r c = list_any_at (λ (k : ℕ). k == r) kept c.0 r c.1 (grind (arith, c.2))

ends_with : (published kept : List ℕ) → ((last : ℕ) → last_in published ≡ Some last → Contains kept last) → last_in (seen_of published kept) ≡ last_in published
ends_with [] kept h = refl
ends_with (x ∷ xs) kept h = last_filter (λ r. list_any (λ (k : ℕ). k == r) kept) x xs None (λ r e. kept_any kept r (h r e))

pub seen_end_with_the_last : SeenEndWithTheLast
seen_end_with_the_last published kept rises last =
    let test : ℕ → Bool = λ r. list_any (λ (k : ℕ). k == r) kept in
    record {
      rises = IsStrictlyIncreasing-filter test published rises;
      among = All-filter test (Contains published) published (All-contains_itself published);
      ends = ends_with published kept last;
    }

-- one more of what was published, which was kept or was not
pub seen_more : (published kept : List ℕ) (i : ℕ) → i < length published → (b : Bool) → list_any (λ (k : ℕ). k == get_or published i 0) kept ≡ b → seen_of (take (i + 1) published) kept ≡ seen_of (take i published) kept ++ cond b (get_or published i 0 ∷ []) []
seen_more published kept i within b is =
    let test : ℕ → Bool = λ r. list_any (λ (k : ℕ). k == r) kept in
    filter_more test published i 0 within ∙ ap (λ (d : Bool). seen_of (take i published) kept ++ cond d (get_or published i 0 ∷ []) []) is

module _ (published kept : List ℕ) (i : ℕ) (within : i < length published) {v m : View} (before : Adds v m (flat_map field_text (seen_of (take i published) kept))) where
  pub adds_kept : {w : View} → list_any (λ (k : ℕ). k == get_or published i 0) kept ≡ true → Adds m w (field_text (get_or published i 0)) → Adds v w (flat_map field_text (seen_of (take (i + 1) published) kept))
  adds_kept {w} is p =
      let seen = seen_of (take i published) kept in
      let more : flat_map field_text (seen_of (take (i + 1) published) kept) ≡ flat_map field_text seen ++ field_text (get_or published i 0) =
      ap (flat_map field_text) (seen_more published kept i within true is) ∙ flat_map-append field_text seen (get_or published i 0 ∷ []) ∙ ap (λ (t : List ℕ). flat_map field_text seen ++ t) (append-nil (field_text (get_or published i 0))) in
      adds_is (adds_then before p) more

  pub adds_none : list_any (λ (k : ℕ). k == get_or published i 0) kept ≡ false → Adds v m (flat_map field_text (seen_of (take (i + 1) published) kept))
  adds_none is = adds_is before (ap (flat_map field_text) (seen_more published kept i within false is ∙ append-nil (seen_of (take i published) kept)))
