-- A part has the pixels of its tree, so it has enough of them.
use Rattle.std.proofs.Common.{◌≡◌, ◌∙◌, ℕ, zero, suc, ◌+◌, ◌*◌, ◌<◌, ◌≤◌, ap, refl, sym, inl, inr, arith, Bool, true, List, length, take}
use Rattle.std.specs.Prelude.{◌==◌, nat_le, slice_index}
use Rattle.std.specs.List.{count_by}
use Rattle.std.proofs.lemmas.Bool.{cases_Bool, cases_eq}
use Rattle.std.proofs.lemmas.Bool.Decides.{nat_tests}
use Rattle.std.proofs.lemmas.List.{take_all}
use Rattle.std.proofs.lemmas.List.Sums.{count_by_more_no, count_by_more_yes}
use Rattle.certain_parts.specs.Labels.{ArePartsOf, rank_of, size_of}
use Rattle.certain_parts.specs.Laws.{PartsAreLarge}
use Rattle.certain_parts.specs.Margins.{Faced}
use Rattle.certain_parts.specs.Parts.{parts_joined}
use Rattle.certain_parts.specs.PartsView.{PartsView}
use Rattle.certain_parts.proofs.LabelLemmas.{above_zero, label_none, label_told, one_rank, rank_reached, told_or_none}

-- ---- two lists of one length, each with a test that holds at the same places
module _ (p q : ℕ → Bool) (xs ys : List ℕ) (size : length xs ≡ length ys) (same : (i : ℕ) → i < length xs → p (slice_index xs i) ≡ q (slice_index ys i)) where
  alike_below : (k : ℕ) → k ≤ length xs → count_by p (take k xs) ≡ count_by q (take k ys)
  alike_below zero l = refl
  alike_below (suc k) l =
      let e : suc k ≡ k + 1 = omega arith in
      let so_far = alike_below k (omega (arith, l)) in
      let here : k < length xs = omega (arith, l) in
      let there : k < length ys = omega (arith, l, size) in
      elim (cases_Bool (p (slice_index xs k))) [
        | inl t ↦ rw e (omega (arith, so_far, count_by_more_yes p xs k 0 here t, count_by_more_yes q ys k 0 there (sym (same k here) ∙ t)))
        | inr t ↦ rw e (omega (arith, so_far, count_by_more_no p xs k 0 here t, count_by_more_no q ys k 0 there (sym (same k here) ∙ t)))
      ]

  pub counted_alike : count_by p xs ≡ count_by q ys
  counted_alike =
      ap (count_by p) (sym (take_all (length xs) xs (omega arith)))
      ∙ alike_below (length xs) (omega arith)
      ∙ ap (count_by q) (take_all (length xs) ys (omega (arith, size)))

same_test : (a n b m : ℕ) → (a ≡ n → b ≡ m) → (b ≡ m → a ≡ n) → (a == n) ≡ (b == m)
same_test a n b m there back = elim (cases_eq a n) [
  | inl e ↦ equal a n b m e (there e)
  | inr d ↦ unequal a n b m d (λ e. d (back e))
]
  where
    equal : (a n b m : ℕ) → a ≡ n → b ≡ m → (a == n) ≡ (b == m)
    equal a n b m e f = grind (arith, nat_tests)

    unequal : (a n b m : ℕ) → (a ≡ n → ⊥) → (b ≡ m → ⊥) → (a == n) ≡ (b == m)
    unequal a n b m e f = grind (arith, nat_tests)

pub has_width : (w h i : ℕ) → i < w * h → 0 < w
has_width zero h i l = absurd (omega (arith, l))
has_width (suc w) h i l = omega arith

at_least : (a b : ℕ) → nat_le a b ≡ true → a ≤ b
at_least a b t = grind (arith, nat_tests)

-- ---- a part and its tree
module _ (c : Faced) (limit least : ℕ) (v : PartsView) (is : ArePartsOf c limit least v) (n m : ℕ) (one : 1 ≤ n) (below : m < is.total) (ranks : rank_of least (size_of is.numbers) m ≡ n) where
  size : length v.labels ≡ length is.numbers
  size = (rw (is.width, is.height) at is.full) ∙ sym is.parts.full

  of_label : (i : ℕ) → i < length v.labels → slice_index v.labels i ≡ n → slice_index is.numbers i ≡ m
  of_label i l e =
      let label = is.labels i l in
      let inside : i < c.raster.width * c.raster.height = omega (arith, l, size, is.parts.full) in
      let turned : c.raster.width * c.raster.height ≡ c.raster.height * c.raster.width = omega arith in
      elim (told_or_none (parts_joined c limit) is.numbers is.total is.parts i (has_width c.raster.width c.raster.height i inside) (omega (arith, inside, turned))) [
        | inl k ↦ (
            let told = label_told least is.numbers i is.total k is.few in
            sym (one_rank least m (slice_index is.numbers i) (size_of is.numbers) (omega (arith, ranks, one)) (ranks ∙ sym e ∙ label ∙ told)))
        | inr k ↦ absurd (omega (arith, one, e, label, label_none least is.numbers i k))
      ]

  to_label : (i : ℕ) → i < length v.labels → slice_index is.numbers i ≡ m → slice_index v.labels i ≡ n
  to_label i l e =
      is.labels i l
      ∙ label_told least is.numbers i is.total (omega (arith, e, below)) is.few
      ∙ ap (rank_of least (size_of is.numbers)) e
      ∙ ranks

  part_is_tree : size_of v.labels n ≡ size_of is.numbers m
  part_is_tree = counted_alike (λ label. label == n) (λ number. number == m) v.labels is.numbers size (λ i l. same_test (slice_index v.labels i) n (slice_index is.numbers i) m (of_label i l) (to_label i l))

pub parts_are_large : PartsAreLarge
parts_are_large c limit least v is n one l =
    let u = rank_reached least n is.total (size_of is.numbers) one (omega (arith, l, is.count)) in
    let large = at_least least (size_of is.numbers u.0) (above_zero least u.0 (size_of is.numbers) (omega (arith, one, u.2))) in
    omega (arith, large, part_is_tree c limit least v is n u.0 one u.1 u.2)
