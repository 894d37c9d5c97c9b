-- What the parts of a surface are is determined by the surface, its faces, the limit and the least size.
use Rattle.std.proofs.Common.{◌≡◌, ◌∙◌, ℕ, ◌+◌, ◌*◌, ◌/◌, ◌%◌, ◌<◌, ap, sym, inl, inr, arith, true, length}
use Rattle.std.specs.Prelude.{◌==◌, if◌then◌else◌, slice_index}
use Rattle.std.proofs.lemmas.Bool.{cases_Bool}
use Rattle.std.proofs.lemmas.Nat.{mod_below, div_below, div-add-mod'}
use Rattle.joined_cells.specs.Flood.{no_label}
use Rattle.joined_cells.proofs.UniqueNumbers.{numbers_are_unique}
use Rattle.certain_parts.specs.Labels.{ArePartsOf, enough, part_label, size_of}
use Rattle.certain_parts.specs.Laws.{PartsAreUnique}
use Rattle.certain_parts.specs.Margins.{Faced}
use Rattle.certain_parts.specs.Parts.{parts_joined}
use Rattle.certain_parts.specs.PartsView.{PartsView}
use Rattle.certain_parts.proofs.LabelLemmas.{enough_alike, rank_alike}
use Rattle.certain_parts.proofs.SizeLemmas.{counted_alike, has_width}

module _ (c : Faced) (limit least : ℕ) (v w : PartsView) (is : ArePartsOf c limit least v) (too : ArePartsOf c limit least w) where
  abbrev across : ℕ
  across = c.raster.width

  unique : (is.total ≡ too.total) × ((x y : ℕ) → (x < across) × (y < c.raster.height) × (c.mask x y ≡ true) → slice_index is.numbers (y * across + x) ≡ slice_index too.numbers (y * across + x))
  unique = numbers_are_unique (parts_joined c limit) (λ x y. slice_index is.numbers (y * across + x)) is.total is.parts.told (λ x y. slice_index too.numbers (y * across + x)) too.total too.parts.told

  one_number : (i : ℕ) → i < length is.numbers → slice_index is.numbers i ≡ slice_index too.numbers i
  one_number i l =
      let inside : i < across * c.raster.height = omega (arith, l, is.parts.full) in
      let turned : across * c.raster.height ≡ c.raster.height * across = omega arith in
      let wide = has_width across c.raster.height i inside in
      let x = i % across in
      let y = i / across in
      let left : x < across = mod_below i across wide in
      let below : y < c.raster.height = div_below i across c.raster.height wide (omega (arith, inside, turned)) in
      let place : y * across + x ≡ i = div-add-mod' i across in
      elim (cases_Bool (c.mask x y)) [
        | inl o ↦ rw place at (unique.1 x y (left, below, o))
        | inr o ↦ rw place at (is.parts.masked x y left below o ∙ sym (too.parts.masked x y left below o))
      ]

  one_size : (n : ℕ) → size_of is.numbers n ≡ size_of too.numbers n
  one_size n = counted_alike (λ number. number == n) (λ number. number == n) is.numbers too.numbers (is.parts.full ∙ sym too.parts.full) (λ i l. ap (λ (number : ℕ). number == n) (one_number i l))

  one_label : (i : ℕ) → i < length v.labels → slice_index v.labels i ≡ slice_index w.labels i
  one_label i l =
      let size : length v.labels ≡ across * c.raster.height = rw (is.width, is.height) at is.full in
      let other : length w.labels ≡ across * c.raster.height = rw (too.width, too.height) at too.full in
      let n = slice_index too.numbers i in
      let alike = rank_alike least n (size_of is.numbers) (size_of too.numbers) (λ k h. one_size k) in
      let same : part_label least is.numbers i ≡ part_label least too.numbers i = rw (one_number i (omega (arith, l, size, is.parts.full))) (ap (λ (rank : ℕ). if n == no_label then 0 else rank) alike) in
      is.labels i l ∙ same ∙ sym (too.labels i (omega (arith, l, size, other)))

  one_count : v.count ≡ w.count
  one_count =
      is.count
      ∙ enough_alike least is.total (size_of is.numbers) (size_of too.numbers) (λ k h. one_size k)
      ∙ ap (enough least (size_of too.numbers)) unique.0
      ∙ sym too.count

pub parts_are_unique : PartsAreUnique
parts_are_unique c limit least v w is too = (one_count c limit least v w is too, one_label c limit least v w is too)
