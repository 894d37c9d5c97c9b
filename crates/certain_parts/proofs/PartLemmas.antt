-- The labels, sizes and first pixels that are found are those of the parts.
use Rattle.std.proofs.Common.{◌≡◌, ◌∙◌, ℕ, ◌+◌, ◌*◌, ◌<◌, ◌≤◌, refl, arith, List, length}
use Rattle.std.specs.Prelude.{◌==◌, slice_index}
use Rattle.std.specs.List.{position_or_len}
use Rattle.joined_cells.specs.Measures.{AreMeasures}
use Rattle.joined_cells.specs.Trees.{HasTreeNumbers}
use Rattle.certain_parts.specs.Labels.{ArePartsOf, enough, rank_of, size_of}
use Rattle.certain_parts.specs.Laws.{SurfacesAgreeByLabels}
use Rattle.certain_parts.specs.Margins.{Faced}
use Rattle.certain_parts.specs.Parts.{parts_joined}
use Rattle.certain_parts.proofs.Agreeing.{surfaces_agree}
use Rattle.certain_parts.proofs.LabelLemmas.{has_pixel, labels_are, labels_tell}

module _ (c : Faced) (limit least total count : ℕ) (numbers labels sizes firsts : List ℕ) (wide : 0 < c.raster.width) (few : c.raster.width * c.raster.height ≤ 268435456)
    (is : HasTreeNumbers (parts_joined c limit) numbers total) (same : length labels ≡ length numbers)
    (ranked : (i : ℕ) → i < length numbers → slice_index numbers i < total → slice_index labels i ≡ rank_of least (size_of numbers) (slice_index numbers i))
    (other : (i : ℕ) → i < length numbers → total ≤ slice_index numbers i → slice_index labels i ≡ 0)
    (counted : count ≡ enough least (size_of numbers) total) (measured : AreMeasures labels (count + 1) sizes firsts) where
  few_trees : total ≤ 268435456
  few_trees = omega (arith, is.few, few)

  pub parts_are : ArePartsOf c limit least (record { width = c.raster.width; height = c.raster.height; labels = labels; count = count })
  parts_are = record {
    width = refl;
    height = refl;
    full = same ∙ is.full;
    numbers = numbers;
    total = total;
    parts = is;
    few = few_trees;
    labels = λ i l. labels_are (parts_joined c limit) numbers labels total least wide few_trees is ranked other i (omega (arith, l, same));
    count = counted;
  }

  pub first_is : (n : ℕ) → 1 ≤ n → n < count + 1 → slice_index firsts n ≡ position_or_len (λ label. label == n) labels
  first_is n one l =
      let p = has_pixel (parts_joined c limit) numbers labels total least is ranked n one (omega (arith, l, counted)) in
      measured.places n p.0 l (omega (arith, p.1, same)) p.2

-- ---- what the law of parts says of labels
pub surfaces_agree_with_labels : SurfacesAgreeByLabels
surfaces_agree_with_labels c limit least v other is certified one good near x y a b u w labelled same =
    surfaces_agree c limit other certified one good near x y a b ((labels_tell c limit least v is x y a b u w labelled).0 same)
