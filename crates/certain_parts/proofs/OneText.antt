-- Parts of one surface, at one limit and with one least size, have one text.
use Rattle.std.proofs.Common.{◌≡◌, ◌∙◌, ℕ, Bool, List, refl, sym}
use Rattle.std.proofs.lemmas.List.{ext_get_or}
use Rattle.raster_model.specs.Sums.{Field}
use Rattle.certain_parts.specs.Laws.{PartsHaveOneText}
use Rattle.certain_parts.specs.PartsText.{parts_text}
use Rattle.certain_parts.specs.PartsView.{PartsView}
use Rattle.certain_parts.proofs.UniqueParts.{parts_are_unique}

-- the text by the raster's size, the labels and how many parts there are
text_by : (width height : ℕ) → List ℕ → ℕ → Field Bool → ℕ → ℕ → List ℕ
text_by width height labels count mask limit least = parts_text (record { width = width; height = height; labels = labels; count = count }) mask limit least

by_labels : (v : PartsView) (mask : Field Bool) (limit least : ℕ) → parts_text v mask limit least ≡ text_by v.width v.height v.labels v.count mask limit least
unfolding text_by
by_labels v mask limit least = refl

pub parts_have_one_text : PartsHaveOneText
parts_have_one_text faced limit least v w is too =
    let unique = parts_are_unique faced limit least v w is too in
    let width : v.width ≡ w.width = is.width ∙ sym too.width in
    let height : v.height ≡ w.height = is.height ∙ sym too.height in
    let labels : v.labels ≡ w.labels = ext_get_or 0 v.labels w.labels (is.full ∙ rw (width, height) (sym too.full)) unique.1 in
    by_labels v faced.mask limit least ∙ rw (width, height, labels, unique.0) refl ∙ sym (by_labels w faced.mask limit least)
