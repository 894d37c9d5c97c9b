-- The labels of a window in row order: one more row.
use Rattle.std.proofs.Common.{◌≡◌, ◌∙◌, ℕ, ◌+◌, ◌-◌, ◌*◌, ◌<◌, ◌≤◌, ap, arith, inl, inr, refl, List, ◌++◌, length, get_or}
use Rattle.std.proofs.lemmas.Bool.{cases_lt}
use Rattle.std.proofs.lemmas.List.{get_or-append_right, get_or_append_left, length-append}
use Rattle.std.proofs.lemmas.Nat.{mul-add-lt}
use Rattle.raster_model.specs.declared.tiling.Window.{Window}
use Rattle.raster_model.specs.Tiles.{place_in, width_of}
use Rattle.surface_snapshots.specs.Packing.{AreLabelsBefore}

pub row_added : (all : List ℕ) (width : ℕ) (w : Window) (y : ℕ) (list more : List ℕ) → w.x0 ≤ w.x1 → w.y0 ≤ y → AreLabelsBefore all width w y list → length more ≡ width_of w → ((i : ℕ) → i < width_of w → get_or more i 0 ≡ get_or all (y * width + w.x0 + i) 0) → AreLabelsBefore all width w (y + 1) (list ++ more)
row_added all width w y list more across along is row reads =
    let next : y + 1 - w.y0 ≡ (y - w.y0) + 1 = omega (arith, along) in
    let before : length list ≡ (y - w.y0) * width_of w = is.size ∙ omega arith in
    let after : (y + 1 - w.y0) * width_of w ≡ (y - w.y0) * width_of w + width_of w = rw next (omega arith) in
    record {
      size = length-append list more ∙ omega (arith, before, row, after);
      each = λ a b inside below.
          elim (cases_lt b y) [
            | inl above ↦
                (let place : place_in w a b < width_of w * (y - w.y0) = mul-add-lt (b - w.y0) (width_of w) (a - w.x0) (y - w.y0) (omega (arith, above, inside)) (omega (arith, inside)) in
                get_or_append_left list more 0 (place_in w a b) (omega (arith, place, before)) ∙ is.each a b inside above)
            | inr here ↦
                (let e : b ≡ y = omega (arith, here, below) in
                let place : place_in w a y ≡ length list + (a - w.x0) = omega (arith, before) in
                let column : a - w.x0 < width_of w = omega (arith, inside) in
                rw e
                (get_or-append_right list more (length list) (place_in w a y) 0 refl (omega (arith, place))
                ∙ ap (λ (i : ℕ). get_or more i 0) (let d : place_in w a y - length list ≡ a - w.x0 = omega (arith, place) in d)
                ∙ reads (a - w.x0) column
                ∙ ap (λ (i : ℕ). get_or all i 0) (let d : y * width + w.x0 + (a - w.x0) ≡ y * width + a = omega (arith, inside) in d)))
          ];
    }
