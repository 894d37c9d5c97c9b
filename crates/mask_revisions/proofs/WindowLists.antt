-- A list of the pixels of a window.
use Rattle.std.proofs.Common.{◌≡◌, ℕ, ◌+◌, ◌-◌, ◌*◌, ◌/◌, ◌%◌, ◌<◌, ◌≤◌, ◌∙◌, ap, ap₂, sym, refl, arith, below_more, Bool, List, [], ◌∷◌, ◌++◌}
use Rattle.std.specs.Prelude.{slice_index_or}
use Rattle.std.proofs.lemmas.Nat.{mul-add-lt, div-mul-add, mod-mul-add}
use Rattle.raster_model.specs.declared.tiling.Window.{Window}
use Rattle.raster_model.specs.Sums.{Field}
use Rattle.std.proofs.Math.Seq.{get_or-append_seam}
use Rattle.std.proofs.lemmas.List.{get_or_append_left, length-append}
use Rattle.raster_model.specs.Tiles.{width_of}
use Rattle.mask_revisions.specs.Revisions.{IsWindowMask}
use Rattle.mask_revisions.specs.Windows.{AreListedBefore}

-- the next pixel of row y is added
pub listed_more : (v : Window) (mask : Field Bool) (x y : ℕ) (list : List Bool) (b : Bool) → v.x0 ≤ x → x ≤ v.x1 → v.y0 ≤ y → b ≡ mask x y → AreListedBefore v mask ((y - v.y0) * width_of v + (x - v.x0)) list → AreListedBefore v mask ((y - v.y0) * width_of v + (x + 1 - v.x0)) (list ++ b ∷ [])
listed_more v mask x y list b l r t e h =
    let w = width_of v in
    let n = (y - v.y0) * w + (x - v.x0) in
    let k : x - v.x0 < w = omega (arith, l, r) in
    let column : v.x0 + n % w ≡ x = omega (arith, mod-mul-add (y - v.y0) w (x - v.x0) k, l) in
    let row : v.y0 + n / w ≡ y = omega (arith, div-mul-add (y - v.y0) w (x - v.x0) k, t) in
    let more : n + 1 ≡ (y - v.y0) * w + (x + 1 - v.x0) = omega (arith, l) in
    rw (← more) (record {
      count = omega (arith, length-append list (b ∷ []), h.count);
      each = below_more _ _
          (λ i j. get_or_append_left list (b ∷ []) Bool.false i (omega (arith, h.count, j)) ∙ h.each i j)
          (ap (λ (i : ℕ). slice_index_or (list ++ b ∷ []) i Bool.false) (sym h.count) ∙ get_or-append_seam list b [] Bool.false ∙ e ∙ sym (ap₂ mask column row));
    })

-- the whole window is listed
pub window_listed : (v : Window) (mask : Field Bool) (list : List Bool) → AreListedBefore v mask ((v.y1 + 1 - v.y0) * width_of v) list → v.y0 ≤ v.y1 → IsWindowMask v mask list
window_listed v mask list h t = record {
  size = omega (arith, h.count, whole);
  clear = λ x y w. (
      let a = width_of v in
      let l : x - v.x0 < a = omega (arith, w) in
      let within : (y - v.y0) * a + (x - v.x0) < a * (v.y1 - v.y0 + 1) = mul-add-lt (y - v.y0) a (x - v.x0) (v.y1 - v.y0 + 1) (omega (arith, w)) l in
      let column : v.x0 + ((y - v.y0) * a + (x - v.x0)) % a ≡ x = omega (arith, mod-mul-add (y - v.y0) a (x - v.x0) l, w) in
      let row : v.y0 + ((y - v.y0) * a + (x - v.x0)) / a ≡ y = omega (arith, div-mul-add (y - v.y0) a (x - v.x0) l, w) in
      h.each ((y - v.y0) * a + (x - v.x0)) (omega (arith, within, whole)) ∙ ap₂ mask column row);
}
  where
    rows : v.y1 + 1 - v.y0 ≡ v.y1 - v.y0 + 1
    rows = omega (arith, t)

    whole : (v.y1 + 1 - v.y0) * width_of v ≡ width_of v * (v.y1 - v.y0 + 1)
    whole = rw rows (omega arith)

-- nothing is listed before the first row
pub none_listed : (v : Window) (mask : Field Bool) (list : List Bool) → list ≡ [] → AreListedBefore v mask ((v.y0 - v.y0) * width_of v) list
none_listed v mask list e =
    let none : v.y0 - v.y0 ≡ 0 = omega arith in
    let empty : 0 * width_of v ≡ 0 = omega arith in
    rw (none, empty, e) (record {
      count = refl;
      each = λ i l. absurd (omega (arith, l));
    })
