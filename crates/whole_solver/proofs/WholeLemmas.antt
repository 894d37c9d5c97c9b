-- The window of the whole raster, which is the window of its one tile, and its pixels in row order.
use Rattle.std.proofs.Common.{◌≡◌, ◌∙◌, ℕ, ◌+◌, ◌-◌, ◌*◌, ◌/◌, ◌%◌, ◌<◌, ◌≤◌, ap, ap₂, sym, refl, arith, inl, inr, List, [], ◌∷◌, ◌++◌, length, Bool, false}
use Rattle.std.specs.Prelude.{ℤ, slice_index_or}
use Rattle.std.proofs.Math.Seq.{get_or-append_seam}
use Rattle.std.proofs.lemmas.List.{get_or_append_left, length-append}
use Rattle.std.proofs.lemmas.Nat.{div-mul-add, mod-mul-add, mul-le}
use Rattle.raster_model.specs.declared.sheet.Sheet.{Sheet}
use Rattle.raster_model.specs.Sheets.{sheet_raster}
use Rattle.raster_model.specs.Limits.{max_pixels}
use Rattle.raster_model.specs.Sums.{Field}
use Rattle.raster_model.specs.Tiles.{IsWindowIn, height_of, width_of, IsTileWindow}
use Rattle.wrapped_gradient.specs.declared.corrections.Corrections.{Corrections}
use Rattle.wrapped_gradient.specs.Corrections.{greatest_of}
use Rattle.wrapped_gradient.proofs.Places.{place_within}
use Rattle.surface_integration.specs.Cycles.{LieWithin, StaySmall}
use Rattle.dual_grid.specs.Nodes.{cells_of}
use Rattle.dual_grid.specs.Starts.{TellsMask}
use Rattle.raster_model.specs.Whole.{whole_of}
use Rattle.whole_solver.specs.declared.limits.TheConstants.{MAX_UNMOVED_CYCLES}
use Rattle.whole_solver.specs.Solved.{raster_window}
use Rattle.sums_and_lists.proofs.Orders.{below_or_last}

pub window_inside : (s : Sheet) → IsWindowIn s.phase.now.width s.phase.now.height (raster_window (sheet_raster s))
window_inside s =
    let wide = s.phase.now.wide in
    let high = s.phase.now.high in
    record { across = (omega arith, omega (arith, wide)); along = (omega arith, omega (arith, high)) }

-- the whole raster's one tile has exactly the window's pixels
pub whole_tile : (s : Sheet) → IsTileWindow (whole_of (sheet_raster s)) 0 (raster_window (sheet_raster s))
whole_tile s =
    let is = window_inside s in
    record {
      across = is.across;
      along = is.along;
      pixels = λ x y l m. (λ e. (omega arith, omega (arith, l), omega arith, omega (arith, m)), λ w. refl);
    }

pub pixels_are : (s : Sheet) → width_of (raster_window (sheet_raster s)) * height_of (raster_window (sheet_raster s)) ≡ s.phase.now.width * s.phase.now.height
pixels_are s =
    let wide = s.phase.now.wide in
    let high = s.phase.now.high in
    ap₂ (λ (w h : ℕ). w * h) (omega (arith, wide)) (omega (arith, high))

pub few_cells_whole : (s : Sheet) → cells_of (raster_window (sheet_raster s)) ≤ max_pixels
few_cells_whole s =
    let w = s.phase.now.width in
    let h = s.phase.now.height in
    let fewer = mul-le (h - 1 - 0) (w - 1 - 0) h w (omega arith) (omega arith) in
    omega (arith, fewer, s.phase.now.few)

-- cycles of a surface over it whose first pixel has 0, for corrections as a network answers them
pub stay_unmoved : (s : Sheet) (k : Corrections) (cycles : Field ℤ) → greatest_of k ≤ cells_of (raster_window (sheet_raster s)) + 1 → StaySmall (raster_window (sheet_raster s)) cycles (greatest_of k) → LieWithin (raster_window (sheet_raster s)) cycles MAX_UNMOVED_CYCLES
stay_unmoved s k cycles small stay x y i =
    let wide = s.phase.now.wide in
    let high = s.phase.now.high in
    let most = mul-le (x - 0 + (y - 0)) (greatest_of k + 1) 131068 268435458 (omega (arith, i, wide, high)) (omega (arith, small, few_cells_whole s)) in
    omega (arith, most, stay x y i)

-- the first n pixels in row order are listed
pub record AreListed (w n : ℕ) (mask : Field Bool) (list : List Bool) : Type 0 where
  pub count : length list ≡ n
  pub values : (k : ℕ) → k < n → slice_index_or list k false ≡ mask (k % w) (k / w)

pub one_listed : (w n : ℕ) (mask : Field Bool) (list : List Bool) (b : Bool) → b ≡ mask (n % w) (n / w) → AreListed w n mask list → AreListed w (n + 1) mask (list ++ b ∷ [])
one_listed w n mask list b e h = record {
  count = omega (arith, length-append list (b ∷ []), h.count);
  values = λ k l. elim (below_or_last k n l) [
    | inl m ↦ get_or_append_left list (b ∷ []) false k (omega (arith, h.count, m)) ∙ h.values k m
    | inr m ↦ ap (λ (i : ℕ). slice_index_or (list ++ b ∷ []) i false) (m ∙ sym h.count) ∙ get_or-append_seam list b [] false ∙ e ∙ ap (λ (i : ℕ). mask (i % w) (i / w)) (sym m)
  ];
}

pub none_listed : (w : ℕ) (mask : Field Bool) (list : List Bool) → list ≡ [] → AreListed w 0 mask list
none_listed w mask list e = record { count = ap (λ (bs : List Bool). length bs) e; values = λ k l. absurd (omega (arith, l)) }

-- a pixel's place in the window of the whole raster
pub place_is : (y w x : ℕ) → 1 ≤ w → (y - 0) * (w - 1 - 0 + 1) + (x - 0) ≡ y * w + x
place_is y w x l =
    let across : w - 1 - 0 + 1 ≡ w = omega (arith, l) in
    let row : y - 0 ≡ y = omega arith in
    let column : x - 0 ≡ x = omega arith in
    rw (across, row, column) refl

-- all of them tell the mask
pub all_listed : (s : Sheet) (mask : Field Bool) (list : List Bool) → AreListed s.phase.now.width (s.phase.now.width * s.phase.now.height) mask list → TellsMask (raster_window (sheet_raster s)) list mask
all_listed s mask list h x y i =
    let w = s.phase.now.width in
    let wide = s.phase.now.wide in
    let high = s.phase.now.high in
    let column : x < w = omega (arith, i, wide) in
    let row : y < s.phase.now.height = omega (arith, i, high) in
    let inside : y * w + x < w * s.phase.now.height = place_within w s.phase.now.height y x row column in
    ap (λ (k : ℕ). slice_index_or list k false) (place_is y w x wide.0)
    ∙ h.values (y * w + x) inside
    ∙ ap₂ (λ (a b : ℕ). mask a b) (mod-mul-add y w x column) (div-mul-add y w x column)
