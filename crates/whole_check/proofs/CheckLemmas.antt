-- The cells of the whole raster.
use Rattle.std.proofs.Common.{◌≡◌, ◌∙◌, ℕ, ◌-◌, ◌*◌, ap₂, refl, arith}
use Rattle.raster_model.specs.declared.sheet.Sheet.{Sheet}
use Rattle.raster_model.specs.declared.tiling.Window.{Window}
use Rattle.raster_model.specs.Cells.{cell_count}
use Rattle.raster_model.specs.Sheets.{sheet_raster}
use Rattle.certificates.proofs.VerdictLemmas.{counted}
use Rattle.raster_model.specs.Whole.{whole_of}
use Rattle.raster_model.proofs.Windows.{whole_window}

-- a face for each
pub faces_counted : (s : Sheet) (n width height : ℕ) → n ≡ (width - 1) * (height - 1) → width ≡ s.phase.now.width → height ≡ s.phase.now.height → n ≡ cell_count (whole_of (sheet_raster s)) 0
faces_counted s n width height e wide high =
    let r = sheet_raster s in
    let v : Window = record { x0 = 0; y0 = 0; x1 = s.phase.now.width - 1; y1 = s.phase.now.height - 1 } in
    counted (whole_of r) 0 v (whole_window r v refl refl (omega (arith, s.phase.now.wide)) (omega (arith, s.phase.now.high))) n
    (e ∙ ap₂ (λ (a b : ℕ). a * b) (omega (arith, wide)) (omega (arith, high)))
