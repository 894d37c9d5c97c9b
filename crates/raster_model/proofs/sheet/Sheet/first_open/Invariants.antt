use Rattle.std.proofs.Common.{ℕ}
use Rattle.raster_model.specs.Masks.{open_at}
use Rattle.raster_model.specs.Sheets.{sheet_raster}
use Rattle.raster_model.specs.Seams.{IsOpenPixel, IsEarlier}
use Rattle.raster_model.proofs.sheet.Sheet.first_open.Given as goal

abbrev pub invariant-loop-x : goal.invariant-loop-x
invariant-loop-x l = (a b : ℕ) → IsOpenPixel (sheet_raster l.self) (open_at l.mask) a b → IsEarlier a b l.x l.y → ⊥

abbrev pub invariant-loop-y : goal.invariant-loop-y
invariant-loop-y l = (a b : ℕ) → IsOpenPixel (sheet_raster l.self) (open_at l.mask) a b → IsEarlier a b 0 l.y → ⊥
