use Rattle.std.proofs.Common.{◌≡◌, ◌<◌, ◌∙◌, ap, sym, arith, of_z, w64, SFits, pos}
use Rattle.std.specs.Int.{int_rem_euclid}
use Rattle.std.proofs.lemmas.Int.{to_z-of_z}
use Rattle.raster_model.specs.Masks.{open_at}
use Rattle.raster_model.specs.Sheets.{sheet_raster}
use Rattle.grid_writer.specs.Grids.{value_at}
use Rattle.grid_writer.proofs.FitLemmas.{fits_open}
use Rattle.grid_writer.proofs.FitValues.{fits_by_test}
use Rattle.grid_writer.proofs.shown.ShownValues.fits.Goals as goal

pub returns : goal.returns
returns c =
    let s = c.args.self.now in
    let z = c.value-value.result in
    let fits : SFits w64 z = record { sfits = c.value-value.type_inv } in
    let rest : c.rem_euclid.result ≡ int_rem_euclid z (pos 65536) = rw (to_z-of_z w64 z fits) at c.rem_euclid.ensures.value in
    let phase : c.from.result ≡ pos ((sheet_raster s.sheet.now).phase c.args.x c.args.y) = c.from.ensures ∙ ap pos c.sample.ensures.value in
    let small : (sheet_raster s.sheet.now).phase c.args.x c.args.y < 65536 = omega (arith, c.sample.ensures.value, c.sample.type_inv) in
    fits_open (sheet_raster s.sheet.now) (open_at s.mask.now) (value_at s.sheet.now.phase.now.width s.values.now) c.args.x c.args.y z _ c.value-value.ensures (sym c.is_open.ensures ∙ c.if-not-is_open.false) (λ e. c.if-value.false (ap (of_z w64) e))
    (fits_by_test z c.rem_euclid.result c.from.result ((sheet_raster s.sheet.now).phase c.args.x c.args.y) small rest phase)
