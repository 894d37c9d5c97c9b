use Rattle.std.proofs.Common.{◌≡◌, ◌∙◌, arith}
use Rattle.std.proofs.lemmas.Int.{to_z-of_z}
use mir.Syntax.{w64}
use Rattle.text_lines.proofs.AddLemmas.{adds_then}
use Rattle.raster_model.specs.Masks.{open_at}
use Rattle.raster_model.specs.Sheets.{sheet_raster}
use Rattle.whole_text.specs.Told.{value_above}
use Rattle.whole_text.proofs.ValueLemmas.{adds_first, adds_value}
use Rattle.whole_text.proofs.rows.SurfaceRows.add_line.Goals as goal

pub loop-x-init : goal.loop-x-init
loop-x-init g c =
    let s = c.args.self.now in
    let values = value_above (sheet_raster s.sheet.now) (open_at s.mask.now) (g.H.Heights.cycles_at s.heights.now) in
    adds_first (λ x. values x c.args.y) _ (to_z-of_z w64 c.value.result c.value.ensures.fits ∙ c.value.ensures.value) c.signed.ensures

pub loop-x-preserved : goal.loop-x-preserved
loop-x-preserved g c =
    let s = c.args.self.now in
    let values = value_above (sheet_raster s.sheet.now) (open_at s.mask.now) (g.H.Heights.cycles_at s.heights.now) in
    adds_value (λ x. values x c.args.y) c.loop-x.x _ (omega (arith, c.loop-x.auto.x)) (to_z-of_z w64 c.value-in-loop-x.result c.value-in-loop-x.ensures.fits ∙ c.value-in-loop-x.ensures.value) c.loop-x.invariant c.add_signed_field.ensures

pub returns : goal.returns
returns g c =
    let all : c.loop-x.x ≡ c.args.self.now.sheet.now.phase.now.width = omega (arith, c.loop-x-test.false, c.loop-x.auto.x-end, c.args.self.now.sheet.now.phase.now.wide) in
    adds_then (rw all at c.loop-x.invariant) c.end_line.ensures
