use Rattle.std.proofs.Common.{◌∙◌, pos, w64, FitsSigned, rules, ◌+◌, ◌-◌, ◌*◌}
use Rattle.std.specs.Prelude.{slice_index_or}
use Rattle.std.proofs.lemmas.Int.{to_z-of_z}
use Rattle.raster_model.specs.Sheets.{sheet_raster}
use Rattle.certain_parts.proofs.FaceLemmas.{face_place, face_read}
use Rattle.certain_parts.proofs.faces.Faces.face.Goals as goal

pub bounds-self-y : goal.bounds-self-y
bounds-self-y c =
    let s = c.args.self.now.sheet.now in
    face_place (sheet_raster s) c.args.self.now.faces.now s.phase.now.wide.0 s.phase.now.high.0 c.args.x c.args.y c.if-x-across.true c.if-y-self.true c.args.self.now.count

pub returns-then-y-self : goal.returns-then-y-self
returns-then-y-self c =
    let s = c.args.self.now.sheet.now in
    let faces = c.args.self.now.faces.now in
    let place = c.args.y * (s.phase.now.width - 1) + c.args.x in
    let fits : FitsSigned w64 (slice_index_or faces place (pos 0)) = search rules in
    to_z-of_z w64 (slice_index_or faces place (pos 0)) fits
    ∙ face_read (sheet_raster s) faces s.phase.now.wide.0 s.phase.now.high.0 c.args.x c.args.y c.if-x-across.true c.if-y-self.true
