use Rattle.std.proofs.Common.{◌∙◌, pos, w64, FitsSigned, rules, ◌+◌, ◌-◌, ◌*◌}
use Rattle.std.specs.Prelude.{slice_index_or}
use Rattle.std.proofs.lemmas.Int.{to_z-of_z}
use Rattle.certificates.proofs.FaceLemmas.{face_place, face_read, face_fits}
use Rattle.certificates.proofs.tile.Tile.cell_face.Goals as goal

pub overflow_cast-across : goal.overflow_cast-across
overflow_cast-across c =
    let k = c.args.self.now in
    (face_fits k c.args.faces.now c.args.x c.args.y c.requires.cell).0

pub overflow_cast-result : goal.overflow_cast-result
overflow_cast-result c =
    let k = c.args.self.now in
    (face_fits k c.args.faces.now c.args.x c.args.y c.requires.cell).1

pub overflow_mul-result : goal.overflow_mul-result
overflow_mul-result c =
    let k = c.args.self.now in
    (face_fits k c.args.faces.now c.args.x c.args.y c.requires.cell).2

pub overflow_cast-result-2 : goal.overflow_cast-result-2
overflow_cast-result-2 c =
    let k = c.args.self.now in
    (face_fits k c.args.faces.now c.args.x c.args.y c.requires.cell).3

pub overflow_add-result : goal.overflow_add-result
overflow_add-result c =
    let k = c.args.self.now in
    (face_fits k c.args.faces.now c.args.x c.args.y c.requires.cell).4

pub offset_bounds-faces-y : goal.offset_bounds-faces-y
offset_bounds-faces-y c =
    let k = c.args.self.now in
    (face_fits k c.args.faces.now c.args.x c.args.y c.requires.cell).5

pub overflow_sub-across : goal.overflow_sub-across
overflow_sub-across c = c.args.self.now.pixels.across.0

pub overflow_sub-result : goal.overflow_sub-result
overflow_sub-result c = c.requires.cell.2

pub bounds-faces-y : goal.bounds-faces-y
bounds-faces-y c =
    let k = c.args.self.now in
    face_place k c.args.faces.now c.args.x c.args.y c.requires.cell c.requires.count

pub returns : goal.returns
returns c =
    let k = c.args.self.now in
    let place = (c.args.y - k.window.y0) * (k.window.x1 - k.window.x0) + (c.args.x - k.window.x0) in
    let fits : FitsSigned w64 (slice_index_or c.args.faces.now place (pos 0)) = search rules in
    to_z-of_z w64 (slice_index_or c.args.faces.now place (pos 0)) fits
    ∙ face_read k c.args.faces.now c.args.x c.args.y c.requires.cell
