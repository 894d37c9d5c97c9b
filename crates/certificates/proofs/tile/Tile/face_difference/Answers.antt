use Rattle.std.proofs.Common.{◌∙◌, w64, FitsSigned}
use Rattle.certificates.specs.TileWords.{faces_at}
use Rattle.certificates.proofs.FaceLemmas.{difference_fits, difference_down, difference_right}
use Rattle.certificates.proofs.tile.Tile.face_difference.Goals as goal

pub returns-then-edge : goal.returns-then-edge
returns-then-edge c =
    let f : FitsSigned w64 c.face.result = record { sfits = c.face.type_inv } in
    let g : FitsSigned w64 c.face_left.result = record { sfits = c.face_left.type_inv } in
    difference_fits c.face.result c.face_left.result c.from-here.result c.from.result f g c.from-here.ensures c.from.ensures
    ∙ difference_down (faces_at c.args.self.now c.args.faces.now) c.args.edge c.face.result c.face_left.result c.if-edge.true c.face.ensures c.face_left.ensures

pub returns-else-edge : goal.returns-else-edge
returns-else-edge c =
    let f : FitsSigned w64 c.face.result = record { sfits = c.face.type_inv } in
    let g : FitsSigned w64 c.face_above.result = record { sfits = c.face_above.type_inv } in
    difference_fits c.face_above.result c.face.result c.from-else-edge.result c.from-here.result g f c.from-else-edge.ensures c.from-here.ensures
    ∙ difference_right (faces_at c.args.self.now c.args.faces.now) c.args.edge c.face_above.result c.face.result c.if-edge.false c.face_above.ensures c.face.ensures
