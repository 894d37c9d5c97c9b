use Rattle.std.proofs.Common.{◌≡◌, ◌∙◌, arith, to_z, of_z, w64}
use Rattle.std.proofs.lemmas.Int.{ints}
use Rattle.certificates.specs.TileWords.{faces_at}
use Rattle.certificates.proofs.FaceLemmas.{before-pred}
use Rattle.certificates.proofs.tile.Tile.face_above.Goals as goal

pub returns-else-y-eq0 : goal.returns-else-y-eq0
returns-else-y-eq0 c =
    let e : to_z w64 (of_z w64 c.face.result) ≡ c.face.result = omega (arith, ints) in
    before-pred (faces_at c.args.self.now c.args.faces.now c.args.x) c.args.y _ (omega arith) (e ∙ c.face.ensures)
