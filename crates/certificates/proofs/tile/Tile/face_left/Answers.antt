use Rattle.std.proofs.Common.{◌≡◌, ◌∙◌, ℕ, arith, to_z, of_z, w64}
use Rattle.std.proofs.lemmas.Int.{ints}
use Rattle.certificates.specs.TileWords.{faces_at}
use Rattle.certificates.proofs.FaceLemmas.{before-pred}
use Rattle.certificates.proofs.tile.Tile.face_left.Goals as goal

pub returns-else-x-eq0 : goal.returns-else-x-eq0
returns-else-x-eq0 c =
    let e : to_z w64 (of_z w64 c.face.result) ≡ c.face.result = omega (arith, ints) in
    before-pred (λ (x : ℕ). faces_at c.args.self.now c.args.faces.now x c.args.y) c.args.x _ (omega arith) (e ∙ c.face.ensures)
