use Rattle.std.proofs.Common.{◌∙◌, sym, ap₂}
use Rattle.std.specs.Prelude.{ℤ, ◌*ℤ◌}
use Rattle.raster_model.specs.Certificates.{face_product}
use Rattle.raster_model.specs.Cells.{face_at}
use Rattle.certificates.specs.TileWords.{held_raster}
use Rattle.certificates.proofs.FaceLemmas.{no_product, products_of_faces, ends_in_raster}
use Rattle.certificates.proofs.SeamLemmas.{is_zero}
use Rattle.certificates.proofs.tile.Tile.face_product.Goals as goal

pub residue-requires : goal.residue-requires
residue-requires c =
    let k = c.args.self.now in
    let e = ends_in_raster k (face_at (held_raster k) k.number c.args.faces.now) c.args.x c.args.y c.requires.cell in
    record { across = e.0; along = e.1 }

pub overflow_mul-result : goal.overflow_mul-result
overflow_mul-result c =
    (products_of_faces c.cell_face-face.result c.residue.result c.from.result c.from-2.result (record { sfits = c.cell_face-face.type_inv }) c.residue.ensures.small c.from.ensures c.from-2.ensures).2

pub returns-clause-value : goal.returns-clause-value
unfolding face_product
returns-clause-value c =
    (products_of_faces c.cell_face-face.result c.residue.result c.from.result c.from-2.result (record { sfits = c.cell_face-face.type_inv }) c.residue.ensures.small c.from.ensures c.from-2.ensures).0
    ∙ ap₂ (λ (a b : ℤ). a *ℤ b) c.cell_face-face.ensures c.residue.ensures.value

pub returns-clause-small : goal.returns-clause-small
returns-clause-small c =
    (products_of_faces c.cell_face-face.result c.residue.result c.from.result c.from-2.result (record { sfits = c.cell_face-face.type_inv }) c.residue.ensures.small c.from.ensures c.from-2.ensures).1

pub returns-then-face-eq0-clause-value : goal.returns-then-face-eq0-clause-value
unfolding face_product
returns-then-face-eq0-clause-value c =
    no_product _ _ (sym c.cell_face-face.ensures ∙ is_zero c.cell_face-face.result (record { sfits = c.cell_face-face.type_inv }) c.if-face-eq0.true)
