use Rattle.std.proofs.Common.{◌≤◌, arith}
use Rattle.std.proofs.lemmas.Bool.Decides.{nat_tests}
use Rattle.raster_model.specs.Sums.{end_x, end_y}
use Rattle.certificates.specs.TileWords.{IsInner, FitAt}
use Rattle.certificates.proofs.TileParts.{is_inner, no_further, break_cases, in_raster, ends_open}
use Rattle.certificates.proofs.tile.Tile.is_unfit.Goals as goal
use Rattle.certificates.proofs.tile.Tile.is_unfit.Goals.{then-end_x-self, else-end_x-self}

pub returns-then-end_y-self : goal.returns-then-end_y-self
returns-then-end_y-self c =
    let k = c.args.self.now in
    let e = c.args.edge in
    let ends : (end_x e ≤ k.window.x1) × (end_y e ≤ k.window.y1) = elim c.if-end_x-self.branch [ then-end_x-self w ↦ (grind (arith, nat_tests), grind (arith, nat_tests)) | else-end_x-self w ↦ absurd (grind (arith, nat_tests)) ] in
    break_cases (IsInner k) (FitAt k c.args.faces.now) c.faces_fit.result e (is_inner k e c.requires.start ends.0 ends.1) c.faces_fit.ensures

pub returns-else-end_y-self : goal.returns-else-end_y-self
returns-else-end_y-self c =
    let k = c.args.self.now in
    rw c.if-end_y-self.false
    (λ i. let n = no_further k c.args.edge i in
    absurd (elim c.if-end_x-self.branch [ then-end_x-self w ↦ grind (arith, nat_tests) | else-end_x-self w ↦ grind (arith, nat_tests) ]))

pub faces_fit-requires : goal.faces_fit-requires
faces_fit-requires c =
    let k = c.args.self.now in
    let e = c.args.edge in
    let ends : (end_x e ≤ k.window.x1) × (end_y e ≤ k.window.y1) = elim c.if-end_x-self.branch [ then-end_x-self w ↦ (grind (arith, nat_tests), grind (arith, nat_tests)) | else-end_x-self w ↦ absurd (grind (arith, nat_tests)) ] in
    record {
      count = c.requires.count;
      is_edge = in_raster k e c.requires.start ends.0 ends.1;
      unmasked = λ t. ends_open k e (c.requires.unmasked t) c.requires.start ends.0 ends.1;
    }
