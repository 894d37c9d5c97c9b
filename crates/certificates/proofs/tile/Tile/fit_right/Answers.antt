use Rattle.std.proofs.Common.{ℕ, arith}
use Rattle.std.specs.Prelude.{not}
use Rattle.raster_model.specs.Sums.{right_edge}
use Rattle.certificates.specs.TileWords.{FitAt}
use Rattle.certificates.proofs.CostLemmas.{is_right, right_open}
use Rattle.certificates.proofs.FitRows.{fits_right, near_enough, one_fits}
use Rattle.certificates.proofs.tile.Tile.fit_right.Goals as goal

pub are_near-requires : goal.are_near-requires
are_near-requires c =
    let k = c.args.self.now in
    let x = c.loop-x.x in
    let y = c.args.y in
    record {
      is_edge = is_right k.sheet.phase.now.width k.sheet.phase.now.height x y (omega (arith, c.loop-x-test.true, k.pixels.across)) (omega (arith, c.requires.row, k.pixels.along));
      unmasked = λ t. right_open k x y (c.requires.unmasked t) (omega arith, omega arith, omega (arith, c.requires.row), omega (arith, c.requires.row)) c.loop-x-test.true;
    }

pub loop-x-preserved : goal.loop-x-preserved
loop-x-preserved c =
    let k = c.args.self.now in
    let x = c.loop-x.x in
    let y = c.args.y in
    one_fits (λ (n : ℕ). FitAt k c.args.faces.now (right_edge n y)) k.window.x0 x c.loop-x.unfit (not c.are_near.result) c.loop-x.invariant
    (λ e. fits_right k c.args.faces.now x y c.cell_face-above.result c.cell_face-below.result (record { sfits = c.cell_face-above.type_inv }) (record { sfits = c.cell_face-below.type_inv }) (omega (arith, c.requires.row)) c.cell_face-above.ensures c.cell_face-below.ensures (c.are_near.ensures (near_enough c.are_near.result e)))
