use Rattle.std.proofs.Common.{ℕ, ◌+◌, arith}
use Rattle.std.specs.Prelude.{not}
use Rattle.raster_model.specs.Sums.{down_edge}
use Rattle.certificates.specs.TileWords.{FitAt}
use Rattle.certificates.proofs.CostLemmas.{is_lower, lower_open}
use Rattle.certificates.proofs.FitRows.{fits_down, near_enough, one_fits}
use Rattle.certificates.proofs.tile.Tile.fit_down.Goals as goal

pub are_near-requires : goal.are_near-requires
are_near-requires c =
    let k = c.args.self.now in
    let x = c.loop-x.x in
    let y = c.args.y in
    record {
      is_edge = is_lower k.sheet.phase.now.width k.sheet.phase.now.height x y (omega (arith, c.loop-x-test.true, k.pixels.across)) (omega (arith, c.requires.row, k.pixels.along));
      unmasked = λ t. lower_open k x y (c.requires.unmasked t) (omega arith, omega arith, omega (arith, c.requires.row), omega (arith, c.requires.row)) c.requires.row.1;
    }

pub loop-x-preserved : goal.loop-x-preserved
loop-x-preserved c =
    let k = c.args.self.now in
    let x = c.loop-x.x in
    let y = c.args.y in
    one_fits (λ (n : ℕ). FitAt k c.args.faces.now (down_edge n y)) (k.window.x0 + 1) x c.loop-x.unfit (not c.are_near.result) c.loop-x.invariant
    (λ e. fits_down k c.args.faces.now x y c.cell_face-right.result c.cell_face-left.result (record { sfits = c.cell_face-right.type_inv }) (record { sfits = c.cell_face-left.type_inv }) (omega arith) c.cell_face-right.ensures c.cell_face-left.ensures (c.are_near.ensures (near_enough c.are_near.result e)))
