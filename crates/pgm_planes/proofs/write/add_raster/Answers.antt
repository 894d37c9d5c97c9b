use Rattle.std.proofs.Common.{arith, ◌≤◌}
use Rattle.pgm_planes.specs.Planes.{is_wide}
use Rattle.text_lines.proofs.AddLemmas.{adds_then, adds_nothing}
use Rattle.pgm_planes.proofs.WriteLemmas.{more_samples}
use Rattle.pgm_planes.proofs.write.add_raster.Goals as goal

pub loop-start-init : goal.loop-start-init
loop-start-init g c = record { within = omega arith; added = adds_nothing _ }

pub loop-start-preserved : goal.loop-start-preserved
loop-start-preserved g c =
    let le : c.loop-start.start ≤ c.min-end.result = omega (arith, c.min-end.ensures, c.loop-start-test.true) in
    record {
      within = omega (arith, c.min-end.ensures);
      added = rw (← more_samples (is_wide c.args.maxval) c.args.samples.now c.loop-start.start c.min-end.result le) (adds_then c.loop-start.invariant.added c.add_piece.ensures);
    }
