use Rattle.std.proofs.Common.{◌≡◌, ◌≤◌, ◌*◌, ◌-◌}
use Rattle.raster_model.specs.Scene.{raster_of}
use Rattle.answer_lines.specs.TrialLines.{count_grid, has_residue}
use Rattle.answer_lines.proofs.trials.count_residues.Given as goal

abbrev pub invariant-loop-y : goal.invariant-loop-y
invariant-loop-y l = record {
  counted : l.count ≡ count_grid (l.scene.phase.width - 1) l.y (has_residue (raster_of l.scene));
  few : l.count ≤ 4096 * l.y;
}
