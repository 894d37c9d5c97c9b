use Rattle.std.proofs.Common.{◌≡◌, ◌≤◌}
use Rattle.raster_model.specs.Scene.{raster_of}
use Rattle.answer_lines.specs.TrialLines.{count_row, has_residue}
use Rattle.answer_lines.proofs.trials.residues_in_row.Given as goal

abbrev pub invariant-loop-x : goal.invariant-loop-x
invariant-loop-x l = record {
  counted : l.count ≡ count_row l.x (has_residue (raster_of l.scene)) l.y;
  few : l.count ≤ l.x;
}
