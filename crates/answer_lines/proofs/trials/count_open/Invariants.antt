use Rattle.std.proofs.Common.{◌≡◌, ◌≤◌, ◌*◌}
use Rattle.raster_model.specs.Masks.{open_at}
use Rattle.answer_lines.specs.TrialLines.{count_grid}
use Rattle.answer_lines.proofs.trials.count_open.Given as goal

abbrev pub invariant-loop-y : goal.invariant-loop-y
invariant-loop-y l = record {
  counted : l.count ≡ count_grid l.mask.width l.y (open_at l.mask);
  few : l.count ≤ 65535 * l.y;
}
