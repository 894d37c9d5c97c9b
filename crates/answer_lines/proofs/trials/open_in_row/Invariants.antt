use Rattle.std.proofs.Common.{◌≡◌, ◌≤◌}
use Rattle.raster_model.specs.Masks.{open_at}
use Rattle.answer_lines.specs.TrialLines.{count_row}
use Rattle.answer_lines.proofs.trials.open_in_row.Given as goal

abbrev pub invariant-loop-x : goal.invariant-loop-x
invariant-loop-x l = record {
  counted : l.count ≡ count_row l.x (open_at l.mask) l.y;
  few : l.count ≤ l.x;
}
