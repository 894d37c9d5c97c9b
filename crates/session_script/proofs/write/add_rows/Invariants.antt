use Rattle.std.proofs.Common.{◌≡◌, length}
use Rattle.session_script.specs.Text.{mask_row_text}
use Rattle.text_lines.specs.Adding.{Adds}
use Rattle.text_lines.specs.Text.{texts_below}
use Rattle.text_lines.specs.Views.{view_of}
use Rattle.session_script.proofs.write.add_rows.Given as goal

abbrev pub invariant-loop-y : goal.invariant-loop-y
invariant-loop-y g l = record {
  added : Adds (view_of g.K.Sink.held g.K.Sink.faults l.fn.text) (view_of g.K.Sink.held g.K.Sink.faults l.text) (texts_below l.y (mask_row_text l.mask));
  size : length l.row ≡ 4096;
}
