use Rattle.std.proofs.Common.{◌-◌}
use Rattle.text_lines.specs.Adding.{Adds}
use Rattle.text_lines.specs.Views.{view_of}
use Rattle.text_pages.specs.Passages.{texts_from}
use Rattle.text_parts.specs.Text.{ended_line}
use Rattle.whole_text.specs.Text.{face_row, row_of}
use Rattle.whole_text.proofs.face_rows.FaceRowsPassages.add.Given as goal

abbrev pub invariant-loop-row : goal.invariant-loop-row
invariant-loop-row g l = Adds (view_of g.K.Sink.held g.K.Sink.faults l.fn.text) (view_of g.K.Sink.held g.K.Sink.faults l.text) (texts_from (λ y. ended_line face_row (row_of l.self.across l.self.faces.now y)) l.from (l.row - l.from))
