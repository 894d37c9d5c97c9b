use Rattle.std.proofs.Common.{ℕ, ◌-◌, ◌<◌, ◌≤◌}
use Rattle.text_lines.specs.Adding.{Adds}
use Rattle.text_lines.specs.Numbers.{AreLongs}
use Rattle.text_lines.specs.Views.{view_of}
use Rattle.text_pages.specs.Passages.{texts_from}
use Rattle.surface_snapshots.specs.Parts.{faces_in}
use Rattle.surface_snapshots.specs.Views.{parts_of}
use Rattle.report_text.specs.Text.{faces_text}
use Rattle.report_text.proofs.faces.FaceLinesPassages.add.Given as goal

abbrev pub invariant-loop-tile : goal.invariant-loop-tile
invariant-loop-tile g l = let faces = faces_in (parts_of l.self.snapshot.now) in record {
  added : Adds (view_of g.K.Sink.held g.K.Sink.faults l.fn.text) (view_of g.K.Sink.held g.K.Sink.faults l.text) (texts_from (faces_text faces) l.from (l.tile - l.from));
  longs : (t : ℕ) → l.from ≤ t → t < l.tile → AreLongs (faces t);
}
