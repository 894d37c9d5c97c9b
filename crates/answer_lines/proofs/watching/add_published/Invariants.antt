use Rattle.std.proofs.Common.{flat_map, take}
use Rattle.text_lines.specs.Adding.{Adds}
use Rattle.text_lines.specs.Views.{view_of}
use Rattle.answer_lines.specs.WatchLines.{published_line}
use Rattle.answer_lines.proofs.watching.add_published.Given as goal

abbrev pub invariant-loop-revision : goal.invariant-loop-revision
invariant-loop-revision g l = Adds (view_of g.K.Sink.held g.K.Sink.faults l.fn.text) (view_of g.K.Sink.held g.K.Sink.faults l.text) (flat_map published_line (take l.revision-index l.published))
