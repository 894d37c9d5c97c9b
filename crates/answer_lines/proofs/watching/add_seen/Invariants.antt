use Rattle.std.proofs.Common.{flat_map, take}
use Rattle.text_lines.specs.Adding.{Adds}
use Rattle.text_lines.specs.Text.{field_text}
use Rattle.text_lines.specs.Views.{view_of}
use Rattle.answer_lines.specs.WatchLines.{seen_of}
use Rattle.answer_lines.proofs.watching.add_seen.Given as goal

abbrev pub invariant-loop-number : goal.invariant-loop-number
invariant-loop-number g l = Adds (view_of g.K.Sink.held g.K.Sink.faults l.fn.text) (view_of g.K.Sink.held g.K.Sink.faults l.text) (flat_map field_text (seen_of (take l.number-index l.published) l.kept))
