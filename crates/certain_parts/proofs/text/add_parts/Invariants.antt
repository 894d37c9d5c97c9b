use Rattle.text_lines.specs.Adding.{Adds}
use Rattle.text_lines.specs.Views.{view_of}
use Rattle.certain_parts.specs.PartsText.{part_lines}
use Rattle.certain_parts.proofs.text.add_parts.Given as goal

abbrev pub invariant-loop-before : goal.invariant-loop-before
invariant-loop-before g l = Adds (view_of g.K.Sink.held g.K.Sink.faults l.fn.text) (view_of g.K.Sink.held g.K.Sink.faults l.text) (part_lines l.parts l.before)
