use Rattle.std.proofs.Common.{flat_map, take}
use Rattle.text_lines.specs.Adding.{Adds}
use Rattle.text_lines.specs.Numbers.{number_text}
use Rattle.text_lines.specs.Views.{view_of}
use Rattle.text_lines.proofs.fields.add_numbers.Given as goal

abbrev pub invariant-loop-number : goal.invariant-loop-number
invariant-loop-number g l = Adds (view_of g.K.Sink.held g.K.Sink.faults l.fn.text) (view_of g.K.Sink.held g.K.Sink.faults l.text) (flat_map number_text (take l.number-index l.numbers))
