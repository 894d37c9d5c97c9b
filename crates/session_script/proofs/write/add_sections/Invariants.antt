use Rattle.std.proofs.Common.{flat_map, take}
use Rattle.text_lines.specs.Adding.{Adds}
use Rattle.text_lines.specs.Views.{view_of}
use Rattle.session_script.proofs.WrittenSession.{script_text}
use Rattle.session_script.proofs.write.add_sections.Given as goal

abbrev pub invariant-loop-script : goal.invariant-loop-script
invariant-loop-script g l = Adds (view_of g.K.Sink.held g.K.Sink.faults l.fn.text) (view_of g.K.Sink.held g.K.Sink.faults l.text) (flat_map script_text (take l.script-index l.scripts))
