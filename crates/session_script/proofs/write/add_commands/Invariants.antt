use Rattle.std.proofs.Common.{flat_map, take}
use Rattle.session_script.specs.Text.{command_line}
use Rattle.text_lines.specs.Adding.{Adds}
use Rattle.text_lines.specs.Views.{view_of}
use Rattle.session_script.proofs.write.add_commands.Given as goal

abbrev pub invariant-loop-command : goal.invariant-loop-command
invariant-loop-command g l = Adds (view_of g.K.Sink.held g.K.Sink.faults l.fn.text) (view_of g.K.Sink.held g.K.Sink.faults l.text) (flat_map command_line (take l.command-index l.commands))
