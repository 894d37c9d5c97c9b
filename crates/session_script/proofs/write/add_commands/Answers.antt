use Rattle.std.proofs.lemmas.List.{take_all}
use Rattle.session_script.specs.Text.{command_line}
use Rattle.text_lines.proofs.AddLemmas.{adds_next, adds_nothing}
use Rattle.session_script.proofs.write.add_commands.Goals as goal

pub loop-command-init : goal.loop-command-init
loop-command-init g c = adds_nothing _

pub loop-command-preserved : goal.loop-command-preserved
loop-command-preserved g c = adds_next command_line c.args.commands.now c.loop-command.command-index _ c.loop-command-test.true c.loop-command.invariant c.add_line.ensures

pub returns : goal.returns
returns g c = rw (take_all c.loop-command.command-index c.args.commands.now c.loop-command-test.false) at c.loop-command.invariant
