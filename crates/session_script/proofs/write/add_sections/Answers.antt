use Rattle.std.proofs.lemmas.List.{take_all}
use Rattle.text_lines.proofs.AddLemmas.{adds_next, adds_nothing}
use Rattle.session_script.proofs.WrittenSession.{script_text, scripts_as_sections}
use Rattle.session_script.proofs.write.add_sections.Goals as goal

pub loop-script-init : goal.loop-script-init
loop-script-init g c = adds_nothing _

pub returns : goal.returns
returns g c = rw (← scripts_as_sections c.args.scripts.now) (rw (take_all c.loop-script.script-index c.args.scripts.now c.loop-script-test.false) at c.loop-script.invariant)

pub loop-script-preserved : goal.loop-script-preserved
loop-script-preserved g c = adds_next script_text c.args.scripts.now c.loop-script.script-index c.script-item.result c.loop-script-test.true c.loop-script.invariant (rw (← c.script-item.is) (rw c.deref.ensures.value at c.add_section.ensures))
