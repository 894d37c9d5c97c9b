use Rattle.loop_closure.proofs.Unique.{loops_have_one_text}
use Rattle.loop_closure.proofs.laws.loops_have_one_text.Goals as goal

pub returns : goal.returns
returns c = loops_have_one_text
