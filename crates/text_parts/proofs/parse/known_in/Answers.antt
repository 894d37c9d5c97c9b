use Rattle.text_lines.proofs.NumberLemmas.{agree}
use Rattle.text_lines.proofs.ParseLemmas.{is_other}
use Rattle.text_parts.proofs.parse.known_in.Goals as goal

pub returns-then-eq : goal.returns-then-eq
returns-then-eq c = (tt, agree c.args.line.now c.args.text.now c.eq.result c.eq.ensures c.if-eq.true)

pub returns-else-eq : goal.returns-else-eq
returns-else-eq c = λ a p e. is_other c.args.line.now c.args.text.now c.eq.result c.eq.ensures c.if-eq.false e
