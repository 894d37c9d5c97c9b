use Rattle.text_lines.specs.Parsing.{IsWord}
use Rattle.text_lines.specs.Text.{field_text}
use Rattle.text_lines.proofs.FieldLemmas.{last_begins}
use Rattle.text_lines.proofs.ParseLemmas.{pair_read}
use Rattle.text_lines.proofs.parse.pair_of.Goals as goal

pub returns : goal.returns
returns c = pair_read IsWord field_text c.args.bytes.now c.in_ok-first.second.now c.in_ok-first.first c.last_field.result c.with_first.result c.in_ok-first.ensures c.last_field.ensures c.with_first.ensures (λ n _. last_begins n)
