use Rattle.text_lines.specs.Parsing.{AreWords, IsWordThen, field_then, pair_text}
use Rattle.text_lines.proofs.FieldLemmas.{field_begins}
use Rattle.text_lines.proofs.ParseLemmas.{pair_read}
use Rattle.text_lines.proofs.parse.four_of.Goals as goal

pub returns : goal.returns
returns c =
    pair_read (IsWordThen AreWords) (field_then pair_text) c.args.bytes.now c.in_ok-first.rest.now c.in_ok-first.first c.three_of.result c.with_first.result c.in_ok-first.ensures c.three_of.ensures c.with_first.ensures (λ p _. field_begins p.0 (pair_text p.1))
