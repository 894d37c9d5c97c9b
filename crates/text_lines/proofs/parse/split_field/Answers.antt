use Rattle.text_lines.proofs.ParseLemmas.{is_split}
use Rattle.text_lines.proofs.parse.split_field.Goals as goal

pub returns : goal.returns
returns c =
    is_split c.args.bytes.now c.in_ok-bytes.bytes.now c.token_length.result c.split_at.result.0.now c.split_at.result.1.now c.in_ok-bytes.ensures c.token_length.ensures.within c.token_length.ensures.token c.token_length.ensures.space c.split_at.ensures.front c.split_at.ensures.back
