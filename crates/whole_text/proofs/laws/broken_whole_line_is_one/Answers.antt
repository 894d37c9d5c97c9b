use Rattle.text_parts.proofs.TextAnswers.{broken_line_is_one}
use Rattle.whole_text.specs.Text.{IsWholeText}
use Rattle.whole_text.proofs.laws.broken_whole_line_is_one.Goals as goal

pub returns : goal.returns
returns c = broken_line_is_one IsWholeText
