use Rattle.text_parts.proofs.TextBreaks.{cut_text_has_no_break}
use Rattle.whole_text.specs.Text.{IsWholeText}
use Rattle.whole_text.proofs.DecideLemmas.{whole_or_broken_line}
use Rattle.whole_text.proofs.laws.whole_or_broken_line.Goals as goal

pub returns-clause-either : goal.returns-clause-either
returns-clause-either c = whole_or_broken_line

pub returns-clause-cut : goal.returns-clause-cut
returns-clause-cut c = cut_text_has_no_break IsWholeText
