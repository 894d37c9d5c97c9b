use Rattle.text_parts.proofs.ReadsLemmas.{advances_stay, took_none}
use Rattle.report_text.proofs.read.read_item.Goals as goal

pub returns-then-not-is_publication-clause-advances : goal.returns-then-not-is_publication-clause-advances
returns-then-not-is_publication-clause-advances g c = advances_stay _

pub returns-then-not-is_publication-clause-read : goal.returns-then-not-is_publication-clause-read
returns-then-not-is_publication-clause-read g c = took_none _
