use Rattle.std.proofs.Common.{refl}
use Rattle.text_lines.proofs.ChainLemmas.{adds_three}
use Rattle.report_text.specs.Text.{item_text}
use Rattle.report_text.proofs.report.add_item.Goals as goal

pub returns-clause-text : goal.returns-clause-text
unfolding item_text
returns-clause-text g c = adds_three c.add_entry.ensures.text c.end_line.ensures c.add_after.ensures.text refl
