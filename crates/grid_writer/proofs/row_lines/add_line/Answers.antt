use Rattle.std.proofs.Common.{sym, ◌∙◌}
use Rattle.text_lines.proofs.AddLemmas.{adds_no_more, adds_then}
use Rattle.grid_writer.proofs.row_lines.add_line.Goals as goal

pub returns-then-not-is_sound-clause-added : goal.returns-then-not-is_sound-clause-added
returns-then-not-is_sound-clause-added g c = adds_no_more _ _ (sym c.is_sound.ensures ∙ c.if-not-is_sound.true)

pub returns-clause-added : goal.returns-clause-added
returns-clause-added g c = adds_then c.add_row.ensures c.end_line.ensures
