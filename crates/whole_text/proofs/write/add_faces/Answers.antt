use Rattle.std.proofs.Common.{ℕ, ◌-◌, ap, sym}
use Rattle.text_lines.proofs.ChainLemmas.{adds_is}
use Rattle.whole_text.specs.Text.{face_rows, rows_text}
use Rattle.whole_text.proofs.write.add_faces.Goals as goal

pub returns-clause-added : goal.returns-clause-added
unfolding face_rows
returns-clause-added g c = adds_is c.add_side_by_side.ensures.added (ap (λ (n : ℕ). rows_text n (c.args.width - 1) c.args.faces.now) (sym c.cell_rows_of.ensures))
