use Rattle.text_lines.specs.Text.{rect_text}
use Rattle.text_lines.proofs.parse.rect_of.Goals as goal

pub returns-in_err-x0 : goal.returns-in_err-x0
unfolding rect_text
returns-in_err-x0 c = rw c.from_residual.ensures (λ r w e. c.in_err-x0.ensures (r.x0, (r.y0, (r.x1, r.y1))) (w.x0, (w.y0, (w.x1, w.y1))) e)
