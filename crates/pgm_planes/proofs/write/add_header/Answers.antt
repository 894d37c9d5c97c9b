use Rattle.text_lines.proofs.AddLemmas.{adds_then}
use Rattle.pgm_planes.specs.Text.{plane_header_text}
use Rattle.pgm_planes.proofs.write.add_header.Goals as goal

pub returns : goal.returns
unfolding plane_header_text
returns g c =
    adds_then c.bytes.ensures (adds_then c.number.ensures (adds_then c.space.ensures (adds_then c.number-2.ensures (adds_then c.end_line.ensures (adds_then c.number-3.ensures c.end_line-2.ensures)))))
