use Rattle.std.proofs.Common.{◌≡◌, ◌+◌, ◌-◌, ◌*◌, refl, arith}
use Rattle.text_pages.proofs.TextsFrom.{adds_none, adds_one_more}
use Rattle.text_parts.specs.Text.{ended_line}
use Rattle.whole_text.specs.Text.{face_row, row_of}
use Rattle.whole_text.proofs.face_rows.FaceRowsPassages.add.Goals as goal

pub loop-row-init : goal.loop-row-init
loop-row-init g c = let s = c.args.self.now in adds_none _ (λ y. ended_line face_row (row_of s.across s.faces.now y)) c.args.from c.args.from refl

pub loop-row-preserved : goal.loop-row-preserved
loop-row-preserved g c =
    let s = c.args.self.now in
    let start = c.loop-row.row * s.across in
    let size : start + s.across - start ≡ s.across = omega arith in
    adds_one_more (λ y. ended_line face_row (row_of s.across s.faces.now y)) c.args.from c.loop-row.row (omega arith) c.loop-row.invariant (rw size at c.add_row.ensures)
