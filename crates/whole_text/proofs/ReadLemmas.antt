-- What readers of the parts of the text did, one after the other.
use Rattle.std.proofs.Common.{◌≡◌, ℕ, ◌+◌, ◌-◌, ◌*◌, ℤ, List, ◌++◌, length, Result, Ok, Err, refl, sym, ap, ◌∙◌}
use Rattle.std.specs.Global.{Vec}
use Rattle.std.specs.Prelude.{IfOk}
use Rattle.text_lines.specs.declared.fault.LineFault.{LineFault}
use Rattle.text_lines.specs.Numbers.{AreLongs}
use Rattle.text_lines.proofs.StepLemmas.{cause_same}
use Rattle.text_lines.proofs.TextLemmas.{texts_more, texts_same}
use Rattle.text_parts.specs.Parts.{list_in}
use Rattle.text_parts.specs.Steps.{LinePlace, ReadsPart, TextOf, between}
use Rattle.text_parts.specs.Text.{ended_line}
use Rattle.text_parts.proofs.ReadsLemmas.{reads_ok, took}
use Rattle.whole_text.specs.Parts.{AreRows, HeadOf, IsHead, head_parts, lines_of_rows, rows_in}
use Rattle.whole_text.specs.Text.{AreCellFaces, cell_rows, face_row, face_rows, row_of}
use Rattle.whole_text.proofs.Forms.{cells_same}
use Rattle.whole_text.proofs.RowLemmas.{cells_counted, faces_are, row_before, row_new}

-- a row after others
pub rows_pushed : (across n : ℕ) (faces row : List ℤ) → length faces ≡ n * across → length row ≡ across → lines_of_rows n (row_of across faces) ++ ended_line face_row row ≡ lines_of_rows (n + 1) (row_of across (faces ++ row))
rows_pushed across n faces row e f =
    let more : ℕ → List ℤ = row_of across (faces ++ row) in
    ap (λ (l : List ℕ). l ++ ended_line face_row row) (texts_same n (λ y. ended_line face_row (row_of across faces y)) (λ y. ended_line face_row (more y)) (λ t lt. ap (ended_line face_row) (sym (row_before across n faces row e t lt))))
    ∙ ap (λ (l : List ℤ). lines_of_rows n more ++ ended_line face_row l) (sym (row_new across n faces row e f))
    ∙ sym (texts_more n (λ y. ended_line face_row (more y)))

-- rows that were read are the faces of a raster
pub cells_read : {v w : LinePlace} (width height across rows : ℕ) (r : Result (Vec ℤ) LineFault) → across ≡ width - 1 → rows ≡ cell_rows width height → ReadsPart (rows_in across) (AreRows across rows) (lines_of_rows rows) v w r → IfOk r (λ faces. faces.len ≡ rows * across) → IfOk r (λ faces. AreLongs faces.items) → ReadsPart list_in (AreCellFaces width height) (face_rows width height) v w r
cells_read {v} {w} width height across rows (Ok faces) a n h count longs =
    let size = count in
    reads_ok (took h) (longs, sym faces.ok.0 ∙ size ∙ ap (λ (k : ℕ). rows * k) a ∙ ap (λ (k : ℕ). k * (width - 1)) n ∙ cells_counted width height)
    (ap (λ (k : ℕ). lines_of_rows rows (row_of k faces.items)) a ∙ ap (λ (k : ℕ). lines_of_rows k (row_of (width - 1) faces.items)) n ∙ sym (faces_are width height faces.items))
cells_read {v} {w} width height across rows (Err e) a n h count longs = record {
  advance = h.advance;
  read = tt;
  refused = cause_same (TextOf (AreRows (width - 1) (cell_rows width height)) (lines_of_rows (cell_rows width height))) (TextOf (AreCellFaces width height) (face_rows width height)) (cells_same width height) (between v w) v.number e (rw (a, n) at h.refused);
}

-- the lines before the grid, with the ramp as it is stored
abbrev with_ramp : HeadOf → ℤ → ℤ → HeadOf
with_ramp p x y = (tt, (p.1.0, (p.1.1.0, ((x, y), p.1.1.1.1))))

pub ramp_stored : (p : HeadOf) (x y a b : ℤ) → a ≡ x → b ≡ y → IsHead (with_ramp p x y) → IsHead (with_ramp p a b) × (head_parts (with_ramp p x y) ≡ head_parts (with_ramp p a b))
ramp_stored p x y a b e f h = rw (e, f) (h, refl)
