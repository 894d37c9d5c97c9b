-- No two surfaces over the whole raster have one text.
use Rattle.std.proofs.Common.{◌≡◌, ℕ, ◌-◌, ℤ, List, ◌++◌, sym, ap, subst, ◌∙◌}
use Rattle.std.specs.Prelude.{codes}
use Rattle.std.proofs.lemmas.List.{append_cancel_left, append_cancel_right}
use Rattle.grid_writer.specs.Grids.{AreLong, GridOf}
use Rattle.grid_writer.proofs.GridReads.{wide_cancel}
use Rattle.grid_writer.proofs.SizeLemmas.{wide_parts}
use Rattle.text_lines.specs.Numbers.{numbers_text}
use Rattle.text_lines.proofs.NumberLemmas.{numbers_unique}
use Rattle.text_parts.specs.Text.{ended_line, known_line, line_end}
use Rattle.text_parts.proofs.LineForms.{lines_apart}
use Rattle.text_parts.proofs.UniqueLemmas.{same_terms}
use Rattle.whole_text.specs.Parts.{HeadOf, IsFacesRow}
use Rattle.whole_text.specs.Reading.{WholeTextsAreUnique}
use Rattle.whole_text.specs.Text.{AreCellFaces, WholeOf, cell_rows, face_row, face_rows, row_of}
use Rattle.whole_text.proofs.Forms.{inside, tail_of, tail_text, whole_apart}
use Rattle.whole_text.proofs.RowLemmas.{cells_counted, cells_stand, faces_are, same_rows}

-- the faces of one raster
cells_unique : (width height : ℕ) (a b : List ℤ) (r s : List ℕ) → AreCellFaces width height a → AreCellFaces width height b → face_rows width height a ++ r ≡ face_rows width height b ++ s → a ≡ b
cells_unique width height a b r s f g e =
    let across = width - 1 in
    let n = cell_rows width height in
    let lines = lines_apart (IsFacesRow across) (λ y. face_row) n (inside across n) (row_of across a) (row_of across b) r s (cells_stand width height a f) (cells_stand width height b g) (ap (λ (l : List ℕ). l ++ r) (sym (faces_are width height a)) ∙ e ∙ ap (λ (l : List ℕ). l ++ s) (faces_are width height b)) in
    same_rows across n a b (f.1 ∙ sym (cells_counted width height)) (g.1 ∙ sym (cells_counted width height))
    (λ t lt. let x = cells_stand width height a f t lt in let y = cells_stand width height b g t lt in numbers_unique (row_of across a t) (row_of across b t) x.0 y.0 (append_cancel_left (codes "faces") (numbers_text (row_of across a t)) (numbers_text (row_of across b t)) (append_cancel_right (face_row (row_of across a t)) (face_row (row_of across b t)) line_end (lines.0 t lt))))

abbrev grid_by : ℕ → ℕ → WholeOf → GridOf
grid_by width height v = record { width = width; height = height; values = v.values }

abbrev last : List ℕ
last = ended_line (known_line {A = Unit {0}} (codes "end")) tt

-- values and faces behind a head
abbrev AreBehind : List ℕ → WholeOf → HeadOf → Type 0
AreBehind rest w p = AreLong p.1.0.0 p.1.0.1 w.values × (AreCellFaces p.1.0.0 p.1.0.1 w.faces × (rest ≡ tail_text p.1.0.0 p.1.0.1 (tail_of w)))

pub wholes_unique : WholeTextsAreUnique
wholes_unique v w a b e =
    let t = whole_apart v w a b e in
    let here = subst (AreBehind (tail_text v.width v.height (tail_of v)) w) (sym t.0) (b.values, (b.faces, t.1)) in
    let size = wide_parts v.width v.height a.sized in
    let grids = wide_cancel (grid_by v.width v.height v) (grid_by v.width v.height w) (face_rows v.width v.height v.faces ++ last) (face_rows v.width v.height w.faces ++ last) size size a.values here.0 here.1.1 in
    let values = grids.0 in
    record {
      width = ap (λ (p : HeadOf). p.1.0.0) t.0;
      height = ap (λ (p : HeadOf). p.1.0.1) t.0;
      rule = ap (λ (p : HeadOf). p.1.1.0) t.0;
      terms = same_terms v.terms w.terms (ap (λ (p : HeadOf). p.1.1.1.0.0) t.0) (ap (λ (p : HeadOf). p.1.1.1.0.1) t.0) (ap (λ (p : HeadOf). p.1.1.1.1.0) t.0);
      cost = ap (λ (p : HeadOf). p.1.1.1.1.1) t.0;
      values = values.values;
      faces = cells_unique v.width v.height v.faces w.faces last last a.faces here.1.0 grids.1;
    }
