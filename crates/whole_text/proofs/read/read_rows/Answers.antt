use Rattle.std.proofs.Common.{◌≡◌, ◌+◌, ◌*◌, ◌<◌, ◌++◌, ◌∙◌, ℤ, List, ap, length, sym, subst, arith}
use Rattle.std.proofs.lemmas.List.{length-append}
use Rattle.std.proofs.lemmas.List.Elements.{All-append}
use Rattle.text_lines.specs.Numbers.{AreLongs, FitsLong}
use Rattle.text_lines.proofs.TextLemmas.{texts_none}
use Rattle.text_parts.specs.Text.{ended_line}
use Rattle.text_parts.proofs.PartForms.{none_long}
use Rattle.text_parts.proofs.ReadsLemmas.{advances_then, reads_ok, reads_starved, reads_within, took, took_is, took_none, took_then}
use Rattle.whole_text.specs.Parts.{lines_of_rows, rows_in}
use Rattle.whole_text.specs.Text.{face_row, row_of}
use Rattle.whole_text.proofs.Forms.{row_after, row_first}
use Rattle.whole_text.proofs.ReadLemmas.{rows_pushed}
use Rattle.whole_text.proofs.RowLemmas.{row_stands}
use Rattle.whole_text.proofs.read.read_rows.Goals as goal

pub loop-init : goal.loop-init
loop-init g c =
    let none = c.new-faces.ensures.items in
    record {
      took = took_is (took_none _) (sym (texts_none (λ y. ended_line face_row (rows_in c.args.across c.new-faces.result y))));
      full = rw none (omega arith);
      longs = rw none none_long;
    }

pub loop-preserved : goal.loop-preserved
loop-preserved g c =
    let i = c.loop.invariant in
    let across = c.args.across in
    let old = c.loop.faces.items in
    let row = c.in_ok-row.row.items in
    let a = c.in_ok-row.ensures in
    let r = a.read.0 in
    let new : c.extend_from_slice.new.self.items ≡ old ++ row = c.in_ok-extend_from_slice.ensures.items ∙ ap (λ (l : List ℤ). old ++ l) c.deref.ensures.value in
    record {
      took = took_is (took_then i.took (took a)) (rows_pushed across c.loop.counter old row i.full r.1 ∙ ap (λ (l : List ℤ). lines_of_rows (c.loop.counter + 1) (row_of across l)) (sym new));
      full = let size = ap length new in let f = i.full in let e = r.1 in omega (arith, size, f, e, length-append old row);
      longs = subst AreLongs (sym new) (All-append FitsLong old row i.longs r.0);
    }

pub returns-in_err-row-clause-read : goal.returns-in_err-row-clause-read
returns-in_err-row-clause-read g c =
    let i = c.loop.invariant in
    let across = c.args.across in
    let faces = c.loop.faces.items in
    let here : c.loop.counter < c.args.rows = omega (arith, c.loop-test.true) in
    let stand = row_stands across c.loop.counter faces i.longs i.full in
    reads_within c.from_residual.result c.from_residual.ensures.1 (row_after across c.args.rows c.loop.counter here (row_of across faces) stand) (row_first across c.args.rows c.loop.counter here (row_of across faces) stand) i.took c.in_err-row.ensures

pub returns-in_err-extend_from_slice-clause-read : goal.returns-in_err-extend_from_slice-clause-read
returns-in_err-extend_from_slice-clause-read g c =
    reads_starved c.from_residual-in_err-extend_from_slice.result c.from_residual-in_err-extend_from_slice.ensures.1 (advances_then c.loop.invariant.took.advance c.in_ok-row.ensures.advance)

pub returns-clause-read : goal.returns-clause-read
returns-clause-read g c =
    let i = c.loop.invariant in
    let all : c.loop.counter ≡ c.args.rows = omega (arith, c.loop-test.false, c.loop.auto.counter-end) in
    let full : length c.loop.faces.items ≡ c.args.rows * c.args.across = i.full ∙ ap (λ n. n * c.args.across) all in
    reads_ok i.took (row_stands c.args.across c.args.rows c.loop.faces.items i.longs full) (ap (λ n. lines_of_rows n (rows_in c.args.across c.loop.faces)) all)

pub returns-clause-count : goal.returns-clause-count
returns-clause-count g c =
    let i = c.loop.invariant in
    let all : c.loop.counter ≡ c.args.rows = omega (arith, c.loop-test.false, c.loop.auto.counter-end) in
    c.loop.faces.ok.0 ∙ i.full ∙ ap (λ n. n * c.args.across) all

pub returns-clause-longs : goal.returns-clause-longs
returns-clause-longs g c = c.loop.invariant.longs
