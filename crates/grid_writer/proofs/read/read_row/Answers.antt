use Rattle.std.proofs.Common.{◌∙◌, ◌*◌, sym}
use Rattle.std.proofs.lemmas.Result.{err_from_is_err_and}
use Rattle.insar_ports.specs.Calls.{call_of}
use Rattle.text_lines.specs.LineWords.{kept_line, lines_read}
use Rattle.text_lines.specs.Numbers.{numbers_line}
use Rattle.text_lines.proofs.CauseLemmas.{broken_line, cause_unread, taken_line}
use Rattle.grid_writer.specs.GridParts.{IsRow, IsRowLine}
use Rattle.grid_writer.proofs.HeadLemmas.{begins_row, row_short}
use Rattle.grid_writer.proofs.read.read_row.Goals as goal
use Rattle.grid_writer.proofs.read.read_row.Goals.{in_default-via-in-Whole+in_ok-push_row+else-branch, in_default-via-in_default}

pub returns-in_err-next-clause-refused : goal.returns-in_err-next-clause-refused
returns-in_err-next-clause-refused g c =
    let p = err_from_is_err_and c.from_residual.result c.from_residual.ensures.1 in
    rw (p.1, p.2) (cause_unread (IsRow c.args.width) (IsRowLine c.args.width) (begins_row c.args.width) (lines_read c.args.lines.now) (call_of g.S.Source.left g.S.Source.faults c.args.feed.now c.next.new.feed) c.in_err-next.field-0.0 c.in_err-next.ensures.refused)

pub returns-in-Whole-clause-read : goal.returns-in-Whole-clause-read
returns-in-Whole-clause-read g c =
    let a = rw c.if-branch.true at c.in_ok-push_row.ensures in
    let taken = taken_line (call_of g.S.Source.left g.S.Source.faults c.args.feed.now c.next.new.feed) (21 * c.args.width) (lines_read c.next.new.self) (lines_read c.args.lines.now) (kept_line c.next.new.self) (numbers_line a.0) c.in_ok-next.field-0 c.in_ok-next.ensures.number (sym c.line.ensures ∙ a.1.1.1.0) c.in-Whole.is c.in_ok-next.ensures.line in
    (a.0, (a.1.0, (a.1.1.0, (a.1.1.1.1, taken))))

pub returns-in_default-clause-refused : goal.returns-in_default-clause-refused
returns-in_default-clause-refused g c =
    broken_line (IsRow c.args.width) (IsRowLine c.args.width) (begins_row c.args.width) (lines_read c.args.lines.now) (call_of g.S.Source.left g.S.Source.faults c.args.feed.now c.next.new.feed) c.in_ok-next.field-0 (21 * c.args.width) (kept_line c.next.new.self) c.number.result
    (c.number.ensures ∙ c.in_ok-next.ensures.number) c.in_ok-next.ensures.line
    (λ whole d. elim c.in_default.branch [
      | in_default-via-in-Whole+in_ok-push_row+else-branch w ↦ (rw w.if-branch.false at w.in_ok-push_row.ensures) d.0 d.1.0 d.1.1.0 (w.line.ensures ∙ d.1.1.1)
      | in_default-via-in_default w ↦ w.in_default.not-Whole whole
    ])
    (row_short c.args.width)
