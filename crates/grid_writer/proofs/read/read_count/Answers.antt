use Rattle.std.proofs.Common.{◌∙◌, ◌+◌, ◌++◌, sym, arith, length}
use Rattle.std.specs.Fmt.{decimal}
use Rattle.std.proofs.lemmas.Result.{err_from_is_err_and}
use Rattle.insar_ports.specs.Calls.{call_of}
use Rattle.text_lines.specs.LineWords.{kept_line, lines_read}
use Rattle.text_lines.proofs.CauseLemmas.{broken_line, cause_unread, not_whole, taken_line}
use Rattle.text_lines.proofs.FormLemmas.{in_line}
use Rattle.grid_writer.specs.GridParts.{IsCount, IsCountLine}
use Rattle.grid_writer.proofs.HeadLemmas.{begins_count, count_short}
use Rattle.grid_writer.proofs.read.read_count.Goals as goal

pub returns-in_err-next-clause-refused : goal.returns-in_err-next-clause-refused
returns-in_err-next-clause-refused g c =
    let p = err_from_is_err_and c.from_residual.result c.from_residual.ensures.1 in
    rw (p.1, p.2) (cause_unread (IsCount c.args.label.now c.args.least c.args.most) (IsCountLine c.args.label.now c.args.least c.args.most) (begins_count c.args.label.now c.args.least c.args.most (in_line c.args.label.now c.requires.inside) (omega arith) c.requires.some)
    (lines_read c.args.lines.now) (call_of g.S.Source.left g.S.Source.faults c.args.feed.now c.next.new.feed) c.in_err-next.field-0.0 c.in_err-next.ensures.refused)

pub returns-in-Some-clause-read : goal.returns-in-Some-clause-read
returns-in-Some-clause-read g c =
    taken_line (call_of g.S.Source.left g.S.Source.faults c.args.feed.now c.next.new.feed) (length c.args.label.now + 10) (lines_read c.next.new.self) (lines_read c.args.lines.now) (kept_line c.next.new.self) (c.args.label.now ++ decimal c.in-Some.count) c.in_ok-next.field-0
    c.in_ok-next.ensures.number (sym c.line.ensures ∙ c.in-Some.ensures.found) c.in-Whole.is c.in_ok-next.ensures.line

pub returns-in-None-clause-refused : goal.returns-in-None-clause-refused
returns-in-None-clause-refused g c =
    broken_line (IsCount c.args.label.now c.args.least c.args.most) (IsCountLine c.args.label.now c.args.least c.args.most) (begins_count c.args.label.now c.args.least c.args.most (in_line c.args.label.now c.requires.inside) (omega arith) c.requires.some)
    (lines_read c.args.lines.now) (call_of g.S.Source.left g.S.Source.faults c.args.feed.now c.next.new.feed) c.in_ok-next.field-0 (length c.args.label.now + 10) (kept_line c.next.new.self) c.number.result (c.number.ensures ∙ c.in_ok-next.ensures.number) c.in_ok-next.ensures.line
    (λ w d. c.in-None.ensures.none d.0 d.1.0 d.1.1.0 (c.line.ensures ∙ d.1.1.1))
    (count_short c.args.label.now c.args.least c.args.most (omega arith))

pub returns-in-Long-clause-refused : goal.returns-in-Long-clause-refused
returns-in-Long-clause-refused g c =
    broken_line (IsCount c.args.label.now c.args.least c.args.most) (IsCountLine c.args.label.now c.args.least c.args.most) (begins_count c.args.label.now c.args.least c.args.most (in_line c.args.label.now c.requires.inside) (omega arith) c.requires.some)
    (lines_read c.args.lines.now) (call_of g.S.Source.left g.S.Source.faults c.args.feed.now c.next.new.feed) c.in_ok-next.field-0 (length c.args.label.now + 10) (kept_line c.next.new.self) c.number-in-Long.result (c.number-in-Long.ensures ∙ c.in_ok-next.ensures.number) c.in_ok-next.ensures.line
    (λ w d. not_whole c.in_ok-next.field-0 c.in-Long.is w)
    (count_short c.args.label.now c.args.least c.args.most (omega arith))
