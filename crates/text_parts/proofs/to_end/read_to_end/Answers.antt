use Rattle.std.proofs.Common.{ℕ, subst}
use Rattle.insar_ports.specs.Calls.{call_of}
use Rattle.text_lines.specs.LineWords.{lines_read}
use Rattle.text_lines.specs.Reading.{HasLineCause}
use Rattle.text_lines.proofs.SeqLemmas.{IsCode}
use Rattle.text_parts.specs.Steps.{place_of}
use Rattle.text_parts.proofs.ReadsLemmas.{advances_then}
use Rattle.text_parts.proofs.TextAnswers.{reader_done, reader_failed}
use Rattle.text_parts.proofs.TextForms.{cause_of_lines, cause_of_more, lines_of_text}
use Rattle.text_parts.proofs.to_end.read_to_end.Goals as goal

pub returns-in_err-text-clause-reads : goal.returns-in_err-text-clause-reads
returns-in_err-text-clause-reads g c =
    let T = g.T.LinedText in
    let code : IsCode T.form = record { whole = c.read_lines.ensures.ends.whole; free = c.read_lines.ensures.ends.free } in
    let a = call_of g.S.Source.left g.S.Source.faults c.args.feed.now c.read_lines.new.feed in
    let e = c.in_err-text.field-0.0 in
    reader_failed T.form T.in_range T.text a c.from_residual.result e c.from_residual.ensures.1 (cause_of_lines T.form code a e (subst (λ (n : ℕ). HasLineCause T.form n a e) c.new-lines.ensures c.in_err-text.ensures.reads.refused))

pub returns-in_err-expect_end-clause-moves : goal.returns-in_err-expect_end-clause-moves
returns-in_err-expect_end-clause-moves g c =
    let e = c.in_err-expect_end.ensures in
    let end = place_of g.S.Source.left g.S.Source.faults c.expect_end.new.feed c.expect_end.new.lines in
    let both = advances_then {w = end} c.in_ok-text.ensures.reads.advance (record { source = e.same_source; limit = e.same_limit; moves = e.moves }) in
    both.moves

pub returns-in_err-expect_end-clause-reads : goal.returns-in_err-expect_end-clause-reads
returns-in_err-expect_end-clause-reads g c =
    let T = g.T.LinedText in
    let code : IsCode T.form = record { whole = c.read_lines.ensures.ends.whole; free = c.read_lines.ensures.ends.free } in
    let a = call_of g.S.Source.left g.S.Source.faults c.args.feed.now c.read_lines.new.feed in
    let b = call_of g.S.Source.left g.S.Source.faults c.read_lines.new.feed c.expect_end.new.feed in
    let all = call_of g.S.Source.left g.S.Source.faults c.args.feed.now c.expect_end.new.feed in
    let now = lines_read c.read_lines.new.lines in
    let it = c.in_ok-text.text in
    let r = c.in_ok-text.ensures.reads in
    let p = r.advance in
    let m = p.moves in
    let e = c.in_err-expect_end.field-0.0 in
    reader_failed T.form T.in_range T.text all c.from_residual-in_err-expect_end.result e c.from_residual-in_err-expect_end.ensures.1
    (cause_of_more T.form code a b now e p.limit m.grows (lines_of_text T.form T.text a it (lines_read c.new-lines.result) now c.new-lines.ensures (g.met.T.LinedText.formed it r.read.0) r.read.1) c.in_err-expect_end.ensures.refused)

pub returns-clause-moves : goal.returns-clause-moves
returns-clause-moves g c =
    let e = c.in_ok-expect_end.ensures in
    let end = place_of g.S.Source.left g.S.Source.faults c.expect_end.new.feed c.expect_end.new.lines in
    let both = advances_then {w = end} c.in_ok-text.ensures.reads.advance (record { source = e.same_source; limit = e.same_limit; moves = e.moves }) in
    both.moves

pub returns-clause-reads : goal.returns-clause-reads
returns-clause-reads g c =
    let T = g.T.LinedText in
    let a = call_of g.S.Source.left g.S.Source.faults c.args.feed.now c.read_lines.new.feed in
    let b = call_of g.S.Source.left g.S.Source.faults c.read_lines.new.feed c.expect_end.new.feed in
    let r = c.in_ok-text.ensures.reads in
    reader_done T.form T.in_range T.text a b c.in_ok-text.text (lines_read c.new-lines.result) (lines_read c.read_lines.new.lines) r.read.0 r.read.1 c.in_ok-expect_end.ensures.ended
