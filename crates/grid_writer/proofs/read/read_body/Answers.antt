use Rattle.insar_ports.specs.Calls.{call_of}
use Rattle.std.proofs.lemmas.Result.{err_from_is_err_and}
use Rattle.text_lines.specs.Forms.{IsText}
use Rattle.text_lines.specs.LineWords.{lines_read}
use Rattle.text_lines.proofs.StepLemmas.{cause_begin, cause_join, moves_on, texts_join}
use Rattle.grid_writer.specs.Grid.{frame_lines, grid_rows}
use Rattle.grid_writer.specs.GridParts.{IsBodyText, IsRowsText}
use Rattle.grid_writer.specs.Grids.{value_at}
use Rattle.grid_writer.proofs.HeadLemmas.{body_after, body_first}
use Rattle.grid_writer.proofs.read.read_body.Goals as goal
use Rattle.std.proofs.Common.{refl}

pub returns-in_err-read_frame-clause-refused : goal.returns-in_err-read_frame-clause-refused
returns-in_err-read_frame-clause-refused g c =
    let p = err_from_is_err_and c.from_residual.result c.from_residual.ensures.1 in
    rw (p.1, p.2) (cause_begin (IsText frame_lines) (IsBodyText c.args.width c.args.height) (body_first c.args.width c.args.height) (call_of g.S.Source.left g.S.Source.faults c.args.feed.now c.read_frame.new.feed) (lines_read c.args.lines.now) c.in_err-read_frame.field-0.0 c.in_err-read_frame.ensures.refused)

pub returns-in_err-read_rows-clause-refused : goal.returns-in_err-read_rows-clause-refused
returns-in_err-read_rows-clause-refused g c =
    let p = err_from_is_err_and c.from_residual-in_err-read_rows.result c.from_residual-in_err-read_rows.ensures.1 in
    rw (p.1, p.2) (cause_join frame_lines (IsRowsText c.args.width c.args.height) (IsBodyText c.args.width c.args.height) (body_after c.args.width c.args.height frame_lines refl) (call_of g.S.Source.left g.S.Source.faults c.args.feed.now c.read_frame.new.feed) (call_of g.S.Source.left g.S.Source.faults c.read_frame.new.feed c.read_rows.new.feed)
    (lines_read c.args.lines.now) (lines_read c.read_frame.new.lines) c.in_err-read_rows.field-0.0 c.read_frame.ensures.same_limit c.read_frame.ensures.moves c.in_ok-read_frame.ensures.read c.in_err-read_rows.ensures.refused)

pub returns-clause-read : goal.returns-clause-read
returns-clause-read g c =
    texts_join (call_of g.S.Source.left g.S.Source.faults c.args.feed.now c.read_frame.new.feed) (call_of g.S.Source.left g.S.Source.faults c.read_frame.new.feed c.read_rows.new.feed) frame_lines (grid_rows c.args.width c.args.height (value_at c.args.width c.read_rows.new.values.items))
    (lines_read c.args.lines.now) (lines_read c.read_frame.new.lines) (lines_read c.read_rows.new.lines) c.in_ok-read_frame.ensures.read c.in_ok-read_rows.ensures.read

pub returns-in_err-read_rows-clause-moves : goal.returns-in_err-read_rows-clause-moves
returns-in_err-read_rows-clause-moves g c = moves_on c.read_frame.ensures.moves c.read_rows.ensures.moves

pub returns-clause-moves : goal.returns-clause-moves
returns-clause-moves g c = moves_on c.read_frame.ensures.moves c.read_rows.ensures.moves
