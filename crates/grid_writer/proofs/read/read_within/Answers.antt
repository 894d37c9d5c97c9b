use Rattle.std.proofs.Common.{◌∙◌, ◌++◌}
use Rattle.std.specs.Prelude.{codes}
use Rattle.std.proofs.lemmas.Result.{err_from_is_err_and}
use Rattle.insar_ports.specs.Calls.{call_of}
use Rattle.text_lines.specs.LineWords.{lines_read}
use Rattle.text_lines.proofs.StepLemmas.{cause_begin, cause_join, fails_next, joined, moves_join, moves_on, texts_join}
use Rattle.grid_writer.specs.Grid.{columns_line, rows_line}
use Rattle.grid_writer.specs.GridParts.{IsBodyText, IsCountLine, IsGridTextIn}
use Rattle.grid_writer.specs.Grids.{value_at}
use Rattle.grid_writer.proofs.GridReads.{grid_read}
use Rattle.grid_writer.proofs.HeadLemmas.{columns_whole, grid_after, grid_first, grid_second}
use Rattle.grid_writer.proofs.SizeLemmas.{most_rows, sized_within, some_rows, wide_by, within_at}
use Rattle.grid_writer.proofs.read.read_within.Goals as goal

pub returns-in_err-width-clause-refused : goal.returns-in_err-width-clause-refused
returns-in_err-width-clause-refused g c =
    let s = c.args.sizes in
    let p = err_from_is_err_and c.from_residual.result c.from_residual.ensures.1 in
    rw (p.1, p.2) (cause_begin (IsCountLine (codes "ncols ") s.least_width s.most_width) (IsGridTextIn s) (grid_first s c.requires) (call_of g.S.Source.left g.S.Source.faults c.args.feed.now c.read_count.new.feed) (lines_read c.args.lines.now) c.in_err-width.field-0.0 c.in_err-width.ensures.refused)

pub read_count-requires-2-clause-some : goal.read_count-requires-2-clause-some
read_count-requires-2-clause-some g c = rw c.min-most_height.ensures (some_rows c.args.sizes c.requires c.in_ok-width.width c.in_ok-width.ensures.within.0 c.in_ok-width.ensures.within.1)

pub returns-in_err-height-clause-refused : goal.returns-in_err-height-clause-refused
unfolding columns_line
returns-in_err-height-clause-refused g c =
    let s = c.args.sizes in
    let w = c.in_ok-width.width in
    let p = err_from_is_err_and c.from_residual-in_err-height.result c.from_residual-in_err-height.ensures.1 in
    rw (p.1, p.2) (fails_next (IsGridTextIn s) (IsCountLine (codes "nrows ") s.least_height (most_rows s w)) (columns_line w) (columns_whole w) (grid_second s c.requires w c.in_ok-width.ensures.within.0 c.in_ok-width.ensures.within.1)
    (call_of g.S.Source.left g.S.Source.faults c.args.feed.now c.read_count.new.feed) (call_of g.S.Source.left g.S.Source.faults c.read_count.new.feed c.read_count-2.new.feed) (lines_read c.args.lines.now) (lines_read c.read_count.new.lines)
    c.in_err-height.field-0.0 c.read_count.ensures.same_limit c.read_count.ensures.moves c.in_ok-width.ensures.read (rw c.min-most_height.ensures at c.in_err-height.ensures.refused))

pub read_body-requires : goal.read_body-requires
read_body-requires g c =
    let w = c.in_ok-width in
    let h = c.in_ok-height in
    record { sized = wide_by w.width h.height (sized_within c.args.sizes c.requires w.width w.ensures.within.0 w.ensures.within.1 h.height h.ensures.within.0 (rw c.min-most_height.ensures at h.ensures.within.1)) }

pub returns-clause-moves : goal.returns-clause-moves
returns-clause-moves g c = moves_on (moves_on c.read_count.ensures.moves c.read_count-2.ensures.moves) c.read_body.ensures.moves

pub returns-clause-size : goal.returns-clause-size
returns-clause-size g c =
    let w = c.in_ok-width in
    let h = c.in_ok-height in
    within_at c.args.sizes c.requires w.width w.ensures.within.0 w.ensures.within.1 h.height h.ensures.within.0 (rw c.min-most_height.ensures at h.ensures.within.1)

pub returns-clause-read : goal.returns-clause-read
unfolding columns_line rows_line
returns-clause-read g c =
    let a = call_of g.S.Source.left g.S.Source.faults c.args.feed.now c.read_count.new.feed in
    let b = call_of g.S.Source.left g.S.Source.faults c.read_count.new.feed c.read_count-2.new.feed in
    let done = lines_read c.args.lines.now in
    let here = lines_read c.read_count-2.new.lines in
    let w = c.in_ok-width in
    let h = c.in_ok-height in
    grid_read w.width h.height (value_at w.width c.in_ok-values.values.items) (joined a b) (call_of g.S.Source.left g.S.Source.faults c.read_count-2.new.feed c.read_body.new.feed) done here _
    (texts_join a b (columns_line w.width) (rows_line h.height) done (lines_read c.read_count.new.lines) here w.ensures.read h.ensures.read) c.in_ok-values.ensures.read

pub returns-in_err-values-clause-refused : goal.returns-in_err-values-clause-refused
unfolding columns_line rows_line
returns-in_err-values-clause-refused g c =
    let s = c.args.sizes in
    let w = c.in_ok-width in
    let h = c.in_ok-height in
    let a = call_of g.S.Source.left g.S.Source.faults c.args.feed.now c.read_count.new.feed in
    let b = call_of g.S.Source.left g.S.Source.faults c.read_count.new.feed c.read_count-2.new.feed in
    let d = call_of g.S.Source.left g.S.Source.faults c.read_count-2.new.feed c.read_body.new.feed in
    let done = lines_read c.args.lines.now in
    let here = lines_read c.read_count-2.new.lines in
    let p = err_from_is_err_and c.from_residual-in_err-values.result c.from_residual-in_err-values.ensures.1 in
    rw (p.1, p.2) (cause_join (columns_line w.width ++ rows_line h.height) (IsBodyText w.width h.height) (IsGridTextIn s) (grid_after s c.requires w.width w.ensures.within.0 w.ensures.within.1 h.height h.ensures.within.0 (rw c.min-most_height.ensures at h.ensures.within.1)) (joined a b) d done here c.in_err-values.field-0.0 (c.read_count-2.ensures.same_limit ∙ c.read_count.ensures.same_limit)
    (moves_join a b c.read_count.ensures.moves c.read_count-2.ensures.moves) (texts_join a b (columns_line w.width) (rows_line h.height) done (lines_read c.read_count.new.lines) here w.ensures.read h.ensures.read) c.in_err-values.ensures.refused)

pub returns-in_err-values-clause-moves : goal.returns-in_err-values-clause-moves
returns-in_err-values-clause-moves g c = moves_on (moves_on c.read_count.ensures.moves c.read_count-2.ensures.moves) c.read_body.ensures.moves

pub returns-in_err-height-clause-moves : goal.returns-in_err-height-clause-moves
returns-in_err-height-clause-moves g c = moves_on c.read_count.ensures.moves c.read_count-2.ensures.moves
