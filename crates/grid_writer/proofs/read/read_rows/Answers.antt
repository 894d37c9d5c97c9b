use Rattle.std.proofs.Common.{◌∙◌, ◌++◌, ◌∷◌, ◌+◌, ap, length, refl, sym, arith, []}
use Rattle.std.proofs.lemmas.List.{length-append}
use Rattle.std.proofs.lemmas.List.Elements.{All-append, All-nil, All-same}
use Rattle.std.proofs.lemmas.Result.{err_from_is_err_and}
use Rattle.insar_ports.specs.Calls.{call_of}
use Rattle.insar_ports.specs.Feeding.{faults_of, handed_of, left_of, limit_of}
use Rattle.insar_ports.proofs.CallLemmas.{stays}
use Rattle.text_lines.specs.LineWords.{lines_read}
use Rattle.text_lines.specs.Numbers.{FitsLong, numbers_line}
use Rattle.text_lines.proofs.LineLemmas.{takes_nothing}
use Rattle.text_lines.proofs.StepLemmas.{fails_next, joined, moves_join, moves_on, texts_are, texts_join}
use Rattle.grid_writer.specs.Grid.{grid_rows}
use Rattle.grid_writer.specs.Grids.{value_at}
use Rattle.grid_writer.specs.GridParts.{IsRowLine, IsRowsText}
use Rattle.grid_writer.proofs.RowsLemmas.{row_first, rows_whole}
use Rattle.grid_writer.proofs.ValueLemmas.{rows_none, rows_push}
use Rattle.grid_writer.proofs.read.read_rows.Goals as goal

pub loop-init : goal.loop-init
loop-init g c = record {
  name = refl;
  limit = refl;
  moves = stays (left_of g.S.Source.left c.args.feed.now) (left_of g.S.Source.left c.args.feed.now) (handed_of c.args.feed.now) (handed_of c.args.feed.now) (limit_of c.args.feed.now) (faults_of g.S.Source.faults c.args.feed.now) (faults_of g.S.Source.faults c.args.feed.now) refl refl (omega arith);
  full = let e = ap length c.requires.empty in omega (arith, e);
  longs = All-same FitsLong c.args.values.now.items [] c.requires.empty (All-nil FitsLong);
  taken = takes_nothing (left_of g.S.Source.left c.args.feed.now) (handed_of c.args.feed.now) (limit_of c.args.feed.now) (faults_of g.S.Source.faults c.args.feed.now) (faults_of g.S.Source.faults c.args.feed.now) (grid_rows c.args.width 0 (value_at c.args.width c.args.values.now.items)) (lines_read c.args.lines.now) (rows_none c.args.width (value_at c.args.width c.args.values.now.items));
}

pub loop-preserved : goal.loop-preserved
loop-preserved g c =
    let r = c.in_ok-read_row.ensures.read in
    let i = c.loop.invariant in
    let a = call_of g.S.Source.left g.S.Source.faults c.args.feed.now c.loop.feed in
    let b = call_of g.S.Source.left g.S.Source.faults c.loop.feed c.read_row.new.feed in
    let rows = grid_rows c.args.width c.loop.counter (value_at c.args.width c.loop.values.items) in
    let done = lines_read c.args.lines.now in
    record {
      name = c.read_row.ensures.same_source ∙ i.name;
      limit = c.read_row.ensures.same_limit ∙ i.limit;
      moves = moves_join a b i.moves c.read_row.ensures.moves;
      full =
          let e = ap length r.1.0 in
          let n = r.1.1.0 in
          let f = i.full in
          omega (arith, e, n, f, length-append c.loop.values.items r.0);
      longs = All-same FitsLong c.read_row.new.values.items (c.loop.values.items ++ r.0) r.1.0 (All-append FitsLong c.loop.values.items r.0 i.longs r.1.1.1.0);
      taken = rw r.1.0 (texts_are (joined a b) (rows ++ (numbers_line r.0 ++ 10 ∷ [])) (grid_rows c.args.width (c.loop.counter + 1) (value_at c.args.width (c.loop.values.items ++ r.0))) done (lines_read c.read_row.new.lines) (sym (rows_push c.args.width c.loop.counter c.loop.values.items r.0 i.full r.1.1.0))
          (texts_join a b rows (numbers_line r.0 ++ 10 ∷ []) done (lines_read c.loop.lines) (lines_read c.read_row.new.lines) i.taken r.1.1.1.1));
    }

pub returns-in_err-read_row-clause-refused : goal.returns-in_err-read_row-clause-refused
returns-in_err-read_row-clause-refused g c =
    let i = c.loop.invariant in
    let v = value_at c.args.width c.loop.values.items in
    let p = err_from_is_err_and c.from_residual.result c.from_residual.ensures.1 in
    rw (p.1, p.2) (fails_next (IsRowsText c.args.width c.args.height) (IsRowLine c.args.width) (grid_rows c.args.width c.loop.counter v) (rows_whole c.args.width c.loop.counter v) (row_first c.args.width c.args.height c.loop.counter c.loop.values.items i.full i.longs (omega arith))
    (call_of g.S.Source.left g.S.Source.faults c.args.feed.now c.loop.feed) (call_of g.S.Source.left g.S.Source.faults c.loop.feed c.read_row.new.feed) (lines_read c.args.lines.now) (lines_read c.loop.lines) c.in_err-read_row.field-0.0 i.limit i.moves i.taken c.in_err-read_row.ensures.refused)

pub returns-in_err-read_row-clause-moves : goal.returns-in_err-read_row-clause-moves
returns-in_err-read_row-clause-moves g c = moves_on c.loop.invariant.moves c.read_row.ensures.moves
