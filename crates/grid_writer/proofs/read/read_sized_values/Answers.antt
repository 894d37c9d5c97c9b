use Rattle.std.proofs.lemmas.Result.{err_from_is_err_and}
use Rattle.insar_ports.specs.Calls.{call_of}
use Rattle.text_lines.specs.LineWords.{lines_read}
use Rattle.text_lines.proofs.StepLemmas.{cause_same}
use Rattle.grid_writer.specs.GridParts.{IsGridTextIn}
use Rattle.grid_writer.specs.Grids.{IsGridTextOf}
use Rattle.grid_writer.proofs.HeadLemmas.{known_size, known_sizes, one_size}
use Rattle.grid_writer.proofs.read.read_sized_values.Goals as goal

pub read_within-requires : goal.read_within-requires
read_within-requires g c = known_sizes c.args.width c.args.height c.requires.sized

pub returns-in_err-read_within-clause-refused : goal.returns-in_err-read_within-clause-refused
returns-in_err-read_within-clause-refused g c =
    let p = err_from_is_err_and c.from_residual.result c.from_residual.ensures.1 in
    rw (p.1, p.2) (cause_same (IsGridTextIn (known_size c.args.width c.args.height)) (IsGridTextOf c.args.width c.args.height) (one_size c.args.width c.args.height c.requires.sized) (call_of g.S.Source.left g.S.Source.faults c.args.feed.now c.read_within.new.feed) (lines_read c.args.lines.now) c.in_err-read_within.field-0.0 c.in_err-read_within.ensures.refused)
