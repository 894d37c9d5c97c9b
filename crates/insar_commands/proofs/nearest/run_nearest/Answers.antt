use Rattle.std.proofs.Common.{refl}
use Rattle.std.proofs.lemmas.Result.{err_from_is_err_and}
use Rattle.grid_writer.specs.Grids.{grid_of, text_of_grid}
use Rattle.insar_words.specs.declared.request.Request.TheVariants.{Nearest}
use Rattle.insar_commands.specs.Run.{Run, run_of}
use Rattle.insar_commands.proofs.AnswerLemmas.{put_ends, read_cause}
use Rattle.insar_commands.proofs.NearestLemmas.{nearest_ready}
use Rattle.insar_commands.proofs.nearest.run_nearest.Goals as goal

pub returns-in_err-output : goal.returns-in_err-output
returns-in_err-output g c =
    let p = err_from_is_err_and c.from_residual.result c.from_residual.ensures.1 in
    let run : Run = run_of g.S.Source.left g.S.Source.faults c.args.source.now c.read_nearest.new.source g.K.Sink.held g.K.Sink.faults c.args.sink.now c.args.sink.now in
    rw (p.1, p.2) (tt, read_cause Nearest run c.in_err-output.field-0.0 refl c.in_err-output.ensures.refused)

pub returns : goal.returns
returns g c =
    let output = grid_of c.in_ok-output.output in
    let run : Run = run_of g.S.Source.left g.S.Source.faults c.args.source.now c.read_nearest.new.source g.K.Sink.held g.K.Sink.faults c.args.sink.now c.write_values.new.sink in
    rw c.end_of.ensures (tt, put_ends Nearest run 0 (text_of_grid output) (nearest_ready run output c.write_values.ensures.ranges c.in_ok-output.ensures.read) c.write_values.result refl c.write_values.ensures.put)
