use Rattle.std.proofs.Common.{refl}
use Rattle.std.proofs.lemmas.Result.{err_from_is_err_and}
use Rattle.loop_closure.specs.LoopText.{loops_text}
use Rattle.insar_words.specs.declared.request.Request.TheVariants.{Closure}
use Rattle.insar_commands.specs.Run.{Run, run_of}
use Rattle.insar_commands.proofs.AnswerLemmas.{put_ends, read_cause}
use Rattle.insar_commands.proofs.LoopLemmas.{loop_ready}
use Rattle.insar_commands.proofs.closure.run_closure.Goals as goal

pub returns-in_err-loops : goal.returns-in_err-loops
returns-in_err-loops g c =
    let p = err_from_is_err_and c.from_residual.result c.from_residual.ensures.1 in
    let run : Run = run_of g.S.Source.left g.S.Source.faults c.args.source.now c.read_loops.new.source g.K.Sink.held g.K.Sink.faults c.args.sink.now c.args.sink.now in
    rw (p.1, p.2) (tt, read_cause Closure run c.in_err-loops.field-0.0 refl c.in_err-loops.ensures.refused)

pub returns : goal.returns
returns g c =
    let loops = c.in_ok-loops.loops in
    let run : Run = run_of g.S.Source.left g.S.Source.faults c.args.source.now c.read_loops.new.source g.K.Sink.held g.K.Sink.faults c.args.sink.now c.write_loops.new.sink in
    rw c.end_of.ensures (tt, put_ends Closure run 0 (loops_text loops) (loop_ready run loops c.in_ok-loops.ensures.read) c.write_loops.result refl c.write_loops.ensures)
