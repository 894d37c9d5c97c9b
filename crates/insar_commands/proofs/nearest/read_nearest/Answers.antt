use Rattle.std.proofs.lemmas.Result.{err_from_is_err_and}
use Rattle.grid_writer.specs.Grids.{grid_of}
use Rattle.session_script.specs.Sessions.{session_of}
use Rattle.insar_commands.proofs.NearestLemmas.{nearest_cause, nearest_read}
use Rattle.insar_commands.proofs.nearest.read_nearest.Goals as goal

pub returns-in_err-output-clause-refused : goal.returns-in_err-output-clause-refused
returns-in_err-output-clause-refused g c =
    let p = err_from_is_err_and c.from_residual-in_err-output.result c.from_residual-in_err-output.ensures.1 in
    let both = c.in_ok-session in
    rw (p.1, p.2) (
    nearest_cause (g.S.Source.left c.args.source.now) (g.S.Source.left c.read_both.new.source) (session_of both.session) (grid_of both.given) both.ensures.read
    (g.S.Source.faults c.args.source.now) (g.S.Source.faults c.read_both.new.source) c.in_err-output.field-0.0 c.in_err-output.ensures.refused
    )

pub returns-clause-read : goal.returns-clause-read
returns-clause-read g c =
    let both = c.in_ok-session in
    nearest_read (g.S.Source.left c.args.source.now) (g.S.Source.left c.read_both.new.source) (session_of both.session) (grid_of both.given) both.ensures.read (grid_of c.in_ok-output.output) c.in_ok-output.ensures.nearest
