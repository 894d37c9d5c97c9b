use Rattle.std.proofs.lemmas.Result.{err_from_is_err_and}
use Rattle.grid_writer.specs.Grids.{grid_of}
use Rattle.loop_closure.proofs.LoopLemmas.{fault_told, wide_cause}
use Rattle.loop_closure.proofs.closing.close_loop.Goals as goal

pub returns-in_err-closures-clause-exact : goal.returns-in_err-closures-clause-exact
returns-in_err-closures-clause-exact c =
    let p = err_from_is_err_and c.from_residual-in_err-closures.result c.from_residual-in_err-closures.ensures.1 in
    λ x y wide. rw (p.1, p.2) (fault_told (grid_of c.args.a.now) (grid_of c.args.b.now) (grid_of c.args.c.now) c.in_err-closures.field-0.0 (wide_cause (grid_of c.args.a.now) (grid_of c.args.b.now) (grid_of c.args.c.now) c.in_err-closures.field-0.0 c.in_err-closures.ensures.refused) x y wide)

pub returns-clause-exact : goal.returns-clause-exact
returns-clause-exact c = λ x y wide. c.in_ok-closures.ensures.closed.narrow x y wide.0
