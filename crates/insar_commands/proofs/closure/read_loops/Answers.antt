use Rattle.std.proofs.Common.{rules}
use Rattle.std.proofs.lemmas.Result.{err_from_is_err_and}
use Rattle.grid_writer.specs.Grids.{grid_of}
use Rattle.grid_writer.specs.ManyGrids.{grids_of}
use Rattle.insar_commands.proofs.LoopLemmas.{loop_cause, loop_read, sizes_are, three_are}
use Rattle.insar_commands.proofs.closure.read_loops.Goals as goal

pub close_loop-requires-clause-second : goal.close_loop-requires-clause-second
close_loop-requires-clause-second g c =
    let sizes = sizes_are c.as_slice.result.now c.in_ok-grids.grids.items c.as_slice.ensures.value c.a-item.result c.b-item.result c.c-item.result c.a-item.is c.b-item.is c.c-item.is c.in_ok-grids.ensures.alike in
    search (rules, sizes)

pub close_loop-requires-clause-third : goal.close_loop-requires-clause-third
close_loop-requires-clause-third g c =
    let sizes = sizes_are c.as_slice.result.now c.in_ok-grids.grids.items c.as_slice.ensures.value c.a-item.result c.b-item.result c.c-item.result c.a-item.is c.b-item.is c.c-item.is c.in_ok-grids.ensures.alike in
    search (rules, sizes)

pub returns-in_err-loops-clause-refused : goal.returns-in_err-loops-clause-refused
returns-in_err-loops-clause-refused g c =
    let p = err_from_is_err_and c.from_residual-in_err-loops.result c.from_residual-in_err-loops.ensures.1 in
    let are = three_are c.as_slice.result.now c.in_ok-grids.grids.items c.as_slice.ensures.value c.a-item.result c.b-item.result c.c-item.result c.a-item.is c.b-item.is c.c-item.is c.in_ok-grids.ensures.alike in
    rw (p.1, p.2) (
    loop_cause (g.S.Source.left c.args.source.now) (g.S.Source.left c.read_many.new.source) (grids_of c.in_ok-grids.grids.items) (grid_of c.a-item.result) (grid_of c.b-item.result) (grid_of c.c-item.result) are c.in_ok-grids.ensures.read
    (g.S.Source.faults c.args.source.now) (g.S.Source.faults c.read_many.new.source) c.in_err-loops.field-0.0 c.in_err-loops.ensures.refused
    )

pub returns-clause-read : goal.returns-clause-read
returns-clause-read g c =
    let are = three_are c.as_slice.result.now c.in_ok-grids.grids.items c.as_slice.ensures.value c.a-item.result c.b-item.result c.c-item.result c.a-item.is c.b-item.is c.c-item.is c.in_ok-grids.ensures.alike in
    let loops = c.in_ok-loops.ensures in
    loop_read (g.S.Source.left c.args.source.now) (g.S.Source.left c.read_many.new.source) (grids_of c.in_ok-grids.grids.items) (grid_of c.a-item.result) (grid_of c.b-item.result) (grid_of c.c-item.result) are c.in_ok-grids.ensures.read
    c.in_ok-loops.loops (record { closures = loops.closed; cycles = loops.whole; patches = loops.misclosed })
