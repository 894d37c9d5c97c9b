use Rattle.std.proofs.Common.{subst}
use Rattle.std.proofs.lemmas.Result.{err_from_is_err_and}
use Rattle.displacement.specs.declared.sight.Sight.{Sight}
use Rattle.displacement.specs.Displacements.{HasCause, IsDisplacement}
use Rattle.grid_writer.specs.Grids.{grid_of}
use Rattle.grid_writer.specs.ManyGrids.{grids_of}
use Rattle.insar_commands.specs.Displacement.{sight_of}
use Rattle.insar_commands.proofs.SightLemmas.{one_is, sight_cause, sight_read}
use Rattle.insar_commands.proofs.displacements.read_displaced.Goals as goal

pub returns-in_err-output-clause-refused : goal.returns-in_err-output-clause-refused
returns-in_err-output-clause-refused g c =
    let p = err_from_is_err_and c.from_residual-in_err-output.result c.from_residual-in_err-output.ensures.1 in
    let is = one_is c.as_slice.result.now c.in_ok-grids.grids.items c.as_slice.ensures.value c.grid-item.result c.grid-item.is c.in_ok-grids.ensures.alike in
    let cause = subst (λ (s : Sight). HasCause s (grid_of c.grid-item.result) c.in_err-output.field-0.0) c.sight_of.ensures c.in_err-output.ensures.refused in
    rw (p.1, p.2) (
    sight_cause (sight_of c.args.displacing) (g.S.Source.left c.args.source.now) (g.S.Source.left c.read_many.new.source) (grids_of c.in_ok-grids.grids.items) (grid_of c.grid-item.result) is c.in_ok-grids.ensures.read
    (g.S.Source.faults c.args.source.now) (g.S.Source.faults c.read_many.new.source) c.in_err-output.field-0.0 cause
    )

pub returns-clause-read : goal.returns-clause-read
returns-clause-read g c =
    let is = one_is c.as_slice.result.now c.in_ok-grids.grids.items c.as_slice.ensures.value c.grid-item.result c.grid-item.is c.in_ok-grids.ensures.alike in
    let output = grid_of c.in_ok-output.output in
    sight_read (sight_of c.args.displacing) (g.S.Source.left c.args.source.now) (g.S.Source.left c.read_many.new.source) (grids_of c.in_ok-grids.grids.items) (grid_of c.grid-item.result) is c.in_ok-grids.ensures.read output
    (subst (λ (s : Sight). IsDisplacement s (grid_of c.grid-item.result) output) c.sight_of.ensures c.in_ok-output.ensures.displaced)
