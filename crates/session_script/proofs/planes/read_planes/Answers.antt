use Rattle.pgm_planes.specs.declared.fault.Role.TheVariants.{Phase}
use Rattle.pgm_planes.specs.Planes.{sought_within}
use Rattle.session_script.proofs.CallLemmas.{goes, fails, gives, of_plane}
use Rattle.session_script.proofs.planes.read_planes.Goals as goal

pub returns-in_err-phase-clause-parses : goal.returns-in_err-phase-clause-parses
returns-in_err-phase-clause-parses g c = fails _ _ c.from_residual.ensures.1 (of_plane (sought_within c.args.extent Phase) _ _ _ c.read_plane_within.ensures.reads c.in_err-phase.ensures)

pub returns-in_err-weights-clause-parses : goal.returns-in_err-weights-clause-parses
returns-in_err-weights-clause-parses g c = goes _ _ (of_plane (sought_within c.args.extent Phase) _ _ _ c.read_plane_within.ensures.reads c.in_ok-phase.ensures) c.read_plane_within.ensures.limit (fails _ _ c.from_residual-in_err-weights.ensures.1 c.in_err-weights.ensures.parses)

pub returns-in_err-mask-clause-parses : goal.returns-in_err-mask-clause-parses
returns-in_err-mask-clause-parses g c =
    goes _ _ (of_plane (sought_within c.args.extent Phase) _ _ _ c.read_plane_within.ensures.reads c.in_ok-phase.ensures) c.read_plane_within.ensures.limit
    (goes _ _ c.in_ok-weights.ensures.parses c.in_ok-weights.ensures.limit (fails _ _ c.from_residual-in_err-mask.ensures.1 c.in_err-mask.ensures.parses))

pub returns-clause-parses : goal.returns-clause-parses
returns-clause-parses g c =
    goes _ _ (of_plane (sought_within c.args.extent Phase) _ _ _ c.read_plane_within.ensures.reads c.in_ok-phase.ensures) c.read_plane_within.ensures.limit
    (goes _ _ c.in_ok-weights.ensures.parses c.in_ok-weights.ensures.limit (goes _ _ c.in_ok-mask.ensures.parses c.in_ok-mask.ensures.limit (gives _)))
