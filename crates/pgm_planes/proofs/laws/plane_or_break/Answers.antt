use Rattle.pgm_planes.proofs.PlaneAgain.{one_break, no_break_of_plane, plane_or_break}
use Rattle.pgm_planes.proofs.laws.plane_or_break.Goals as goal

pub returns-clause-either : goal.returns-clause-either
returns-clause-either c = plane_or_break

pub returns-clause-not_both : goal.returns-clause-not_both
returns-clause-not_both c = no_break_of_plane

pub returns-clause-one_break : goal.returns-clause-one_break
returns-clause-one_break c = one_break
