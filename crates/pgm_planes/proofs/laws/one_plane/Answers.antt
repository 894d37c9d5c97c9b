use Rattle.pgm_planes.proofs.PlaneAgain.{one_plane}
use Rattle.pgm_planes.proofs.laws.one_plane.Goals as goal

pub returns : goal.returns
returns c = one_plane
