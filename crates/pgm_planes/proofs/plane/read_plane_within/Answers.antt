use Rattle.pgm_planes.proofs.Words.{sought_within}
use Rattle.pgm_planes.proofs.AnswerLemmas.{takes_plane, has_cause, accepts_plane, cuts_plane}
use Rattle.pgm_planes.proofs.plane.read_plane_within.Goals as goal

pub returns-clause-read : goal.returns-clause-read
returns-clause-read g c = takes_plane (sought_within c.args.extent c.args.role) _ c.read_spelled.result c.read_spelled.ensures.reads

pub returns-clause-refused : goal.returns-clause-refused
returns-clause-refused g c = has_cause (sought_within c.args.extent c.args.role) _ c.read_spelled.result c.read_spelled.ensures.reads

pub returns-clause-accepted : goal.returns-clause-accepted
returns-clause-accepted g c = accepts_plane (sought_within c.args.extent c.args.role) _ c.read_spelled.result c.read_spelled.ensures.reads

pub returns-clause-cut : goal.returns-clause-cut
returns-clause-cut g c = cuts_plane (sought_within c.args.extent c.args.role) _ c.read_spelled.result c.read_spelled.ensures.reads
