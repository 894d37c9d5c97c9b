use Rattle.pgm_planes.proofs.AskLemmas.{ask_or_not, no_ask_behind}
use Rattle.pgm_planes.proofs.laws.ask_or_not.Goals as goal

pub returns-clause-either : goal.returns-clause-either
returns-clause-either c = ask_or_not

pub returns-clause-behind_plane : goal.returns-clause-behind_plane
returns-clause-behind_plane c = no_ask_behind
