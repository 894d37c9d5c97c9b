use Rattle.session_script.proofs.WideLemmas.{tiled_is_whole}
use Rattle.session_script.proofs.laws.tiled_session_is_whole.Goals as goal

pub returns : goal.returns
returns c = tiled_is_whole
