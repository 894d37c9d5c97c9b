use Rattle.tile_board.proofs.OneScript.{one_script_tells_the_revision}
use Rattle.tile_board.proofs.laws.one_script_tells_the_revision.Goals as goal

pub returns : goal.returns
returns c = one_script_tells_the_revision
