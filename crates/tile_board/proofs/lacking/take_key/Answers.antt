use Rattle.tile_board.proofs.KeyLemmas.{taken_is}
use Rattle.tile_board.proofs.lacking.take_key.Goals as goal

pub returns : goal.returns
returns c = taken_is c.args.keys.now _ c.args.claims c.args.tile c.remove.ensures.updates
