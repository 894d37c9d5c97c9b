use Rattle.std.proofs.Common.{refl}
use Rattle.tile_board.proofs.KeyLemmas.{lacking_again}
use Rattle.tile_board.proofs.lacking.restart_one.Goals as goal

pub returns : goal.returns
returns c lacks fresh first = lacking_again lacks fresh c.args.claims.now c.args.keys.now c.take_claimed.new.keys c.args.tile _ c.requires refl first c.take_claimed.ensures
