use Rattle.std.proofs.Common.{arith}
use Rattle.tile_board.proofs.KeyLemmas.{taken_claimed, taken_unclaimed}
use Rattle.tile_board.proofs.lacking.take_claimed.Goals as goal

pub returns-then-claims-eq0 : goal.returns-then-claims-eq0
returns-then-claims-eq0 c = taken_unclaimed c.args.keys.now c.args.claims c.args.tile (omega arith)

pub returns : goal.returns
returns c = taken_claimed c.args.keys.now c.take_key.new.keys c.args.claims c.args.tile (omega arith) c.take_key.ensures
