use Rattle.std.proofs.Common.{arith}
use Rattle.tile_board.proofs.KeyLemmas.{unclaimed_are}
use Rattle.tile_board.proofs.lacking.LackingTiles.all.Goals as goal

pub returns-clause-count : goal.returns-clause-count
returns-clause-count c = omega (arith, c.in_ok-claims.claims.ok.0, c.in_ok-claims.ensures.len)

pub returns-clause-keys : goal.returns-clause-keys
returns-clause-keys c = unclaimed_are c.args.tiles c.in_ok-claims.claims.items c.in_ok-keys.keys (c.in_ok-claims.ensures.items_if_clones_equal (λ y h. h)) c.in_ok-keys.ensures
