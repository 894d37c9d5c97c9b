use Rattle.std.proofs.Common.{◌≡◌, arith}
use Rattle.tile_board.proofs.KeyLemmas.{keys_more, keys_none}
use Rattle.tile_board.proofs.lacking.first_keys.Goals as goal

pub loop-tile-init : goal.loop-tile-init
loop-tile-init c = keys_none c.new-keys.result c.new-keys.ensures.empty

pub loop-tile-preserved : goal.loop-tile-preserved
loop-tile-preserved c = keys_more c.loop-tile.keys c.add_key.new.keys c.loop-tile.tile c.loop-tile.invariant c.in_ok-add_key.ensures.added

pub returns : goal.returns
returns c =
    let end : c.loop-tile.tile ≡ c.args.tiles = omega arith in
    rw end at c.loop-tile.invariant
