use Rattle.std.proofs.Common.{◌≡◌, arith, length}
use Rattle.tile_board.specs.Lacking.{with_listed}
use Rattle.tile_board.proofs.KeyLemmas.{again_more, again_none}
use Rattle.tile_board.proofs.lacking.restart.Goals as goal

pub loop-tile-init : goal.loop-tile-init
loop-tile-init c lacks fresh all = again_none lacks fresh c.args.claims.now c.args.keys.now c.args.tiles.now

pub restart_one-requires : goal.restart_one-requires
restart_one-requires c = omega (arith, c.requires c.loop-tile.tile-index c.loop-tile-test.true, c.loop-tile.auto.claims)

pub loop-tile-preserved : goal.loop-tile-preserved
loop-tile-preserved c lacks fresh all are =
    let n = c.loop-tile.tile-index in
    let tiles = c.args.tiles.now in
    again_more lacks fresh c.restart_one.new.claims c.restart_one.new.keys tiles n (c.restart_one.ensures (with_listed lacks tiles n) fresh (all n c.loop-tile-test.true) (c.loop-tile.invariant lacks fresh all are))

pub returns : goal.returns
returns c =
    let end : c.loop-tile.tile-index ≡ length c.args.tiles.now = omega (arith, c.loop-tile.auto.tile-index-end, c.loop-tile-test.false) in
    rw end at c.loop-tile.invariant
