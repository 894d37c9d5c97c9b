use Rattle.std.proofs.Common.{◌≡◌, arith, length}
use Rattle.tile_board.specs.Lacking.{lacks_in, without_listed}
use Rattle.tile_board.proofs.KeyLemmas.{tidy_more, tidy_none}
use Rattle.tile_board.proofs.lacking.tidy.Goals as goal

pub loop-tile-init : goal.loop-tile-init
loop-tile-init c fresh = tidy_none (lacks_in c.args.kept.now) fresh c.args.claims.now c.args.keys.now c.args.tiles.now

pub tidy_one-requires-clause-exists : goal.tidy_one-requires-clause-exists
tidy_one-requires-clause-exists c = c.requires.exist c.loop-tile.tile-index c.loop-tile-test.true

pub loop-tile-preserved : goal.loop-tile-preserved
loop-tile-preserved c fresh are =
    let n = c.loop-tile.tile-index in
    let tiles = c.args.tiles.now in
    tidy_more (lacks_in c.args.kept.now) fresh c.args.claims.now c.tidy_one.new.keys tiles n (c.tidy_one.ensures (without_listed fresh tiles n) (c.loop-tile.invariant fresh are))

pub returns : goal.returns
returns c =
    let end : c.loop-tile.tile-index ≡ length c.args.tiles.now = omega (arith, c.loop-tile.auto.tile-index-end, c.loop-tile-test.false) in
    rw end at c.loop-tile.invariant
