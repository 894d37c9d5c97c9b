use Rattle.std.proofs.Common.{◌≡◌, ◌<◌, arith, length}
use Rattle.std.specs.Prelude.{None, slice_index}
use Rattle.tile_board.proofs.PlaceLemmas.{set_none, set_one_more}
use Rattle.tile_board.proofs.places.empty.Goals as goal

pub loop-tile-init : goal.loop-tile-init
loop-tile-init g c = set_none c.args.kept.now c.args.tiles.now None

pub loop-tile-preserved : goal.loop-tile-preserved
loop-tile-preserved g c =
    let n = c.loop-tile.tile-index in
    let inside : slice_index c.args.tiles.now n < length c.loop-tile.kept = omega (arith, c.requires n c.loop-tile-test.true, c.loop-tile.auto.kept) in
    set_one_more c.args.kept.now c.loop-tile.kept c.args.tiles.now n None c.loop-tile.invariant inside

pub returns : goal.returns
returns g c =
    let end : c.loop-tile.tile-index ≡ length c.args.tiles.now = omega (arith, c.loop-tile.auto.tile-index-end, c.loop-tile-test.false) in
    rw end at c.loop-tile.invariant
