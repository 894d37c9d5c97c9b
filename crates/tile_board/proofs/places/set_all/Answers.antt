use Rattle.std.proofs.Common.{◌≡◌, ◌<◌, arith, length}
use Rattle.std.specs.Prelude.{slice_index}
use Rattle.tile_board.proofs.PlaceLemmas.{set_none, set_one_more}
use Rattle.tile_board.proofs.places.set_all.Goals as goal

pub loop-place-init : goal.loop-place-init
loop-place-init g c = set_none c.args.items.now c.args.places.now c.args.value

pub loop-place-preserved : goal.loop-place-preserved
loop-place-preserved g c =
    let n = c.loop-place.place-index in
    let inside : slice_index c.args.places.now n < length c.loop-place.items = omega (arith, c.requires n c.loop-place-test.true, c.loop-place.auto.items) in
    set_one_more c.args.items.now c.loop-place.items c.args.places.now n c.args.value c.loop-place.invariant inside

pub returns : goal.returns
returns g c =
    let end : c.loop-place.place-index ≡ length c.args.places.now = omega (arith, c.loop-place.auto.place-index-end, c.loop-place-test.false) in
    rw end at c.loop-place.invariant
