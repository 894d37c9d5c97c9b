use Rattle.std.proofs.Common.{◌≡◌, refl, length, arith}
use Rattle.std.specs.Prelude.{Some, slice_get}
use Rattle.std.proofs.lemmas.Option.{slice_get_read}
use Rattle.tile_board.proofs.PlaceLemmas.{result_at, results_on, until_end}
use Rattle.tile_board.proofs.places.first_gap.Goals as goal

pub loop-tile-preserved : goal.loop-tile-preserved
loop-tile-preserved g c =
    let kept = c.args.kept.now in
    let t = c.loop-tile.tile in
    let here : slice_get kept t ≡ Some c.index-kept-tile.result = slice_get_read kept (length kept) t c.index-kept-tile.result refl c.loop-tile-test.true c.index-kept-tile.is in
    results_on kept t c.loop-tile.invariant (result_at kept t c.index-kept-tile.result here c.if-is_none.ensures)

pub returns : goal.returns
returns g c = until_end c.args.kept.now c.loop-tile.tile (omega (arith, c.loop-tile-test.false)) c.loop-tile.invariant
