use Rattle.std.proofs.Common.{◌≡◌, ◌∙◌, arith, length}
use Rattle.tile_board.proofs.KeyLemmas.{fresh_more, fresh_none}
use Rattle.tile_board.proofs.ListLemmas.{on_err}
use Rattle.tile_board.proofs.lacking.add_fresh.Goals as goal

pub loop-tile-init : goal.loop-tile-init
loop-tile-init c = fresh_none c.args.keys.now c.args.tiles.now

pub returns-in_err-add_key-clause-begun : goal.returns-in_err-add_key-clause-begun
returns-in_err-add_key-clause-begun c = on_err c.from_residual.result _ (c.loop-tile.tile-index, omega (arith, c.loop-tile-test.true), λ a b. c.in_err-add_key.ensures.refused a b ∙ c.loop-tile.invariant a b)

pub loop-tile-preserved : goal.loop-tile-preserved
loop-tile-preserved c = fresh_more c.args.keys.now c.loop-tile.keys c.add_key.new.keys c.args.tiles.now c.loop-tile.tile-index c.loop-tile.invariant c.in_ok-add_key.ensures.added

pub returns-clause-added : goal.returns-clause-added
returns-clause-added c =
    let end : c.loop-tile.tile-index ≡ length c.args.tiles.now = omega (arith, c.loop-tile.auto.tile-index-end, c.loop-tile-test.false) in
    rw end at c.loop-tile.invariant
