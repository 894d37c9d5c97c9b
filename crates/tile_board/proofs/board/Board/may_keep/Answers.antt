use Rattle.std.proofs.Common.{◌≡◌, ◌<◌, ◌∙◌, arith}
use Rattle.std.specs.Arc.{arc_value}
use Rattle.raster_model.specs.Tiles.{tiles_of}
use Rattle.tile_board.specs.Histories.{stamp_in}
use Rattle.tile_board.proofs.HeldLemmas.{stamp_told}
use Rattle.tile_board.proofs.StateFacts.{gap_tells, held_tells}
use Rattle.tile_board.proofs.board.Board.may_keep.Goals as goal

pub returns-then-has-clause-refused : goal.returns-then-has-clause-refused
returns-then-has-clause-refused c =
    let i = c.self.inside in
    let k = c.args.solved.now in
    let below : k.tile < tiles_of (arc_value i.session).scene.tiling = omega (arith, c.if-solved-tile_count.false, rw c.deref.ensures at c.tile_count.ensures.count) in
    let stamp : k.stamp ≡ stamp_in (arc_value i.session) i.entries.items k.tile = c.if-solved-stamp.false ∙ c.stamp-stamp.ensures ∙ stamp_told c.self.invariant.past k.tile below in
    let kept = held_tells c.self.invariant k.tile c.if-has.ensures in
    rw (← c.self.view_is) ((below, stamp), kept)

pub returns-clause-may : goal.returns-clause-may
returns-clause-may c =
    let i = c.self.inside in
    let k = c.args.solved.now in
    let below : k.tile < tiles_of (arc_value i.session).scene.tiling = omega (arith, c.if-solved-tile_count.false, rw c.deref.ensures at c.tile_count.ensures.count) in
    let stamp : k.stamp ≡ stamp_in (arc_value i.session) i.entries.items k.tile = c.if-solved-stamp.false ∙ c.stamp-stamp.ensures ∙ stamp_told c.self.invariant.past k.tile below in
    let free = gap_tells c.self.invariant k.tile c.if-has.ensures in
    rw (← c.self.view_is) ((below, stamp), free)
