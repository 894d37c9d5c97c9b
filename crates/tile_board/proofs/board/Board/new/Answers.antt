use Rattle.std.proofs.Common.{◌≡◌, ◌∙◌, ap, arith, length}
use Rattle.std.specs.Prelude.{map}
use Rattle.std.specs.Arc.{arc_value}
use Rattle.raster_model.specs.Tiles.{tiles_of}
use Rattle.surface_snapshots.specs.Views.{parts_of}
use Rattle.tile_board.proofs.LackingLemmas.{all_lacking}
use Rattle.tile_board.proofs.StateLemmas.{state_new}
use Rattle.tile_board.proofs.board.Board.new.Goals as goal

pub invariant_of-result : goal.invariant_of-result
invariant_of-result c =
    let s = arc_value c.args.session in
    let tiles : c.tile_count-tiles.result ≡ tiles_of s.scene.tiling = rw c.deref.ensures at c.tile_count-tiles.ensures.count in
    let kept = rw tiles at c.in_ok-kept.ensures in
    let surfaces = ap (map parts_of) c.new-3.ensures.items in
    let tiling = rw c.deref.ensures at c.in_ok-revisions.ensures.tiling in
    let revisions = rw (c.in_ok-first.ensures, c.deref-2.ensures) at c.in_ok-revisions.ensures.first in
    let lacking = all_lacking (tiles_of s.scene.tiling) c.in_ok-kept.kept c.in_ok-lacking.lacking kept (c.in_ok-lacking.ensures.count ∙ tiles) (rw tiles at c.in_ok-lacking.ensures.keys) in
    let scripts : c.len.result ≡ length s.scripts.items = omega (arith, rw c.deref-3.ensures at c.len.ensures, s.scripts.ok.0) in
    let cursors = rw scripts at (c.in_ok-cursors.ensures.items_if_clones_equal (λ y h. h)) in
    state_new s c.in_ok-revisions.revisions c.new-2.result.items c.in_ok-kept.kept (map parts_of c.new-3.result.items) c.in_ok-lacking.lacking c.in_ok-cursors.cursors.items c.new-2.ensures.items kept surfaces tiling revisions lacking cursors
