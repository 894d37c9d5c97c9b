use Rattle.std.proofs.Common.{◌≡◌, ◌∙◌, ap, arith, refl}
use Rattle.raster_model.specs.declared.tiling.Window.{Window}
use Rattle.raster_model.specs.Tiles.{tile_at, window_of}
use Rattle.surface_snapshots.proofs.LevelLemmas.{row_reaches}
use Rattle.surface_snapshots.proofs.shifted.ShiftedTiles.fill_row.Goals as goal

pub loop-x-init : goal.loop-x-init
loop-x-init c = record { within = omega arith; size = refl; front = λ x below. absurd (omega (arith, below)) }

pub fill_piece-requires-clause-room : goal.fill_piece-requires-clause-room
fill_piece-requires-clause-room c = omega (arith, c.loop-x.invariant.size, c.requires.room)

pub fill_piece-requires-clause-front : goal.fill_piece-requires-clause-front
fill_piece-requires-clause-front c = c.loop-x.invariant.front

pub overflow_add-x : goal.overflow_add-x
overflow_add-x c =
    let s = c.args.self.now.scene.now in
    let t = tile_at s.tiling c.loop-x.x c.args.y in
    let r = row_reaches s.tiling c.loop-x.x c.args.y t (omega (arith, c.loop-x-test.true, s.same_width)) (omega (arith, c.requires.along, s.same_height)) refl in
    let end : c.window_at-window.result.x1 ≡ (window_of s.tiling t).x1 = ap (λ (v : Window). v.x1) c.window_at-window.ensures in
    omega (arith, r, end, s.tiling.wide)

pub loop-x-smaller : goal.loop-x-smaller
loop-x-smaller c =
    let s = c.args.self.now.scene.now in
    let t = tile_at s.tiling c.loop-x.x c.args.y in
    let r = row_reaches s.tiling c.loop-x.x c.args.y t (omega (arith, c.loop-x-test.true, s.same_width)) (omega (arith, c.requires.along, s.same_height)) refl in
    let end : c.window_at-window.result.x1 ≡ (window_of s.tiling t).x1 = ap (λ (v : Window). v.x1) c.window_at-window.ensures in
    omega (arith, r, end, s.same_width, c.loop-x-test.true)

pub loop-x-preserved : goal.loop-x-preserved
loop-x-preserved c =
    let s = c.args.self.now.scene.now in
    let t = tile_at s.tiling c.loop-x.x c.args.y in
    let r = row_reaches s.tiling c.loop-x.x c.args.y t (omega (arith, c.loop-x-test.true, s.same_width)) (omega (arith, c.requires.along, s.same_height)) refl in
    let end : c.window_at-window.result.x1 ≡ (window_of s.tiling t).x1 = ap (λ (v : Window). v.x1) c.window_at-window.ensures in
    record {
      within = omega (arith, r, end, s.same_width);
      size = c.fill_piece.ensures.same ∙ c.loop-x.invariant.size;
      front = c.fill_piece.ensures.front;
    }

pub returns-clause-same : goal.returns-clause-same
returns-clause-same c = c.loop-x.invariant.size

pub returns-clause-front : goal.returns-clause-front
returns-clause-front c x below = c.loop-x.invariant.front x (omega (arith, below, c.loop-x-test.false))
