use Rattle.std.proofs.Common.{◌≡◌, ◌∙◌, ◌+◌, ◌<◌, ◌≤◌, ap, arith, refl, subst, sym, ℕ}
use Rattle.std.specs.Prelude.{Some, slice_get}
use Rattle.raster_model.specs.declared.tiling.Window.{Window}
use Rattle.raster_model.specs.Tiles.{IsWithin, place_in, window_of}
use Rattle.raster_model.proofs.TileLemmas.{tiles_are_numbered}
use Rattle.surface_snapshots.proofs.LevelLemmas.{its_window, row_reaches, same_tile}
use Rattle.surface_snapshots.proofs.TiledLemmas.{span_labels}
use Rattle.surface_snapshots.proofs.shifted.ShiftedTiles.fill_piece.Goals as goal

pub tile-requires : goal.tile-requires
tile-requires c =
    let s = c.args.self.now.scene.now in
    rw (c.args.self.now.tiling, c.requires.tile) (tiles_are_numbered s.tiling c.args.x c.args.y (omega (arith, c.requires.pixel, s.same_width)) (omega (arith, c.requires.pixel, s.same_height)))

pub loop-column-init : goal.loop-column-init
loop-column-init c =
    let s = c.args.self.now.scene.now in
    let r = row_reaches s.tiling c.args.x c.args.y c.args.tile (omega (arith, c.requires.pixel, s.same_width)) (omega (arith, c.requires.pixel, s.same_height)) c.requires.tile in
    let end = ap (λ (v : Window). v.x1) c.requires.window in
    record { from = omega arith; within = omega (arith, r, end); size = refl; front = c.requires.front }

pub overflow_add-window : goal.overflow_add-window
overflow_add-window c =
    let s = c.args.self.now.scene.now in
    let r = row_reaches s.tiling c.args.x c.args.y c.args.tile (omega (arith, c.requires.pixel, s.same_width)) (omega (arith, c.requires.pixel, s.same_height)) c.requires.tile in
    let end = ap (λ (v : Window). v.x1) c.requires.window in
    omega (arith, r, end, s.tiling.wide)

pub overflow_add-left : goal.overflow_add-left
overflow_add-left c =
    let s = c.args.self.now.scene.now in
    let r = row_reaches s.tiling c.args.x c.args.y c.args.tile (omega (arith, c.requires.pixel, s.same_width)) (omega (arith, c.requires.pixel, s.same_height)) c.requires.tile in
    let end = ap (λ (v : Window). v.x1) c.requires.window in
    omega (arith, r, end, s.tiling.wide)

pub overflow_add-end : goal.overflow_add-end
overflow_add-end c =
    let s = c.args.self.now.scene.now in
    let r = row_reaches s.tiling c.args.x c.args.y c.args.tile (omega (arith, c.requires.pixel, s.same_width)) (omega (arith, c.requires.pixel, s.same_height)) c.requires.tile in
    let end = ap (λ (v : Window). v.x1) c.requires.window in
    omega (arith, r, end, s.tiling.wide, c.span-span.ensures.count, c.loop-column-test.true)

pub place-requires-clause-across : goal.place-requires-clause-across
place-requires-clause-across c =
    let s = c.args.self.now.scene.now in
    let w = its_window s.tiling c.args.x c.args.y c.args.tile (omega (arith, c.requires.pixel, s.same_width)) (omega (arith, c.requires.pixel, s.same_height)) c.requires.tile in
    rw c.requires.window (w.across.0, omega (arith, w.across.1, s.tiling.wide))

pub place-requires-clause-along : goal.place-requires-clause-along
place-requires-clause-along c =
    let s = c.args.self.now.scene.now in
    let w = its_window s.tiling c.args.x c.args.y c.args.tile (omega (arith, c.requires.pixel, s.same_width)) (omega (arith, c.requires.pixel, s.same_height)) c.requires.tile in
    rw c.requires.window (w.along.0, omega (arith, w.along.1, s.tiling.high))

pub place-requires-clause-pixel : goal.place-requires-clause-pixel
place-requires-clause-pixel c =
    let s = c.args.self.now.scene.now in
    let w = its_window s.tiling c.args.x c.args.y c.args.tile (omega (arith, c.requires.pixel, s.same_width)) (omega (arith, c.requires.pixel, s.same_height)) c.requires.tile in
    let inside : IsWithin c.args.window c.args.x c.args.y = rw c.requires.window ((w.pixels c.args.x c.args.y (omega (arith, c.requires.pixel, s.same_width)) (omega (arith, c.requires.pixel, s.same_height))).0 (sym c.requires.tile)) in
    (omega (arith, inside.0, c.loop-column.invariant.from), omega (arith, c.loop-column-test.true), inside.2, inside.3)

pub span-span-requires-clause-tile : goal.span-span-requires-clause-tile
span-span-requires-clause-tile c =
    let s = c.args.self.now.scene.now in
    rw (c.args.self.now.places, c.requires.tile) (tiles_are_numbered s.tiling c.args.x c.args.y (omega (arith, c.requires.pixel, s.same_width)) (omega (arith, c.requires.pixel, s.same_height)))

pub fill_span-requires-clause-span : goal.fill_span-requires-clause-span
fill_span-requires-clause-span c =
    let o = c.args.self.now in
    let s = o.scene.now in
    let x = c.loop-column.column in
    let y = c.args.y in
    let t = c.args.tile in
    let end = ap (λ (v : Window). v.x1) c.requires.window in
    let reach = row_reaches s.tiling c.args.x y t (omega (arith, c.requires.pixel, s.same_width)) (omega (arith, c.requires.pixel, s.same_height)) c.requires.tile in
    let same = same_tile s.tiling c.args.x y t (omega (arith, c.requires.pixel, s.same_width)) (omega (arith, c.requires.pixel, s.same_height)) c.requires.tile x c.loop-column.invariant.from (omega (arith, end, c.loop-column-test.true)) in
    let across : x < s.tiling.width = omega (arith, end, reach, c.loop-column-test.true) in
    let upto : x + c.span-span.result.count ≤ (window_of s.tiling t).x1 + 1 = omega (arith, end, c.span-span.ensures.count, c.loop-column-test.true) in
    let place : c.place.result ≡ place_in (window_of o.regions.now.tiling t) x y = c.place.ensures ∙ rw (o.places, c.requires.window) refl in
    record {
      across = (omega (arith, c.span-span.ensures.count), omega (arith, c.span-span.ensures.count, c.loop-column-test.true));
      row = c.requires.pixel.1;
      column = omega (arith, across, s.same_width);
      window = subst (λ (n : ℕ). c.args.window ≡ window_of s.tiling n) same c.requires.window;
      labels = span_labels o.regions.now x y t (rw o.places across) (rw o.places (omega (arith, c.requires.pixel, s.same_height))) (rw o.places same) c.span-span.result.count c.span-span.result.label (rw o.places upto)
          (λ p from below. c.span-span.ensures.label p (omega (arith, place, from)) (omega (arith, place, below)));
    }

pub fill_span-requires-clause-cycles : goal.fill_span-requires-clause-cycles
fill_span-requires-clause-cycles c =
    let o = c.args.self.now in
    let s = o.scene.now in
    let end = ap (λ (v : Window). v.x1) c.requires.window in
    let same = same_tile s.tiling c.args.x c.args.y c.args.tile (omega (arith, c.requires.pixel, s.same_width)) (omega (arith, c.requires.pixel, s.same_height)) c.requires.tile c.loop-column.column c.loop-column.invariant.from (omega (arith, end, c.loop-column-test.true)) in
    (c.tile.result.now, subst (λ (n : ℕ). slice_get o.tiles.now.results n ≡ Some c.tile.result.now) same c.tile.ensures.place, c.deref.ensures.value)

pub loop-column-preserved : goal.loop-column-preserved
loop-column-preserved c = record {
  from = omega (arith, c.loop-column.invariant.from);
  within = omega (arith, c.loop-column-test.true, c.span-span.ensures.count);
  size = c.fill_span.ensures.same ∙ c.loop-column.invariant.size;
  front = c.fill_span.ensures.front;
}

pub returns-clause-same : goal.returns-clause-same
returns-clause-same c = c.loop-column.invariant.size

pub returns-clause-front : goal.returns-clause-front
returns-clause-front c x below = c.loop-column.invariant.front x (omega (arith, below, c.loop-column-test.false))
